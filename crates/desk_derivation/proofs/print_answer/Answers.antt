use borrow.Author.Rules.{rules}
use Rattle.programs_lines.specs.LineLaws.{line_slice}
use Rattle.desk_derivation.proofs.print_answer.Goals as goal

pub write_answer-requires : goal.write_answer-requires
write_answer-requires g c = line_slice _ _ _ _ _ c.put_answer-begin.ensures
