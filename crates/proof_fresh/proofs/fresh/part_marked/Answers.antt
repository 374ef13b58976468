use borrow.Author.Rules.{rules}
use Rattle.proof_fresh.specs.Marks.{mark_part, part_low}
use Rattle.proof_fresh.proofs.fresh.part_marked.Goals as goal

pub is_marked-requires : goal.is_marked-requires
is_marked-requires c = (search rules, search part_low, search rules)

pub returns : goal.returns
returns c = search mark_part
