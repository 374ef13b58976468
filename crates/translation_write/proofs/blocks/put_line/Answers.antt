use Rattle.translation_write.specs.Blocks.{line_put}
use Rattle.translation_write.proofs.blocks.put_line.Goals as goal

pub line_at-line-requires : goal.line_at-line-requires
line_at-line-requires c = let p = c.requires in (rw c.word_at-k.ensures p.0.rule, rw c.word_at-k.ensures p.1)

pub returns : goal.returns
returns c =
    line_put _ _ _ _ _ _ _ _ _ _ _ _ _
    c.word_at-k.ensures
    c.line_at-line.ensures
    c.value_of-first.ensures
    c.value_of-second.ensures
    c.value_of-third.ensures
    c.put_record.ensures
