use Rattle.translation_write.specs.Copies.{copy_rule, copy_other}
use Rattle.translation_write.proofs.copies.put_copy.Goals as goal

pub returns-then-is_rule : goal.returns-then-is_rule
returns-then-is_rule c =
    copy_rule _ _ _ _ _ _ c.word_at-k.ensures c.is_rule.ensures _ _
    c.if-is_rule.true c.put_record.ensures

pub returns : goal.returns
returns c =
    copy_other _ _ _ _ _ _ c.word_at-k.ensures c.is_rule.ensures _ _
    c.if-is_rule.false c.copy_record.ensures
