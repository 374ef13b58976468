use Rattle.derivation_start.specs.Started.{formula_in, root_written}
use Rattle.derivation_start.proofs.start.store_start.Goals as goal

pub key_of-goal-requires : goal.key_of-goal-requires
key_of-goal-requires c = (c.requires.table, formula_in _ _ _ _ _ _ c.requires c.word_at-negated.ensures c.child_at-formula.ensures)

pub returns : goal.returns
returns c =
    root_written _ _ _ _ _ _ _ _ _ c.requires
    c.word_at-chain.ensures c.word_at-negated.ensures
    c.child_at-formula.ensures c.key_of-goal.ensures c.chain_length-count.ensures
    c.write.auto.frames c.write.ensures
