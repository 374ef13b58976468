use mathlib.Core.Path.{refl}
use Rattle.reader.specs.Files.{words}
use Rattle.proof_check.specs.Started.{enter_start, enter_at, enter_rule, enter_count, walk_proof}
use Rattle.proof_check.proofs.check.walk_proof.Goals as goal

pub store_start-h-requires : goal.store_start-h-requires
unfolding words
store_start-h-requires c = enter_start _ _ _ _ _ _ c.requires

pub walk_node-requires : goal.walk_node-requires
unfolding words
walk_node-requires c =
    let p = c.requires
    in (
      enter_at _ _ _ _ _ _ p _ _ _ _ refl p.blank c.store_start-h.ensures.0
          c.word_of-root.ensures,
      enter_rule _ _ _ _ _ _ p _ c.word_of-root.ensures,
      enter_count _ _ _ _ _ _ p _
          c.word_of-root.ensures,
      c.reach_all.ensures,
    )

pub returns : goal.returns
returns c =
    walk_proof _ _ _ _ _ _ c.word_of-root.ensures
    c.store_start-h.ensures.1 c.walk_node.ensures.0
