use mathlib.Core.Path.{refl, ap}
use Rattle.reader.specs.declared.Answer.{Answer}
use Rattle.reader.specs.Files.{words}
use Rattle.reader.specs.RefusalLaws.{number_some}
use Rattle.derivation_known.specs.Known.{known_zeros}
use Rattle.derivation_check.specs.Entering.{enter_small, enter_indexed, enter_start, enter_root, enter_ready, walked_from}
use Rattle.derivation_check.proofs.check.walk_derivation.Goals as goal

pub prepare-requires : goal.prepare-requires
prepare-requires c = enter_small _ _ _ _ _ _ c.requires.0

pub returns-in_err-prepare : goal.returns-in_err-prepare
returns-in_err-prepare c = absurd (number_some _ (ap (λ (a : Answer). a.refusal) (c.in_err-prepare.ensures.accepts refl)))

pub reach_all-requires : goal.reach_all-requires
unfolding words
reach_all-requires c = enter_indexed _ _ _ _ _ _ c.requires.0

pub store_start-requires : goal.store_start-requires
unfolding words
store_start-requires c = enter_start _ _ _ _ _ _ c.requires.0 _ c.prepare.auto.keys (c.in_ok-prepare.ensures.table refl)

pub walk-requires : goal.walk-requires
unfolding words
walk-requires c =
    (enter_root _ _ _ _ _ _ c.requires.0 _ _ _ _ c.prepare.auto.keys (c.in_ok-prepare.ensures.table refl) c.store_start.ensures c.word_of-root.ensures, enter_ready _ _ _ _ _ _ c.requires.0 _ _ c.prepare.auto.keys c.reach_all.auto.reaches (c.in_ok-prepare.ensures.table refl) c.reach_all.ensures, known_zeros _ _ c.requires.1)

pub shape_of-keys : goal.shape_of-keys
shape_of-keys c = c.prepare.auto.keys

pub returns : goal.returns
unfolding words
returns c = walked_from _ _ _ _ _ _ _ c.word_of-root.ensures c.store_start.ensures c.walk.ensures.0
