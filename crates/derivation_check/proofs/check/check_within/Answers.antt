use native.Mathlib.Omega.{arith}
use mathlib.Core.Path.{refl, sym}
use Rattle.std.proofs.lemmas.Result.{err_from_is_err_and}
use Rattle.reader.specs.Files.{words}
use Rattle.reader.specs.RefusalLaws.{number_some}
use Rattle.derivation_check.specs.Entering.{check_refused, check_walked, counts_few, keys_within, reaches_within, entering, prefix_length}
use Rattle.derivation_check.proofs.check.check_within.Goals as goal

pub prepare-requires : goal.prepare-requires
prepare-requires c = c.requires.1.small

pub returns-in_err-prepare : goal.returns-in_err-prepare
returns-in_err-prepare c =
    let p = err_from_is_err_and c.from_residual.result c.from_residual.ensures.1 in
    rw (p.1, p.2) (check_refused _ _ _ (c.in_err-prepare.ensures.answers refl) (number_some _))

pub overflow_add-size : goal.overflow_add-size
overflow_add-size c = omega (arith, counts_few _ _ _ (c.in_ok-prepare.ensures.answers refl) refl _ _ c.requires.0 c.word_of.ensures)

pub overflow_add-size-2 : goal.overflow_add-size-2
overflow_add-size-2 c = omega (arith, counts_few _ _ _ (c.in_ok-prepare.ensures.answers refl) refl _ _ c.requires.0 c.word_of.ensures)

pub slice_bounds-walk_derivation-end : goal.slice_bounds-walk_derivation-end
slice_bounds-walk_derivation-end c =
    omega (arith, keys_within _ _ _ (c.in_ok-prepare.ensures.answers refl) refl _ _ c.requires.0 c.word_of.ensures _ _ _ c.requires.1, c.prepare.auto.keys)

pub slice_bounds-walk_derivation-end-2 : goal.slice_bounds-walk_derivation-end-2
slice_bounds-walk_derivation-end-2 c =
    sym (prefix_length _ _ (omega (arith, keys_within _ _ _ (c.in_ok-prepare.ensures.answers refl) refl _ _ c.requires.0 c.word_of.ensures _ _ _ c.requires.1, c.prepare.auto.keys)))

pub slice_bounds-walk_derivation-end-3 : goal.slice_bounds-walk_derivation-end-3
slice_bounds-walk_derivation-end-3 c =
    reaches_within _ _ _ (c.in_ok-prepare.ensures.answers refl) refl _ _ c.requires.0 c.word_of.ensures _ _ _ c.requires.1

pub slice_bounds-walk_derivation-end-4 : goal.slice_bounds-walk_derivation-end-4
slice_bounds-walk_derivation-end-4 c =
    sym (prefix_length _ _ (reaches_within _ _ _ (c.in_ok-prepare.ensures.answers refl) refl _ _ c.requires.0 c.word_of.ensures _ _ _ c.requires.1))

pub walk_derivation-requires : goal.walk_derivation-requires
walk_derivation-requires c =
    (entering _ _ _ (c.in_ok-prepare.ensures.answers refl) refl _ _ _ _ _ _ c.requires.0 c.word_of.ensures refl (prefix_length _ _ (omega (arith, keys_within _ _ _ (c.in_ok-prepare.ensures.answers refl) refl _ _ c.requires.0 c.word_of.ensures _ _ _ c.requires.1, c.prepare.auto.keys))) (prefix_length _ _ (reaches_within _ _ _ (c.in_ok-prepare.ensures.answers refl) refl _ _ c.requires.0 c.word_of.ensures _ _ _ c.requires.1)) c.requires.1.long, c.requires.2)

pub returns : goal.returns
unfolding words
returns c =
    check_walked _ _ _ (c.in_ok-prepare.ensures.answers refl) refl _ _ c.requires.0 c.walk_derivation.ensures
