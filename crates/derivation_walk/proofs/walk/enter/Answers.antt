use mathlib.Core.Path.{refl}
use Rattle.std.proofs.lemmas.Result.{err_from_is_err_and}
use Rattle.reader.specs.RefusalLaws.{number_some}
use Rattle.derivation_walk.specs.Turns.{opened_not, opened_passed, opened_place, opened_none, opened_first}
use Rattle.derivation_walk.proofs.walk.enter.Goals as goal

pub returns-in_err-node_fault : goal.returns-in_err-node_fault
returns-in_err-node_fault c =
    let p = err_from_is_err_and c.from_residual.result c.from_residual.ensures.1 in
    let f = c.in_err-node_fault.ensures in
    rw (p.1, p.2) (f.0, opened_not _ _ _ _ _ f.0 _ (number_some _), f.1, f.2, refl)

pub returns-then-c-eq0 : goal.returns-then-c-eq0
returns-then-c-eq0 c = let f = c.in_ok-node_fault.ensures in (f.0, opened_none _ _ _ _ _ _ c.lower_at-c.ensures c.if-c-eq0.true, f.1, f.2, refl)

pub push_premise-requires : goal.push_premise-requires
push_premise-requires c = let f = c.in_ok-node_fault.ensures in (c.requires.0, opened_passed _ _ _ _ _ f.0 refl, opened_place _ _ _ _ _ f.0 refl _ c.lower_at-c.ensures c.if-c-eq0.false)

pub returns : goal.returns
returns c = let f = c.in_ok-node_fault.ensures in (f.0, opened_first _ _ _ _ _ _ c.push_premise.ensures, f.1, f.2, c.push_premise.auto.frames)
