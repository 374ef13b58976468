use native.Mathlib.Omega.{arith}
use mathlib.Core.Path.{refl}
use Rattle.std.proofs.Common.{ap, not}
use Rattle.std.proofs.lemmas.Result.{err_from_is_err_and}
use Rattle.reader.specs.RefusalLaws.{number_some}
use Rattle.reader_names.specs.Taken.{names_none}
use Rattle.reader_bodies.specs.Places.{blank_filled, refused_is, body_records, body_roots, body_passed}
use Rattle.reader_bodies.specs.Tables.{late_refused, names_on, weights_on}
use Rattle.reader_bodies.proofs.bodies.obligation_body.Goals as goal

pub first_fault-requires : goal.first_fault-requires
first_fault-requires c = let p = c.requires in (omega arith, p.0, blank_filled _ _ p.2, p.4, p.1, names_none _ _ p.3, p.5)

pub returns-in_err-first_fault : goal.returns-in_err-first_fault
returns-in_err-first_fault c =
    let p = err_from_is_err_and c.from_residual.result c.from_residual.ensures.1 in
    let f = c.in_err-first_fault.ensures in
    rw (p.1, p.2) (body_records _ _ _ f.0 (number_some _), f.1, f.2, f.3)

pub returns-then-not-roots_fit : goal.returns-then-not-roots_fit
returns-then-not-roots_fit c =
    let f = c.in_ok-first_fault.ensures in
    let e = refused_is _ _ _ c.refused.ensures in
    let late = late_refused _ _ e in (
      body_roots _ _ _ f.0 refl _ c.roots_fit.ensures _ (ap not c.if-not-roots_fit.true) e,
      f.1,
      names_on _ _ _ _ _ refl late _ f.2,
      weights_on _ _ _ _ _ refl late _ _ f.3,
    )

pub returns : goal.returns
returns c =
    let f = c.in_ok-first_fault.ensures in
    (body_passed _ _ _ f.0 refl _ c.roots_fit.ensures _ (ap not c.if-not-roots_fit.false) refl, f.1, f.2, f.3)
