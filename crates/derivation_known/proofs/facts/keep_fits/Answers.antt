use native.Mathlib.Omega.{arith}
use mathlib.Core.Path.{refl}
use lib.ListN.{length-set}
use Rattle.derivation_known.specs.Known.{fits_kept, fits_none}
use Rattle.derivation_known.proofs.facts.keep_fits.Goals as goal

pub returns-then-known-at : goal.returns-then-known-at
returns-then-known-at c = fits_none _ _ _ _ _

pub bounds-known-at-2 : goal.bounds-known-at-2
bounds-known-at-2 c = simp length-set (omega arith)

pub bounds-known-at-3 : goal.bounds-known-at-3
bounds-known-at-3 c = simp length-set (omega arith)

pub bounds-known-at-4 : goal.bounds-known-at-4
bounds-known-at-4 c = simp length-set (omega arith)

pub returns : goal.returns
returns c = fits_kept _ c.fits_row-at.result _ _ _ _ _ c.fits_row-at.ensures refl (omega arith)
