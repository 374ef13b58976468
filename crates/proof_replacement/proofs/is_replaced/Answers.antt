use native.Mathlib.Omega.{arith}
use Rattle.reader_equality.specs.Tables.{zeros_filled}
use Rattle.proof_replacement.specs.Fits.{fits_closed, fits_whole}
use Rattle.proof_replacement.specs.Remembered.{remembered_none}
use Rattle.proof_replacement.proofs.is_replaced.Goals as goal

pub returns-then-reach_of-eq0 : goal.returns-then-reach_of-eq0
returns-then-reach_of-eq0 c =
    (fits_whole _ _ _ _ _ (fits_closed _ _ _ _ _ _ c.reach_of.ensures (omega arith) _ c.same_at.ensures), c.requires.2)

pub fits_at-r-requires : goal.fits_at-r-requires
fits_at-r-requires c = let p = c.requires in (omega arith, p.0, p.1, remembered_none _ _ _ p.2)

pub returns : goal.returns
returns c = (fits_whole _ _ _ _ _ c.fits_at-r.ensures.0, zeros_filled _ _ (c.fill.ensures.after (λ y e. e)))
