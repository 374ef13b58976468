use native.Mathlib.Omega.{arith}
use Rattle.derivation_replacement.specs.Replaced.{rank_small, fits_whole}
use Rattle.derivation_replacement.proofs.replace.is_replaced.Goals as goal

pub fits_at-requires : goal.fits_at-requires
fits_at-requires c =
    let p = c.requires in record { tables = p.0; facts = p.1; whole = p.2; term = p.3; body = p.4; room = rank_small _ (omega arith) }

pub returns : goal.returns
returns c = let e = c.fits_at.ensures in (fits_whole _ _ _ _ _ e.0, e.1)
