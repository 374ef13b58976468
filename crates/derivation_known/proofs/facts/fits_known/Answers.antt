use Rattle.derivation_known.specs.Known.{fits_found, fits_unknown}
use Rattle.derivation_known.proofs.facts.fits_known.Goals as goal

pub returns-then-entry_at-x : goal.returns-then-entry_at-x
returns-then-entry_at-x c = fits_unknown _ _ _ _ _

pub returns-then-entry_at-t : goal.returns-then-entry_at-t
returns-then-entry_at-t c = fits_unknown _ _ _ _ _

pub returns-then-entry_at-j : goal.returns-then-entry_at-j
returns-then-entry_at-j c = fits_unknown _ _ _ _ _

pub returns : goal.returns
returns c =
    fits_found _ c.fits_row-at.result _ _ _ _ _ _ _ _ c.fits_row-at.ensures c.entry_at.ensures c.if-entry_at-x.false c.entry_at-2.ensures c.if-entry_at-t.false c.entry_at-3.ensures c.if-entry_at-j.false c.entry_at-4.ensures
