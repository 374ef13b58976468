use Rattle.reader_instances.specs.Instances.{remembered_none}
use Rattle.reader_typing.specs.Applications.{signature_none, signature_stop, signature_go}
use Rattle.std.proofs.Common.{ap, not}
use Rattle.reader_typing.proofs.applications.signature_fits.Goals as goal

pub returns-then-s-eq0 : goal.returns-then-s-eq0
returns-then-s-eq0 c = search signature_none

pub fits_at-requires : goal.fits_at-requires
fits_at-requires c = let p = c.requires in (p.0, remembered_none _ _ _ p.1)

pub returns-then-not-fits_at : goal.returns-then-not-fits_at
returns-then-not-fits_at c =
    signature_stop _ _ _ _ _ c.if-s-eq0.false _ c.lower_at-j.ensures _ c.fits_at.ensures.0 (ap not c.if-not-fits_at.true)

pub arguments_fit-requires : goal.arguments_fit-requires
arguments_fit-requires c = (c.requires.0, c.fits_at.ensures.1)

pub returns : goal.returns
returns c =
    signature_go _ _ _ _ _ c.if-s-eq0.false _
    c.lower_at-j.ensures _
    c.fits_at.ensures.0 (ap not c.if-not-fits_at.false) _ _
    c.lower_at-others.ensures c.arguments_fit.ensures
