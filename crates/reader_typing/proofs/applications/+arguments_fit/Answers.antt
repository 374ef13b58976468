use Rattle.reader_typing.specs.Applications.{next_falls, arguments_none, arguments_past, arguments_stop, arguments_go}
use Rattle.std.proofs.Common.{ap, not}
use Rattle.reader_typing.proofs.applications.+arguments_fit.Goals as goal

pub returns-then-a-eq0 : goal.returns-then-a-eq0
returns-then-a-eq0 t c = search arguments_none

pub returns-then-s-eq0 : goal.returns-then-s-eq0
returns-then-s-eq0 t c = search arguments_past

pub fits_at-requires : goal.fits_at-requires
fits_at-requires t c = c.requires

pub returns-then-not-fits_at : goal.returns-then-not-fits_at
returns-then-not-fits_at t c =
    arguments_stop _ _ _ _ c.if-a-eq0.false c.if-s-eq0.false _
    _ _ c.lower_at-item.ensures c.type_at-t.ensures
    c.lower_at-j.ensures _ c.fits_at.ensures.0 (ap not c.if-not-fits_at.true)

pub arguments_fit-requires : goal.arguments_fit-requires
arguments_fit-requires t c = (
  next_falls _ _ _ t c.decreases
      c.if-a-eq0.false c.lower_at-rest.ensures,
  (
    c.requires.0,
    c.fits_at.ensures.1,
  ),
)

pub returns : goal.returns
returns t c =
    arguments_go _ _ _ _ c.if-a-eq0.false
    c.if-s-eq0.false _ _ _
    c.lower_at-item.ensures
    c.type_at-t.ensures
    c.lower_at-j.ensures _
    c.fits_at.ensures.0 (ap not c.if-not-fits_at.false) _ _ _
    c.lower_at-rest.ensures c.lower_at-others.ensures c.arguments_fit.ensures
