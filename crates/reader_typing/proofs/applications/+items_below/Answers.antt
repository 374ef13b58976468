use Rattle.reader_typing.specs.Applications.{next_falls, items_none, items_stop, items_go}
use Rattle.std.proofs.Common.{ap, not}
use Rattle.reader_typing.proofs.applications.+items_below.Goals as goal

pub returns-then-c-eq0 : goal.returns-then-c-eq0
returns-then-c-eq0 t c = search items_none

pub types_known-requires : goal.types_known-requires
types_known-requires t c = c.requires

pub returns-then-not-types_known : goal.returns-then-not-types_known
returns-then-not-types_known t c =
    items_stop _ _ _ c.if-c-eq0.false _ c.lower_at-item.ensures _ c.types_known.ensures.0 (ap not c.if-not-types_known.true)

pub items_below-requires : goal.items_below-requires
items_below-requires t c = (
  next_falls _ _ _ t c.decreases
      c.if-c-eq0.false c.lower_at-rest.ensures,
  c.types_known.ensures.1,
)

pub returns : goal.returns
returns t c =
    items_go _ _ _ c.if-c-eq0.false _
    c.lower_at-item.ensures _
    c.types_known.ensures.0 (ap not c.if-not-types_known.false) _ _
    c.lower_at-rest.ensures c.items_below.ensures
