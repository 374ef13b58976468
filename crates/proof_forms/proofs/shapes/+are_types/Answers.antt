use Rattle.reader.specs.TestLaws.{boths}
use Rattle.reader_typing.specs.Applications.{next_falls}
use Rattle.proof_forms.specs.Shapes.{types_end, types_over, types_next}
use Rattle.proof_forms.proofs.shapes.+are_types.Goals as goal

pub returns-then-c-eq0 : goal.returns-then-c-eq0
returns-then-c-eq0 t c = search types_end

pub returns-then-n-eq0 : goal.returns-then-n-eq0
returns-then-n-eq0 t c = search types_over

pub returns-then-not-has_shape : goal.returns-then-not-has_shape
returns-then-not-has_shape t c = search (types_next, boths)

pub are_types-requires : goal.are_types-requires
are_types-requires t c = (next_falls _ _ _ t c.decreases c.if-c-eq0.false c.lower_at-rest.ensures, tt)

pub returns : goal.returns
returns t c = search (types_next, boths)
