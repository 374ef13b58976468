use native.Mathlib.Omega.{arith}
use Rattle.reader.specs.TestLaws.{boths, both_go}
use Rattle.reader_chains.specs.Outcomes.{found_false, found_true}
use Rattle.reader_chains.specs.Parts.{part_falls}
use Rattle.reader_variables.specs.Variables.{types_below_parts, types_none, types_more, types_part}
use Rattle.reader_instances.specs.Signatures.{known_more, known_is}
use Rattle.std.proofs.Common.{ap, not}
use Rattle.reader_instances.proofs.signatures.+parts_known_types_known.Goals as goal

pub parts_known-types_known-requires : goal.parts_known-types_known-requires
unfolding types_below_parts
parts_known-types_known-requires t c = (part_falls _ _ _ _ _ t c.decreases c.requires.0 c.part_at-x.ensures, c.requires.1)

pub parts_known-returns-then-not-types_known : goal.parts_known-returns-then-not-types_known
unfolding types_below_parts
parts_known-returns-then-not-types_known t c = (search (boths, types_part), c.types_known.ensures.1)

pub parts_known-types_known-requires-2 : goal.parts_known-types_known-requires-2
unfolding types_below_parts
parts_known-types_known-requires-2 t c = (part_falls _ _ _ _ _ t c.decreases c.requires.0 c.part_at-y.ensures, c.types_known.ensures.1)

pub parts_known-returns-then-not-types_known-2 : goal.parts_known-returns-then-not-types_known-2
unfolding types_below_parts
parts_known-returns-then-not-types_known-2 t c = (search (boths, types_part), c.types_known-2.ensures.1)

pub parts_known-types_known-requires-3 : goal.parts_known-types_known-requires-3
unfolding types_below_parts
parts_known-types_known-requires-3 t c = (part_falls _ _ _ _ _ t c.decreases c.requires.0 c.part_at-z.ensures, c.types_known-2.ensures.1)

pub parts_known-returns : goal.parts_known-returns
unfolding types_below_parts
parts_known-returns t c = (search (boths, types_part), c.types_known-3.ensures.1)

pub types_known-returns-then-i-eq0 : goal.types_known-returns-then-i-eq0
unfolding types_below_parts
types_known-returns-then-i-eq0 t c = (search types_none, c.requires)

pub types_known-returns-then-entry_at-ne0 : goal.types_known-returns-then-entry_at-ne0
unfolding types_below_parts
types_known-returns-then-entry_at-ne0 t c = (search known_is, c.requires)

pub types_known-returns-then-not-type_variable_below : goal.types_known-returns-then-not-type_variable_below
unfolding types_below_parts
types_known-returns-then-not-type_variable_below t c = (search (types_more, boths), c.requires)

pub types_known-parts_known-requires : goal.types_known-parts_known-requires
unfolding types_below_parts
types_known-parts_known-requires t c = (omega arith, (omega arith, c.requires))

pub types_known-returns-then-not-parts_known : goal.types_known-returns-then-not-parts_known
unfolding types_below_parts
types_known-returns-then-not-parts_known t c = (
  types_more _ _ _ _ _ c.if-i-eq0.false
      c.word_at-k.ensures (both_go _ _ _ _ c.type_variable_below.ensures
      (ap not c.if-not-type_variable_below.false) (found_false _ _ c.parts_known.ensures.0 (ap not c.if-not-parts_known.true))),
  c.parts_known.ensures.1,
)

pub types_known-returns : goal.types_known-returns
unfolding types_below_parts
types_known-returns t c =
    let e = types_more _ _ _ _ _ c.if-i-eq0.false
    c.word_at-k.ensures
    (both_go _ _ _ _ c.type_variable_below.ensures
    (ap not c.if-not-type_variable_below.false) (found_true _ _ c.parts_known.ensures.0
    (ap not c.if-not-parts_known.false))) in (
      e,
      known_more _ _ _ _ _ _ c.parts_known.ensures.1 e
          c.store.ensures,
    )
