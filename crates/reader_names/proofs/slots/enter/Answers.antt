use native.Mathlib.Omega.{arith}
use Rattle.reader.specs.Files.{words_small}
use Rattle.reader_names.specs.Plain.{plain_apart}
use Rattle.reader_names.specs.Taken.{enter_out, enter_old, enter_new}
use Rattle.reader_names.proofs.slots.enter.Goals as goal

pub returns-then-parts-eq0 : goal.returns-then-parts-eq0
returns-then-parts-eq0 c = search enter_out

pub slot_of-slot-requires : goal.slot_of-slot-requires
slot_of-slot-requires c = (
  c.requires.1.room,
  c.parts_of-parts.ensures,
  plain_apart _ (words_small c.args.files.now) _ _
      c.parts_of-parts.ensures c.if-parts-eq0.false _ c.plain_name-plain.ensures,
  c.requires.2.placed,
)

pub record_in-j-requires : goal.record_in-j-requires
record_in-j-requires c = omega (arith, c.slot_of-slot.ensures.inside, c.requires.1.room)

pub returns-then-j-ne0 : goal.returns-then-j-ne0
returns-then-j-ne0 c =
    let p = c.requires in enter_old _ _ _ _ p.0
    c.parts_of-parts.ensures p.2 c.if-parts-eq0.false _ c.slot_of-slot.ensures _
    c.record_in-j.ensures c.if-j-ne0.true

pub overflow_cast-slots : goal.overflow_cast-slots
overflow_cast-slots c = omega (arith, c.requires.1.small)

pub offset_bounds-slots-slot : goal.offset_bounds-slots-slot
offset_bounds-slots-slot c = omega (arith, c.slot_of-slot.ensures.inside, c.requires.1.room)

pub bounds-slots-slot : goal.bounds-slots-slot
bounds-slots-slot c = omega (arith, c.slot_of-slot.ensures.inside, c.requires.1.room)

pub returns : goal.returns
returns c =
    let p = c.requires in let e = c.slot_of-slot.ensures in enter_new _ _ _ _ p.0
    c.parts_of-parts.ensures p.2 c.if-parts-eq0.false _ e _ c.record_in-j.ensures c.if-j-ne0.false
    (omega (arith, e.inside, p.1.room))
