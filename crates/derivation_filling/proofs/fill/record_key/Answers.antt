use native.Mathlib.Omega.{arith}
use lib.Dec.{lit<}
use mathlib.Core.Path.{refl}
use Rattle.reader_equality.specs.Keys.{part_in_table}
use Rattle.derivation_filling.specs.Filling.{made_false, made_true, made_not, made_all, made_record, part_is, part_small}
use Rattle.derivation_filling.proofs.fill.record_key.Goals as goal

pub returns-then-x : goal.returns-then-x
returns-then-x c = let p = c.requires in made_false _ _ _ _ _ p.0 c.record_at-x.ensures.kind_is p.4 c.if-x.true

pub returns-then-x-2 : goal.returns-then-x-2
returns-then-x-2 c = let p = c.requires in made_true _ _ _ _ _ p.0 c.record_at-x.ensures.kind_is p.4 c.if-x-2.true

pub offset_bounds-keys-part : goal.offset_bounds-keys-part
offset_bounds-keys-part c = let p = c.requires in let h = part_in_table _ c.args.keys.now _ _ _ _ p.0 p.1 c.part_of-part.ensures in omega (arith, h, p.1, p.2)

pub bounds-keys-part : goal.bounds-keys-part
bounds-keys-part c = search part_in_table

pub overflow_add-result : goal.overflow_add-result
overflow_add-result c =
    let p = c.requires in omega (arith, part_small _ _ _ _ _ _ _ _ p.0 c.part_of-part.ensures p.2 p.4 refl)

pub returns-then-x-3 : goal.returns-then-x-3
returns-then-x-3 c =
    let p = c.requires in let e = c.record_at-x.ensures in made_not _ _ _ _ _ p.0 e.kind_is p.4 c.if-x-3.true _ _ (part_is _ _ _ 1 _ e (lit< tt) c.part_of-part.ensures) refl

pub offset_bounds-keys-part-then-x-4 : goal.offset_bounds-keys-part-then-x-4
offset_bounds-keys-part-then-x-4 c = let p = c.requires in let h = part_in_table _ c.args.keys.now _ _ _ _ p.0 p.1 c.part_of-part-then-x-4.ensures in omega (arith, h, p.1, p.2)

pub bounds-keys-part-then-x-4 : goal.bounds-keys-part-then-x-4
bounds-keys-part-then-x-4 c = search part_in_table

pub returns-then-x-4 : goal.returns-then-x-4
returns-then-x-4 c =
    let p = c.requires in let e = c.record_at-x.ensures in made_all _ _ _ _ _ p.0 e.kind_is p.4 c.if-x-4.true _ _ (part_is _ _ _ 2 _ e (lit< tt) c.part_of-part-then-x-4.ensures) refl

pub returns : goal.returns
returns c =
    let p = c.requires in made_record _ _ _ _ _ p.0 c.record_at-x.ensures.kind_is p.4 c.if-x.false c.if-x-2.false c.if-x-3.false c.if-x-4.false _ _ p.2
    c.place.ensures
