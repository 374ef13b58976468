use Rattle.std.proofs.Common.{◌≡◌, ◌<◌, length, get_or-set_same, length-set, eqb-true, arith}
use Rattle.std.proofs.lemmas.Bool.{eqb-false}
use Rattle.reader_equality.specs.Least.{numbered_one, numbered_more, numbered_end}
use Rattle.reader_equality.specs.Tables.{zeros_filled}
use Rattle.reader_slots.specs.Slots.{placed_none, placed_set, entered_none}
use Rattle.reader_slots.specs.Numbers.{number_put, number_entered}
use Rattle.reader_slots.proofs.numbers.number_all.Goals as goal

pub returns-then-is_empty : goal.returns-then-is_empty
returns-then-is_empty c =
    let none : length c.args.table.now ≡ 0 = eqb-true _ _ (cc) in
    (record { holds = λ i h. absurd (omega arith) }, c.requires.2)

pub loop-i-init : goal.loop-i-init
loop-i-init c =
    let some : 0 < length c.args.table.now = omega (arith, eqb-false (length c.args.table.now) 0 (cc)) in
    record {
      numbered = numbered_one _ _ (get_or-set_same c.args.table.now 0 0 0 some);
      placed = placed_none _ _ c.requires.2;
      entered = entered_none _ _ c.requires.2;
    }

pub place-requires : goal.place-requires
place-requires c =
    let long = length-set c.args.table.now 0 0 in
    (omega arith, omega arith, omega arith, omega arith, c.loop-i.invariant.placed, c.record_at-x.ensures)

pub loop-i-preserved : goal.loop-i-preserved
loop-i-preserved c =
    let l = c.loop-i in
    let p = c.place.ensures in
    let number = number_put _ l.table _ _ l.i _ (omega arith) l.invariant.numbered l.invariant.entered p in
    record {
      numbered = numbered_more _ l.table l.i _ (omega arith) l.invariant.numbered number;
      placed = placed_set _ _ l.table _ l.i _ p.placed;
      entered = number_entered _ l.table _ _ l.i _ (omega arith) l.invariant.numbered l.invariant.entered p;
    }

pub returns : goal.returns
returns c =
    (numbered_end _ _ _ _ (omega arith) c.loop-i.invariant.numbered, zeros_filled _ _ (c.fill.ensures.after (λ y e. e)))
