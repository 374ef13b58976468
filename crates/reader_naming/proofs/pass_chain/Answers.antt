use mathlib.Core.Path.{refl}
use Rattle.reader_naming.specs.Counts.{turn_start, turn_stop, turn_end, turn_next}
use Rattle.reader.specs.ChainLaws.{next_falls}
use Rattle.reader_naming.proofs.pass_chain.Goals as goal

pub loop-i-init : goal.loop-i-init
loop-i-init c = (search turn_start, refl, refl)

pub returns-then-entry-ge-TWICE : goal.returns-then-entry-ge-TWICE
returns-then-entry-ge-TWICE c = turn_stop _ _ _ _ _ _ _ c.entry.ensures c.if-entry-ge-TWICE.true c.loop-i.invariant.0

pub loop-i-smaller : goal.loop-i-smaller
loop-i-smaller c = search next_falls

pub loop-i-preserved : goal.loop-i-preserved
loop-i-preserved c =
    turn_next _ _ _ _ _ _ _ _ _ _ _ _ c.loop-i-test.true
    c.entry.ensures c.if-entry-ge-TWICE.false
    c.loop-i.invariant c.lower_at-i.ensures
    c.run_over.ensures

pub returns : goal.returns
returns c = turn_end _ _ _ _ _ _ c.loop-i-test.false c.loop-i.invariant.0
