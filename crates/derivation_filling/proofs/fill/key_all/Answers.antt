use native.Mathlib.Omega.{arith}
use mathlib.Core.Path.{◌∙◌}
use lib.ListN.{length-set}
use lib.Seq.{get_or-set_same}
use Rattle.reader_equality.specs.Tables.{zeros_filled}
use Rattle.derivation_filling.specs.Filling.{filling_start, filling_more, table_empty, table_end}
use Rattle.derivation_filling.proofs.fill.key_all.Goals as goal

pub returns-then-keys-eq0 : goal.returns-then-keys-eq0
returns-then-keys-eq0 c = (table_empty _ _ c.if-keys-eq0.true, c.requires.2)

pub loop-i-init : goal.loop-i-init
loop-i-init c = filling_start _ _ _ (get_or-set_same c.args.keys.now 0 0 0 (omega arith)) c.requires.2

pub record_key-requires : goal.record_key-requires
record_key-requires c =
    let l = c.loop-i in let long = length-set c.args.keys.now 0 0 in (omega arith, omega (arith, l.auto.keys), omega (arith, long), omega (arith, long, l.auto.slots), l.invariant)

pub loop-i-preserved : goal.loop-i-preserved
loop-i-preserved c = let l = c.loop-i in filling_more _ l.keys _ _ l.i _ (omega arith) l.invariant c.record_key.ensures

pub shape_of-keys : goal.shape_of-keys
shape_of-keys c = c.loop-i.auto.keys ∙ length-set c.args.keys.now 0 0

pub shape_of-slots : goal.shape_of-slots
shape_of-slots c = c.fill.auto.self ∙ c.loop-i.auto.slots

pub returns : goal.returns
returns c =
    let l = c.loop-i in (
      table_end _ _ _ _ (omega (arith, l.auto.keys)) (omega (arith, l.auto.keys, length-set c.args.keys.now 0 0)) l.invariant,
      zeros_filled _ _ (c.fill.ensures.after (λ y e. e)),
    )
