use Prim.Native.Nat.{◌+◌, ◌*◌, ◌-◌, ◌<◌}
use mathlib.Core.Path.{◌≡◌}
use lib.ListN.{get_or}
use Rattle.reader_slots.specs.Slots.{Search}
use Rattle.derivation_listed.specs.Listed.{spread, listed_key}
use Rattle.derivation_listed.proofs.listed.slot_of.Given as goal

abbrev pub invariant-loop-j : goal.invariant-loop-j
invariant-loop-j l =
    (l.slot < 4096 + 2 * l.i) × (l.j ≡ get_or l.slots l.slot 0) × Search (listed_key l.listed) l.slots (spread l.k) l.rest l.slot

abbrev pub decreases-loop-j : goal.decreases-loop-j
decreases-loop-j l = 4096 + 2 * l.i - l.slot
