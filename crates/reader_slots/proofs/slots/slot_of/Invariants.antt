use Prim.Native.Nat.{◌+◌, ◌*◌, ◌-◌, ◌<◌}
use mathlib.Core.Path.{◌≡◌}
use lib.ListN.{get_or}
use Rattle.reader.specs.Files.{words}
use Rattle.reader_equality.specs.Keys.{key_from}
use Rattle.reader_slots.specs.Slots.{Search}
use Rattle.reader_slots.proofs.slots.slot_of.Given as goal

abbrev pub invariant-loop-j : goal.invariant-loop-j
invariant-loop-j l =
    (l.slot < 4096 + 2 * l.i) × (l.j ≡ get_or l.slots l.slot 0) × Search (key_from (words l.files) l.types l.table) l.slots l.key l.rest l.slot

abbrev pub decreases-loop-j : goal.decreases-loop-j
decreases-loop-j l = 4096 + 2 * l.i - l.slot
