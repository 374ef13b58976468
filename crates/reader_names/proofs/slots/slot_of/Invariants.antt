use Prim.Native.Nat.{◌+◌, ◌*◌, ◌-◌, ◌<◌}
use mathlib.Core.Path.{◌≡◌}
use lib.ListN.{get_or}
use Rattle.reader.specs.Files.{words}
use Rattle.reader_slots.specs.Slots.{Search}
use Rattle.reader_names.specs.NameKeys.{mixed, name_key}
use Rattle.reader_names.proofs.slots.slot_of.Given as goal

abbrev pub invariant-loop-j : goal.invariant-loop-j
invariant-loop-j l =
    (l.slot < 4096 + 2 * l.i) × (l.j ≡ get_or l.slots l.slot 0) × Search (name_key (words l.files)) l.slots (mixed l.parts) l.rest l.slot

abbrev pub decreases-loop-j : goal.decreases-loop-j
decreases-loop-j l = 4096 + 2 * l.i - l.slot
