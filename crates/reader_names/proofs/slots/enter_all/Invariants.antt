use Rattle.std.proofs.Common.{◌+◌, ◌≤◌}
use Rattle.reader.specs.Files.{words}
use Rattle.reader_names.specs.Taken.{Names}
use Rattle.reader_names.proofs.slots.enter_all.Given as goal

abbrev pub invariant-loop-i : goal.invariant-loop-i
invariant-loop-i l = (l.i ≤ l.last + 1) × Names (words l.files) l.slots l.i
