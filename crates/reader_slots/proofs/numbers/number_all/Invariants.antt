use Rattle.std.proofs.Common.{true}
use Rattle.reader.specs.Files.{words}
use Rattle.reader_equality.specs.Least.{Numbered}
use Rattle.reader_equality.specs.Keys.{key_from}
use Rattle.reader_slots.specs.Slots.{Placed, Entered}
use Rattle.reader_slots.specs.Numbers.{IsLeast}
use Rattle.reader_slots.proofs.numbers.number_all.Given as goal

abbrev pub invariant-loop-i : goal.invariant-loop-i
invariant-loop-i l = record {
  numbered : Numbered (words l.files) l.table l.i;
  placed : Placed (key_from (words l.files) true l.table) l.slots l.i;
  entered : Entered (IsLeast (words l.files)) l.slots l.i;
}
