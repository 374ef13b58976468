use Prim.Native.Nat.{◌+◌, ◌-◌, ◌≤◌}
use mathlib.Core.Path.{◌≡◌}
use Rattle.reader.specs.Files.{words}
use Rattle.reader.specs.Answers.{first_fault}
use Rattle.reader.specs.Records.{record_fault}
use Rattle.reader_names.specs.Taken.{Names}
use Rattle.reader_equality.specs.Tables.{Zeros}
use Rattle.reader_weights.specs.Weights.{file_of}
use Rattle.reader_records.specs.Tables.{Weighed}
use Rattle.reader_records.proofs.faults.first_fault.Given as goal

abbrev pub invariant-loop-i : goal.invariant-loop-i
invariant-loop-i l = record {
  named : Names (words l.files) l.slots l.i;
  weighed : Weighed (words l.files) l.initial.table l.table l.i;
  none : first_fault (record_fault l.mode (words l.files)) (file_of l.mode) (l.last + 1 - l.first) l.first
      ≡ first_fault (record_fault l.mode (words l.files)) (file_of l.mode) (l.last + 1 - l.i) l.i;
  clear : Zeros l.seen;
  within : l.i ≤ l.first + (l.last + 1 - l.first);
}
