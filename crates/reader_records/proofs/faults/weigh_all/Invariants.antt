use Rattle.reader.specs.Files.{words}
use Rattle.reader_records.specs.Tables.{Weighed}
use Rattle.reader_records.proofs.faults.weigh_all.Given as goal

abbrev pub invariant-loop-i : goal.invariant-loop-i
invariant-loop-i l = Weighed (words l.files) l.initial.table l.table l.i
