use mathlib.Core.Path.{◌≡◌}
use Rattle.reader.specs.Files.{words}
use Rattle.reader.specs.Chains.{linked}
use Rattle.reader_names.specs.Plain.{records_differ}
use Rattle.reader_names.proofs.plain.records_differ.Given as goal

abbrev pub invariant-loop-r : goal.invariant-loop-r
invariant-loop-r l =
    records_differ (words l.files) (linked (words l.files) l.first) (linked (words l.files) l.other) ≡
    records_differ (words l.files) (linked (words l.files) l.r) (linked (words l.files) l.s)

abbrev pub decreases-loop-r : goal.decreases-loop-r
decreases-loop-r l = l.r
