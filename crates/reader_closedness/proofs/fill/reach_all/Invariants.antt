use Rattle.std.proofs.Common.{◌*◌}
use Rattle.reader.specs.Files.{words}
use Rattle.reader_closedness.specs.Reaches.{Reached}
use Rattle.reader_closedness.proofs.fill.reach_all.Given as goal

abbrev pub invariant-loop-i : goal.invariant-loop-i
invariant-loop-i l = Reached (words l.files) l.reaches (2 * l.i)
