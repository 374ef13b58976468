use mathlib.Core.Path.{◌≡◌}
use Rattle.reader.specs.Files.{words}
use Rattle.reader_names.specs.Symbols.{all_have_bytes}
use Rattle.reader_names.proofs.all_have_bytes.Given as goal

abbrev pub invariant-loop-c : goal.invariant-loop-c
invariant-loop-c l = all_have_bytes (words l.files) l.first ≡ all_have_bytes (words l.files) l.c

abbrev pub decreases-loop-c : goal.decreases-loop-c
decreases-loop-c l = l.c
