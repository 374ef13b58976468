use Prim.Native.Nat.{◌+◌, ◌*◌, ◌-◌, ◌≤◌}
use mathlib.Core.Path.{◌≡◌}
use lib.ListN.{length, drop}
use Rattle.reader.specs.Files.{words}
use Rattle.translation_rules.specs.Output.{base_of}
use Rattle.translation_values.specs.Ends.{Ends}
use Rattle.translation_values.proofs.ends.fill_ends.Given as goal

abbrev pub invariant-loop-i : goal.invariant-loop-i
invariant-loop-i l =
    (1 ≤ l.base)
    × (l.base ≤ l.files.m + l.n + 1 + 21 * l.i)
    × (length l.ends ≡ length l.initial.ends)
    × (l.base ≡ base_of (words l.files) l.files.m l.n l.i)
    × Ends (words l.files) l.files.m l.n l.ends l.i
    × (drop (l.files.m + l.n + 1) l.ends ≡ drop (l.files.m + l.n + 1) l.initial.ends)
