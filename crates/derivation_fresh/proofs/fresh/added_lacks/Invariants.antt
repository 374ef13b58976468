use Prim.Native.Nat.{suc, ◌-◌}
use mathlib.Core.Path.{◌≡◌}
use Rattle.reader.specs.Files.{words}
use Rattle.reader.specs.Tests.{every}
use Rattle.derivation_frames.specs.Frames.{added_from}
use Rattle.derivation_known.specs.Known.{Known}
use Rattle.derivation_fresh.specs.Fresh.{lacks}
use Rattle.derivation_fresh.proofs.fresh.added_lacks.Given as goal

abbrev pub invariant-loop-f : goal.invariant-loop-f
invariant-loop-f l =
    (every (lacks l.c) (added_from (words l.files) l.frames (l.d - l.s) (suc l.s)) ≡ every (lacks l.c) (added_from (words l.files) l.frames (l.d - l.f) (suc l.f))) ×
    Known (words l.files) l.known
