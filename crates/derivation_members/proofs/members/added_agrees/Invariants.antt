use Prim.Native.Nat.{suc, ◌-◌}
use mathlib.Core.Path.{◌≡◌}
use Rattle.reader.specs.Files.{words}
use Rattle.reader.specs.Tests.{every}
use Rattle.derivation_frames.specs.Frames.{added_from}
use Rattle.derivation_members.specs.Members.{agrees}
use Rattle.derivation_members.proofs.members.added_agrees.Given as goal

abbrev pub invariant-loop-f : goal.invariant-loop-f
invariant-loop-f l =
    every (agrees (words l.files) l.key l.wanted) (added_from (words l.files) l.frames (l.d - l.s) (suc l.s)) ≡ every
    (agrees (words l.files) l.key l.wanted) (added_from (words l.files) l.frames (l.d - l.f) (suc l.f))
