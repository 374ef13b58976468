use Prim.Native.Nat.{suc, ◌-◌, ◌≤◌}
use lib.ListN.{length}
use Rattle.reader.specs.Files.{words}
use Rattle.derivation_frames.specs.Frames.{added_from, members_at}
use Rattle.derivation_listed.specs.Filled.{Filled, Outside}
use Rattle.derivation_listed.proofs.filled.fill_added.Given as goal

abbrev pub invariant-loop-f : goal.invariant-loop-f
invariant-loop-f l =
    Filled (words l.files) (length l.keys) l.listed l.n (added_from (words l.files) l.frames (l.d - l.f) (suc l.f)) (members_at (words l.files) l.frames l.d) × Outside l.n l.initial.listed l.listed × (l.h ≤ l.n)
