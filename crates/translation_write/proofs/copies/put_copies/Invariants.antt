use Prim.Native.Nat.{◌-◌, ◌≤◌}
use mathlib.Core.Path.{◌≡◌}
use lib.ListN.{length}
use Rattle.reader.specs.Files.{words}
use Rattle.translation_rules.specs.Bytes.{copies_bytes}
use Rattle.translation_write.specs.Put.{put}
use Rattle.translation_write.proofs.copies.put_copies.Given as goal

abbrev pub invariant-loop-c : goal.invariant-loop-c
invariant-loop-c l =
    (length l.buffer ≡ length l.initial.buffer) × (l.buffer ≡ put l.initial.buffer 16 (copies_bytes (words l.files) l.files.second.now l.files.m l.c))
