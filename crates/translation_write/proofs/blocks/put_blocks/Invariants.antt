use Prim.Native.Nat.{◌+◌, ◌*◌, ◌-◌, ◌≤◌}
use mathlib.Core.Path.{◌≡◌}
use lib.ListN.{length}
use Rattle.reader.specs.Files.{words}
use Rattle.translation_rules.specs.Bytes.{blocks_bytes}
use Rattle.translation_write.specs.Put.{put}
use Rattle.translation_write.proofs.blocks.put_blocks.Given as goal

abbrev pub invariant-loop-c : goal.invariant-loop-c
invariant-loop-c l =
    (length l.buffer ≡ length l.initial.buffer) × (l.buffer ≡ put l.initial.buffer (16 * (l.n + 1)) (blocks_bytes (words l.files) l.files.m l.n l.c))
