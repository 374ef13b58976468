use Prim.Native.Nat.{◌*◌, ◌-◌, ◌≤◌}
use mathlib.Core.Path.{◌≡◌}
use lib.ListN.{length}
use Rattle.reader.specs.Files.{words}
use Rattle.translation_rules.specs.Templates.{template}
use Rattle.translation_write.specs.Put.{put}
use Rattle.translation_write.specs.Blocks.{block_lines}
use Rattle.translation_write.proofs.blocks.put_block.Given as goal

abbrev pub invariant-loop-r : goal.invariant-loop-r
invariant-loop-r l =
    (l.count ≡ length (template (words l.files l.block.node 0)))
    × (length l.buffer ≡ length l.initial.buffer)
    × (l.buffer ≡ put l.initial.buffer (16 * (l.block.base - l.files.m)) (block_lines (words l.files) l.ends l.block.node l.block.base l.r))
