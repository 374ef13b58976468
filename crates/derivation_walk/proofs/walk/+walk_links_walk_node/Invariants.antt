use Prim.Native.Nat.{◌+◌, ◌*◌}
use mathlib.Core.Path.{◌≡◌}
use lib.ListN.{length}
use Rattle.reader.specs.Files.{words}
use Rattle.derivation_known.specs.Known.{Known}
use Rattle.derivation_walk.specs.Turns.{Turn}
use Rattle.derivation_walk.proofs.walk.+walk_links_walk_node.Given as goal

abbrev pub decreases-walk_links : goal.decreases-walk_links
decreases-walk_links l = 2 * l.n

abbrev pub decreases-walk_node : goal.decreases-walk_node
decreases-walk_node l = 2 * l.n + 1

abbrev pub invariant-walk_links-loop-c : goal.invariant-walk_links-loop-c
invariant-walk_links-loop-c l =
    Turn (words l.files) l.keys l.initial.frames l.d l.n l.entered l.frames l.c l.b l.count × (l.reaches ≡ l.initial.reaches) × Known (words l.files) l.known × (length l.known ≡ length l.initial.known)

abbrev pub decreases-walk_links-loop-c : goal.decreases-walk_links-loop-c
decreases-walk_links-loop-c l = l.c
