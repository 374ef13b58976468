use native.Mathlib.Omega.{arith}
use Rattle.derivation_nodes.specs.Rooms.{room_parts, room_none, room_some}
use Rattle.derivation_nodes.specs.Nodes.{added_few}
use Rattle.derivation_nodes.proofs.nodes.room_beside.Goals as goal

pub returns-then-k-eq65 : goal.returns-then-k-eq65
returns-then-k-eq65 c = search room_parts

pub returns-then-count-eq0 : goal.returns-then-count-eq0
returns-then-count-eq0 c = search room_none

pub overflow_add-result : goal.overflow_add-result
overflow_add-result c = omega (arith, c.requires, c.column-more.ensures, added_few c.word_at-k.result)

pub returns : goal.returns
returns c = search room_some
