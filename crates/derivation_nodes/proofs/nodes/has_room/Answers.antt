use Rattle.derivation_nodes.specs.Nodes.{room_at}
use Rattle.derivation_nodes.proofs.nodes.has_room.Goals as goal

pub returns : goal.returns
returns c = search room_at
