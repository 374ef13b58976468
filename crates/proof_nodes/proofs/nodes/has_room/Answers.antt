use Rattle.proof_nodes.specs.Nodes.{room_test}
use Rattle.proof_nodes.proofs.nodes.has_room.Goals as goal

pub returns : goal.returns
returns c = search room_test
