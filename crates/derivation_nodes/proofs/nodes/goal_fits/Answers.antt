use Rattle.derivation_members.specs.Needs.{goal_normal}
use Rattle.derivation_nodes.specs.Nodes.{goal_fits}
use Rattle.derivation_nodes.proofs.nodes.goal_fits.Goals as goal

pub goal_formed-requires : goal.goal_formed-requires
goal_formed-requires c = search goal_normal

pub returns : goal.returns
returns c = search goal_fits
