use Rattle.reader.specs.TestLaws.{boths}
use Rattle.derivation_nodes.specs.Nodes.{members_fit_lem}
use Rattle.derivation_nodes.proofs.nodes.members_fit.Goals as goal

pub returns-then-not-needs_met : goal.returns-then-not-needs_met
returns-then-not-needs_met c = search (members_fit_lem, boths)

pub returns : goal.returns
returns c = search (members_fit_lem, boths)
