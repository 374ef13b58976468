use borrow.Author.Rules.{rules}
use Rattle.derivation_members.specs.Needs.{at_given}
use Rattle.derivation_nodes.specs.Nodes.{fits_at}
use Rattle.derivation_nodes.proofs.nodes.parts_fit.Goals as goal

pub fits-requires : goal.fits-requires
fits-requires c = (search at_given, search rules, search rules)

pub returns : goal.returns
returns c = (search fits_at, c.fits.ensures.1)
