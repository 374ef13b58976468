use borrow.Author.Rules.{rules}
use Rattle.proof_members.specs.Makers.{number_small, equation_made}
use Rattle.proof_members.proofs.keys.equation_key.Goals as goal

pub pack-requires : goal.pack-requires
pack-requires c = (search rules, search number_small, search number_small)

pub returns : goal.returns
returns c = search equation_made
