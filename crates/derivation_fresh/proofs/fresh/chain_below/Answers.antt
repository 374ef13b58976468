use borrow.Author.Rules.{rules}
use Rattle.derivation_fresh.specs.Tops.{far_chain}
use Rattle.derivation_fresh.proofs.fresh.chain_below.Goals as goal

pub returns-then-top-chain : goal.returns-then-top-chain
returns-then-top-chain c = (search far_chain, search rules)
