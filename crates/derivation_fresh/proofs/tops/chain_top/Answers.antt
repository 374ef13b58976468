use borrow.Author.Rules.{rules}
use Rattle.derivation_fresh.specs.Tops.{chain_known, chain_own}
use Rattle.derivation_fresh.proofs.tops.chain_top.Goals as goal

pub returns-then-chain_known : goal.returns-then-chain_known
returns-then-chain_known c = (chain_known _ _ _ _ c.chain_known.ensures c.if-chain_known.true, search rules)

pub returns : goal.returns
returns c = (search chain_own, search rules)
