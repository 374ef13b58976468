use Rattle.reader_chains.specs.Chains.{item_is}
use Rattle.reader_chains.proofs.chains.item_at.Goals as goal

pub returns : goal.returns
returns c = search item_is
