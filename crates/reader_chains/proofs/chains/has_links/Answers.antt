use Rattle.reader_chains.specs.Chains.{links_few, links_last}
use Rattle.reader_chains.proofs.chains.has_links.Goals as goal

pub returns-then-l-eq0 : goal.returns-then-l-eq0
returns-then-l-eq0 c = search links_few

pub returns : goal.returns
returns c = search links_last
