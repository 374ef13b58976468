use Rattle.std.proofs.Common.{◌∙◌, rules}
use Rattle.std.proofs.lemmas.Iterator.Consumers.{YieldsList-from_first}
use Rattle.std.proofs.lemmas.Iterator.Search.{all_from_yields_List}
use Rattle.reader.specs.Chains.{linked}
use Rattle.reader.specs.Files.{words}
use Rattle.reader.specs.Links.{left, every_link}
use Rattle.reader.specs.Places.{hypothesis_fits}
use Rattle.reader.specs.Trees.{lower, tree}
use Rattle.reader_headers.proofs.roots.every_hypothesis.Goals as goal

pub returns : goal.returns
returns c =
    let rd = words c.args.files.now in
    all_from_yields_List (λ l. hypothesis_fits (tree rd (lower rd l 1))) c.all.new.self _ _ c.all.ensures.ran
    (YieldsList-from_first (λ x. x) left (linked rd c.args.c) c.links.ensures) (λ x b q k. search rules) ∙ every_link rd hypothesis_fits c.args.c
