use borrow.Author.Rules.{rules}
use Rattle.reader_naming.specs.Totals.{root_settled, unnamed_is}
use Rattle.reader_naming.proofs.first_by_counts.Goals as goal

pub count_nodes-requires : goal.count_nodes-requires
count_nodes-requires c = (search rules, search rules, root_settled _ _ _ _ c.count_root.ensures c.requires.4)

pub returns : goal.returns
returns c =
    unnamed_is _ _ _ _ _ _ _ _ _ c.word_of.ensures
    c.count_root.ensures c.count_nodes.ensures
    (search rules) (search rules) c.first_miscounted.ensures
