use borrow.Author.Rules.{rules}
use Rattle.derivation_fresh.specs.Fresh.{few_keys, few_marked, lacks_marked, lacks_unmarked, kept_unmarked}
use Rattle.derivation_fresh.proofs.fresh.key_lacks.Goals as goal

pub slice_bounds-few-end : goal.slice_bounds-few-end
slice_bounds-few-end c = few_keys _ _ _ _ _ c.requires.0

pub key_marked-requires : goal.key_marked-requires
key_marked-requires c = few_marked _ _ _ _ _ c.requires.0 _ c.requires.1

pub returns-then-key_marked : goal.returns-then-key_marked
returns-then-key_marked c = (search lacks_marked, search rules)

pub returns : goal.returns
returns c = (search lacks_unmarked, search kept_unmarked)
