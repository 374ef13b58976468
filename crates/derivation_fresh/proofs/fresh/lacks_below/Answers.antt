use borrow.Author.Rules.{rules}
use Rattle.derivation_fresh.specs.Tops.{far_lacks, near_normal}
use Rattle.derivation_fresh.proofs.fresh.lacks_below.Goals as goal

pub returns-then-top-key : goal.returns-then-top-key
returns-then-top-key c = (search far_lacks, search rules)

pub key_lacks-requires : goal.key_lacks-requires
key_lacks-requires c = (search rules, search near_normal, search rules)
