-- The hypotheses of a derivation's start, record by record.
use Rattle.std.specs.Prelude.{ℕ, ◌≡◌, refl, List, [], ◌∷◌, map}
use Rattle.std.proofs.Common.{ap}
use Rattle.reader.specs.Words.{Reader}
use Rattle.reader.specs.Trees.{Tree, tree}
use Rattle.reader.specs.Chains.{items, item_trees}
use Rattle.reader.specs.Places.{hypothesis_chain}
use Rattle.derivation_rules.specs.Erase.{⌊◌⌋, bare_tree}
use Rattle.derivation_rules.specs.Check.{bare_hypotheses}

bare_items : (rd : Reader) (is : List ℕ) → map ⌊◌⌋ (map (tree rd) is) ≡ map (bare_tree rd) is
unfolding bare_tree
bare_items rd [] = refl
bare_items rd (i ∷ is) = ap (λ (ts : List Tree). ⌊ tree rd i ⌋ ∷ ts) (bare_items rd is)

pub bare_hypotheses_lem : (rd : Reader) → bare_hypotheses rd ≡ map (bare_tree rd) (items rd (hypothesis_chain rd))
unfolding bare_hypotheses item_trees
bare_hypotheses_lem rd = bare_items rd (items rd (hypothesis_chain rd))
