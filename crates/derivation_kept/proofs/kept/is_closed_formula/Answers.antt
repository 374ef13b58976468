use borrow.Author.Rules.{rules}
use Rattle.derivation_kept.specs.Kept.{formula_no, formula_closed}
use Rattle.derivation_kept.proofs.kept.is_closed_formula.Goals as goal

pub returns-then-not-is_formula : goal.returns-then-not-is_formula
returns-then-not-is_formula c = search formula_no

pub is_below-requires : goal.is_below-requires
is_below-requires c = (search rules, search rules, search rules)

pub returns : goal.returns
returns c = search formula_closed
