use native.Mathlib.Omega.{arith}
use Rattle.reader.specs.WordLaws.{word_small}
use Rattle.reader.proofs.Files.new.Goals as goal

pub invariant_of-result : goal.invariant_of-result
invariant_of-result c = record {
  small = λ i w. word_small _ _ _ i w (λ k. omega (arith, c.items_fit k)) (λ k. omega (arith, c.items_fit2 k));
}
