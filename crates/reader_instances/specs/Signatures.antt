-- A table of records whose type variables are found to be below a number.
use Rattle.std.specs.Prelude.{ℕ, ◌<◌, ◌≡◌, List, true, get_or, set}
use Rattle.std.proofs.Common.{sym, arith}
use Rattle.reader.specs.Words.{Reader}
use Rattle.reader.specs.Trees.{tree}
use Rattle.reader.specs.Variables.{types_below}
use Rattle.reader_equality.specs.Tables.{Zeros, stored}

-- record i, where its entry is not 0, has type variables below p only
pub record Known (rd : Reader) (p : ℕ) (seen : List ℕ) : Type 0 where
  pub below : (i : ℕ) → 0 < get_or seen i 0 → types_below p (tree rd i) ≡ true

pub known_none : (rd : Reader) (p : ℕ) (seen : List ℕ) → Zeros seen → Known rd p seen
known_none rd p seen z = record { below = λ i h. absurd (omega (arith, z.zeros i)) }

pub known_more : (rd : Reader) (p : ℕ) (seen : List ℕ) (i v : ℕ) (after : List ℕ) → Known rd p seen → true ≡ types_below p (tree rd i) → after ≡ set seen i v → Known rd p after
known_more rd p seen i v after k e q = rw q (record { below = stored (λ j x. types_below p (tree rd j) ≡ true) seen i v k.below (sym e) })

pub known_is : (rd : Reader) (p : ℕ) (seen : List ℕ) (i x : ℕ) → Known rd p seen → x ≡ get_or seen i 0 → (x ≡ 0 → ⊥) → true ≡ types_below p (tree rd i)
known_is rd p seen i x k e some = sym (k.below i (omega arith))
