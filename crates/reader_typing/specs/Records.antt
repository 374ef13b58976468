-- The ways out of the code that tests the typing of a record, by its kind.
use Rattle.std.specs.Prelude.{ℕ, ◌≡◌, Bool, true}
use borrow.Author.Tests.{ne_eqb}
use Rattle.reader.specs.Words.{Reader}
use Rattle.reader.specs.Tests.{if_eq}
use Rattle.reader.specs.Typing.{typing_of, is_typed}

module _ (rd : Reader) (i k : ℕ) (ek : k ≡ rd i 0) where
  -- by the arm of kind c
  pub typed_as : (c : ℕ) → k ≡ c → (r : Bool) → r ≡ typing_of c rd i → r ≡ is_typed rd i
  unfolding is_typed
  typed_as c e r h = rw (← ek, e) h

  -- by the last arm: kinds of whose types nothing is asked
  pub nothing_asked : (k ≡ 7 → ⊥) → (k ≡ 8 → ⊥) → (k ≡ 10 → ⊥) → (k ≡ 11 → ⊥) → (k ≡ 12 → ⊥) → (k ≡ 13 → ⊥) →
      (k ≡ 19 → ⊥) → (k ≡ 20 → ⊥) → (k ≡ 21 → ⊥) → (k ≡ 23 → ⊥) → true ≡ is_typed rd i
  unfolding is_typed typing_of if_eq
  nothing_asked a b c d e f g h j l =
      rw (← ek) (simp (if_eq, ne_eqb k 7 a, ne_eqb k 8 b, ne_eqb k 10 c, ne_eqb k 11 d, ne_eqb k 12 e, ne_eqb k 13 f, ne_eqb k 19 g, ne_eqb k 20 h, ne_eqb k 21 j, ne_eqb k 23 l))
