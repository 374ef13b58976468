-- Laws of tests and of selection by them: each is one way out of code that makes them.
use Rattle.std.specs.Prelude.{ℕ, zero, suc, ◌+◌, ◌<◌, ◌≤◌, ◌≡◌, Bool, true, false, not}
use Rattle.std.proofs.Common.{sym, ◌∙◌, arith}
use borrow.Author.Tests.{eq-eqb, ne_eqb, lt-ltb, le-ltb, not-true, not-false}
use Rattle.reader.specs.Tests.{both, demand, or_else, if_eq, if_lt, if_true}

-- `if !r { return false; }`
pub both_stop : (a b r : Bool) → r ≡ a → not r ≡ true → false ≡ both a b
unfolding both
both_stop a b r e h = simp (both, ← e, not-true r h)

pub both_go : (a b r s : Bool) → r ≡ a → not r ≡ false → s ≡ b → s ≡ both a b
unfolding both
both_go a b r s e h q = simp (both, ← e, not-false r h) q

pub ruleset boths = (both_stop, both_go)

-- `if !r { return n; }`
pub demand_stop : (a r : Bool) (n rest : ℕ) → r ≡ a → not r ≡ true → n ≡ demand a n rest
unfolding demand
demand_stop a r n rest e h = simp (demand, ← e, not-true r h)

pub demand_go : (a r : Bool) (n rest s : ℕ) → r ≡ a → not r ≡ false → s ≡ rest → s ≡ demand a n rest
unfolding demand
demand_go a r n rest s e h q = simp (demand, ← e, not-false r h) q

pub ruleset demands = (demand_stop, demand_go)

-- `if r != 0 { return r; }`
pub or_stop : (a b r : ℕ) → r ≡ a → (r ≡ 0 → ⊥) → r ≡ or_else a b
unfolding or_else
or_stop a b r e h = simp (or_else, ← e, ne_eqb r 0 h)

pub or_go : (a b r s : ℕ) → r ≡ a → r ≡ 0 → s ≡ b → s ≡ or_else a b
unfolding or_else
or_go a b r s e h q = simp (or_else, ← e, eq-eqb r 0 h) q

pub ruleset ors = (or_stop, or_go)

-- Selection, where the code tests the numbers that the definition names.
module _ {A : Type 0} (a b : ℕ) (x y r : A) where
  pub eq_yes : a ≡ b → r ≡ x → r ≡ if_eq a b x y
  unfolding if_eq
  eq_yes h e = simp (if_eq, eq-eqb a b h) e

  pub eq_no : (a ≡ b → ⊥) → r ≡ y → r ≡ if_eq a b x y
  unfolding if_eq
  eq_no h e = simp (if_eq, ne_eqb a b h) e

  pub lt_yes : a < b → r ≡ x → r ≡ if_lt a b x y
  unfolding if_lt
  lt_yes h e = simp (if_lt, lt-ltb a b h) e

  pub lt_no : b ≤ a → r ≡ y → r ≡ if_lt a b x y
  unfolding if_lt
  lt_no h e = simp (if_lt, le-ltb a b h) e

pub ruleset ifs = (eq_yes, eq_no, lt_yes, lt_no)

-- `if t { .. }` for a test t that a function made
module _ {A : Type 0} (b t : Bool) (x y r : A) (et : t ≡ b) where
  pub true_yes : t ≡ true → r ≡ x → r ≡ if_true b x y
  unfolding if_true
  true_yes h e = simp (if_true, ← et, h) e

  pub true_no : t ≡ false → r ≡ y → r ≡ if_true b x y
  unfolding if_true
  true_no h e = simp (if_true, ← et, h) e

pub ruleset trues = (true_yes, true_no)

-- Selection on numbers where the code holds p for the first number that the definition names.
module _ {A : Type 0} (a b : ℕ) (x y r : A) (p : ℕ) (ep : p ≡ a) where
  pub eq_yes_of : p ≡ b → r ≡ x → r ≡ if_eq a b x y
  eq_yes_of h e = eq_yes a b x y r (sym ep ∙ h) e

  pub eq_no_of : (p ≡ b → ⊥) → r ≡ y → r ≡ if_eq a b x y
  eq_no_of h e = eq_no a b x y r (λ t. h (ep ∙ t)) e

  pub lt_yes_of : p < b → r ≡ x → r ≡ if_lt a b x y
  lt_yes_of h e = lt_yes a b x y r (rw (← ep) h) e

  pub lt_no_of : b ≤ p → r ≡ y → r ≡ if_lt a b x y
  lt_no_of h e = lt_no a b x y r (rw (← ep) h) e

pub ruleset ifs_of = (eq_yes_of, eq_no_of, lt_yes_of, lt_no_of)

-- What the last arm, `_`, of a `match` knows whose arms before it are a, a + 1 and so on, n of them: k is none of these.
abbrev pub Rest : ℕ → ℕ → ℕ → Type 0
Rest a k zero = Unit
Rest a k (suc n) = Rest a k n × (k ≡ a + n → ⊥)

pub rest_past : (a k n : ℕ) → a ≤ k → Rest a k n → a + n ≤ k
rest_past a k zero h rest = omega arith
rest_past a k (suc n) h rest = omega (arith, rest_past a k n h rest.0, rest.1)
