-- Tests one after the other that all passed, taken apart, and put together again.
use Rattle.std.specs.Prelude.{ℕ, zero, suc, ◌+◌, ◌<◌, ◌≤◌, ◌≡◌, refl, List, [], ◌∷◌, Bool, true, false, eqb, ltb, leb, length, get_or}
use Rattle.std.proofs.Common.{sym, ◌∙◌, arith}
use Rattle.std.proofs.lemmas.Bool.{false≢true}
use borrow.Author.Tests.{eq-eqb, ne_eqb, eqb-true, eqb-false, lt-ltb, le-ltb, ltb-false, leb-true}
use Rattle.reader.specs.declared.Answer.{Answer}
use Rattle.reader.specs.Tests.{both, either, demand, or_else, every, if_eq, if_lt, if_true, between}
use Rattle.reader.specs.Answers.{answer, accepted, placed, or_answer, first_fault}

-- one of two truth values is not the other
pub not_both_values : {A : Type 0} (b : Bool) → b ≡ true → b ≡ false → A
not_both_values b p q = absurd (false≢true (sym q ∙ p))

-- a number that a test takes for 0
pub is_zero : (n : ℕ) → eqb n 0 ≡ true → n ≡ 0
is_zero n h = eqb-true n 0 h

pub not_zero : {A : Type 0} (n : ℕ) → eqb n 0 ≡ false → n ≡ 0 → A
not_zero n h e = absurd (eqb-false n 0 h e)

-- both tests passed
pub both_parts : (a b : Bool) → both a b ≡ true → (a ≡ true) × (b ≡ true)
unfolding both
both_parts true b h = (refl, h)
both_parts false b h = absurd (false≢true h)

pub both_join : (a b : Bool) → a ≡ true → b ≡ true → both a b ≡ true
unfolding both
both_join a b p q = simp (both, p) q

-- no refusal was asked for, and none came after
pub demand_parts : (t : Bool) (n rest : ℕ) → demand t n rest ≡ 0 → eqb n 0 ≡ false → (t ≡ true) × (rest ≡ 0)
unfolding demand
demand_parts true n rest h q = (refl, h)
demand_parts false n rest h q = not_zero n q h

pub demand_join : (t : Bool) (n rest : ℕ) → t ≡ true → rest ≡ 0 → demand t n rest ≡ 0
unfolding demand
demand_join t n rest p q = simp (demand, p) q

-- neither of two refusals
pub or_else_parts : (a b : ℕ) → or_else a b ≡ 0 → (a ≡ 0) × (b ≡ 0)
unfolding or_else
or_else_parts a b h = go (eqb a 0) refl h
  where
    go : (t : Bool) → eqb a 0 ≡ t → ◌≡◌ {A = ℕ} (elim t [ true ↦ b | false ↦ a ]) 0 → (a ≡ 0) × (b ≡ 0)
    go true e h = (eqb-true a 0 e, h)
    go false e h = not_zero a e h

pub or_else_join : (a b : ℕ) → a ≡ 0 → b ≡ 0 → or_else a b ≡ 0
unfolding or_else
or_else_join a b p q = simp (or_else, eq-eqb a 0 p) q

-- two places that both accept
pub or_answer_parts : (a b : Answer) → (or_answer a b).refusal ≡ 0 → (a.refusal ≡ 0) × (b.refusal ≡ 0)
unfolding or_answer
or_answer_parts a b h = go (eqb a.refusal 0) refl h
  where
    go : (t : Bool) → eqb a.refusal 0 ≡ t → ◌≡◌ {A = ℕ} (elim t as (λ x. Answer) [ true ↦ b | false ↦ a ]).refusal 0 → (a.refusal ≡ 0) × (b.refusal ≡ 0)
    go true e h = (eqb-true a.refusal 0 e, h)
    go false e h = not_zero a.refusal e h

pub or_answer_join : (a b : Answer) → a.refusal ≡ 0 → or_answer a b ≡ b
unfolding or_answer
or_answer_join a b p = simp (or_answer, eq-eqb a.refusal 0 p)

-- a place with no refusal
pub placed_zero : (r f i : ℕ) → (placed r f i).refusal ≡ 0 → r ≡ 0
unfolding placed
placed_zero r f i h = go (eqb r 0) refl h
  where
    go : (t : Bool) → eqb r 0 ≡ t → ◌≡◌ {A = ℕ} (elim t as (λ x. Answer) [ true ↦ accepted 0 | false ↦ answer r f i 0 ]).refusal 0 → r ≡ 0
    go true e h = eqb-true r 0 e
    go false e h = not_zero r e h

pub placed_join : (r f i : ℕ) → r ≡ 0 → placed r f i ≡ accepted 0
unfolding placed
placed_join r f i p = simp (placed, eq-eqb r 0 p)

-- a place whose test passed
pub placed_parts : (t : Bool) (n f i : ℕ) → (placed (demand t n 0) f i).refusal ≡ 0 → eqb n 0 ≡ false → t ≡ true
placed_parts t n f i h q = (demand_parts t n 0 (placed_zero (demand t n 0) f i h) q).0

pub placed_pass : (t : Bool) (n f i : ℕ) → t ≡ true → placed (demand t n 0) f i ≡ accepted 0
placed_pass t n f i h = placed_join (demand t n 0) f i (demand_join t n 0 h refl)

-- no record that was looked at has a fault
pub scan_parts : (fault : ℕ → ℕ) (f n i : ℕ) → (first_fault fault f n i).refusal ≡ 0 → (j : ℕ) → i ≤ j → j < i + n → fault j ≡ 0
unfolding first_fault
scan_parts fault f zero i h j p q = absurd (omega arith)
scan_parts fault f (suc n) i h j p q =
    go (eqb (fault i) 0) refl h (eqb j i) refl (λ r u. scan_parts fault f n (i + 1) r j u (omega arith))
  where
    go : (t : Bool) → eqb (fault i) 0 ≡ t →
        ◌≡◌ {A = ℕ} (elim t as (λ x. Answer) [ true ↦ first_fault fault f n (i + 1) | false ↦ answer (fault i) f i 0 ]).refusal 0 →
        (u : Bool) → eqb j i ≡ u → ((first_fault fault f n (i + 1)).refusal ≡ 0 → i + 1 ≤ j → fault j ≡ 0) → fault j ≡ 0
    go false e h u d rest = not_zero (fault i) e h
    go true e h true d rest = let same : j ≡ i = eqb-true j i d in rw same (eqb-true (fault i) 0 e)
    go true e h false d rest = let differ : j ≡ i → ⊥ = eqb-false j i d in rest h (omega arith)

pub scan_join : (fault : ℕ → ℕ) (f n i : ℕ) → ((j : ℕ) → i ≤ j → j < i + n → fault j ≡ 0) → first_fault fault f n i ≡ accepted 0
unfolding first_fault
scan_join fault f zero i h = refl
scan_join fault f (suc n) i h =
    let none : fault i ≡ 0 = h i (omega arith) (omega arith) in
    let rest : first_fault fault f n (i + 1) ≡ accepted 0 = scan_join fault f n (i + 1) (λ j p q. h j (omega arith) (omega arith)) in
    simp (first_fault, eq-eqb (fault i) 0 none) rest

-- every element of a list passed
pub every_head : {A : Type 0} (test : A → Bool) (x : A) (xs : List A) → every test (x ∷ xs) ≡ true → (test x ≡ true) × (every test xs ≡ true)
unfolding every
every_head test x xs h = go (test x) refl h
  where
    go : (b : Bool) → test x ≡ b → ◌≡◌ {A = Bool} (elim b [ true ↦ every test xs | false ↦ false ]) true → (test x ≡ true) × (every test xs ≡ true)
    go true e h = (e, h)
    go false e h = absurd (false≢true h)

-- selection by a test that is known
module _ {A : Type 0} (x y : A) where
  pub when_equal : (a b : ℕ) → a ≡ b → if_eq a b x y ≡ x
  unfolding if_eq
  when_equal a b h = simp (if_eq, eq-eqb a b h)

  pub when_different : (a b : ℕ) → (a ≡ b → ⊥) → if_eq a b x y ≡ y
  unfolding if_eq
  when_different a b h = simp (if_eq, ne_eqb a b h)

  pub when_less : (a b : ℕ) → a < b → if_lt a b x y ≡ x
  unfolding if_lt
  when_less a b h = simp (if_lt, lt-ltb a b h)

  pub when_not_less : (a b : ℕ) → b ≤ a → if_lt a b x y ≡ y
  unfolding if_lt
  when_not_less a b h = simp (if_lt, le-ltb a b h)

  pub when_true : (b : Bool) → b ≡ true → if_true b x y ≡ x
  unfolding if_true
  when_true b h = simp (if_true, h)

  pub when_false : (b : Bool) → b ≡ false → if_true b x y ≡ y
  unfolding if_true
  when_false b h = simp (if_true, h)

-- what lies between two bounds
pub between_parts : (low high a : ℕ) → between low high a ≡ true → (low ≤ a) × (a ≤ high)
unfolding between if_lt
between_parts low high a h = go (ltb a low) refl h
  where
    go : (b : Bool) → ltb a low ≡ b → ◌≡◌ {A = Bool} (elim b [ true ↦ false | false ↦ leb a high ]) true → (low ≤ a) × (a ≤ high)
    go true e h = absurd (false≢true h)
    go false e h = (ltb-false a low e, leb-true a high h)

-- one of two tests passed
pub either_parts : {C : Type 0} (a b : Bool) → either a b ≡ true → (a ≡ true → C) → (b ≡ true → C) → C
unfolding either
either_parts true b h f g = f refl
either_parts false b h f g = g h

-- the element at a place of a list of which every element passed
pub every_at : {A : Type 0} (test : A → Bool) (xs : List A) (d : A) → every test xs ≡ true → (n : ℕ) → n < length xs → test (get_or xs n d) ≡ true
every_at test [] d h n p = absurd (omega arith)
every_at test (x ∷ xs) d h zero p = (every_head test x xs h).0
every_at test (x ∷ xs) d h (suc n) p = every_at test xs d (every_head test x xs h).1 n (omega arith)
