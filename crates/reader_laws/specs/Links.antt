-- What the chains of records without faults are made of.
use Prim.Native.Nat.{ℕ, zero, suc, ◌<◌, ◌≤◌}
use Rattle.std.specs.Prelude.{◌≡◌, List, ◌∷◌, Bool, length, get_or}
use Rattle.std.proofs.Common.{sym, ap, ◌∙◌, arith, eq-eqb, lt-ltb}
use Rattle.std.proofs.Math.Bool.{true}
use Rattle.std.proofs.Math.Dec.{eqb, ltb}
use Rattle.reader.specs.Words.{Reader}
use Rattle.reader.specs.Tests.{every}
use Rattle.reader.specs.Kinds.{class_at}
use Rattle.reader.specs.Trees.{lower}
use Rattle.reader.specs.Chains.{linked, items}
use Rattle.reader.specs.TreeLaws.{below, lower_below, linked_zero, linked_step_lem, items_zero, items_step}
use Rattle.reader.specs.Records.{has_class, items_have_class}
use Rattle.reader_laws.specs.Scan.{every_at}
use Rattle.reader_laws.specs.Record.{Sound, class_is, items_are}
use Rattle.reader_laws.specs.Parts.{Chain, link_third, link_item, name_third}
use Rattle.reader_laws.specs.Classes.{link_class, name_class, class_of_kind}

-- an item of a chain whose items are all of a class
pub item_class : (rd : Reader) (c j : ℕ) → items_have_class rd c j ≡ true → (c ≡ 0 → ⊥) → (n : ℕ) → n < length (items rd j) →
    class_at rd (get_or (items rd j) n 0) ≡ c
item_class rd c j h p n l = class_is rd c (get_or (items rd j) n 0) (every_at (has_class rd c) (items rd j) 0 (items_are rd c j h p) n l) p

every_more : (test : ℕ → Bool) (x : ℕ) (xs : List ℕ) → test x ≡ true → every test xs ≡ true → every test (x ∷ xs) ≡ true
unfolding every
every_more test x xs p h = simp (every, p) h

-- Records 1 to m without faults.
module _ (mode : ℕ) (rd : Reader) (m : ℕ) (all : (j : ℕ) → 1 ≤ j → j ≤ m → Sound mode rd j) where
  link_kind : (i : ℕ) → class_at rd i ≡ 1 → rd i 0 ≡ 1
  link_kind i e = link_class (rd i 0) (sym (class_of_kind rd i) ∙ e)

  -- the link after a link is a link, or 0
  next_class : (n : ℕ) → suc n ≤ m → class_at rd (suc n) ≡ 1 → (lower rd (suc n) 3 ≡ 0 → ⊥) → class_at rd (lower rd (suc n) 3) ≡ 1
  next_class n h e differ =
      let c : Chain rd (suc n) 3 0 = link_third mode rd (suc n) (all (suc n) (omega arith) h) (link_kind (suc n) e) in
      ap (class_at rd) c.names ∙ c.class (λ z. differ (c.names ∙ z))

  -- the records of a chain that starts with a link are links
  pub links_are_links : (c : ℕ) → c ≤ m → ((c ≡ 0 → ⊥) → class_at rd c ≡ 1) → every (λ l. eqb (rd l 0) 1) (linked rd c) ≡ true
  unfolding every
  links_are_links = below (λ c. c ≤ m → ((c ≡ 0 → ⊥) → class_at rd c ≡ 1) → every (λ l. eqb (rd l 0) 1) (linked rd c) ≡ true) step
    where
      step : (n : ℕ) → ((j : ℕ) → j < n → j ≤ m → ((j ≡ 0 → ⊥) → class_at rd j ≡ 1) → every (λ l. eqb (rd l 0) 1) (linked rd j) ≡ true) →
          n ≤ m → ((n ≡ 0 → ⊥) → class_at rd n ≡ 1) → every (λ l. eqb (rd l 0) 1) (linked rd n) ≡ true
      step zero f h e = rw (linked_zero rd)
      step (suc n) f h e =
          let own : class_at rd (suc n) ≡ 1 = e (λ z. absurd (omega arith)) in
          let less : lower rd (suc n) 3 < suc n = lower_below rd (suc n) 3 (omega arith) in
          rw (linked_step_lem rd (suc n) (omega arith))
          (every_more (λ l. eqb (rd l 0) 1) (suc n) (linked rd (lower rd (suc n) 3)) (eq-eqb (rd (suc n) 0) 1 (link_kind (suc n) own))
          (f (lower rd (suc n) 3) less (omega arith) (next_class n h own)))

  -- and its items are records, none of them 0
  pub items_given : (c : ℕ) → c ≤ m → ((c ≡ 0 → ⊥) → class_at rd c ≡ 1) → every (λ x. ltb 0 x) (items rd c) ≡ true
  unfolding every
  items_given = below (λ c. c ≤ m → ((c ≡ 0 → ⊥) → class_at rd c ≡ 1) → every (λ x. ltb 0 x) (items rd c) ≡ true) step
    where
      step : (n : ℕ) → ((j : ℕ) → j < n → j ≤ m → ((j ≡ 0 → ⊥) → class_at rd j ≡ 1) → every (λ x. ltb 0 x) (items rd j) ≡ true) →
          n ≤ m → ((n ≡ 0 → ⊥) → class_at rd n ≡ 1) → every (λ x. ltb 0 x) (items rd n) ≡ true
      step zero f h e = rw (items_zero rd)
      step (suc n) f h e =
          let own : class_at rd (suc n) ≡ 1 = e (λ z. absurd (omega arith)) in
          let less : lower rd (suc n) 3 < suc n = lower_below rd (suc n) 3 (omega arith) in
          let item = link_item mode rd (suc n) (all (suc n) (omega arith) h) (link_kind (suc n) own) in
          let low : 1 ≤ rd (suc n) 1 = item.0 in
          let same : lower rd (suc n) 1 ≡ rd (suc n) 1 = item.2 in
          rw (items_step rd (suc n) (omega arith))
          (every_more (λ x. ltb 0 x) (lower rd (suc n) 1) (items rd (lower rd (suc n) 3)) (lt-ltb 0 (lower rd (suc n) 1) (omega arith))
          (f (lower rd (suc n) 3) less (omega arith) (next_class n h own)))

  name_kind : (i : ℕ) → class_at rd i ≡ 2 → rd i 0 ≡ 2
  name_kind i e = name_class (rd i 0) (sym (class_of_kind rd i) ∙ e)

  -- the name record after a name record is a name record, or 0
  next_name : (n : ℕ) → suc n ≤ m → class_at rd (suc n) ≡ 2 → (lower rd (suc n) 3 ≡ 0 → ⊥) → class_at rd (lower rd (suc n) 3) ≡ 2
  next_name n h e differ =
      let own : Sound mode rd (suc n) = all (suc n) (omega arith) h in
      let same : lower rd (suc n) 3 ≡ rd (suc n) 3 = (name_third mode rd (suc n) own (name_kind (suc n) e)).0 in
      ap (class_at rd) same ∙ (name_third mode rd (suc n) own (name_kind (suc n) e)).1 (λ z. differ (same ∙ z))

  -- the records of a chain that starts with a name record are name records
  pub names_are_names : (c : ℕ) → c ≤ m → ((c ≡ 0 → ⊥) → class_at rd c ≡ 2) → every (λ l. eqb (rd l 0) 2) (linked rd c) ≡ true
  unfolding every
  names_are_names = below (λ c. c ≤ m → ((c ≡ 0 → ⊥) → class_at rd c ≡ 2) → every (λ l. eqb (rd l 0) 2) (linked rd c) ≡ true) step
    where
      step : (n : ℕ) → ((j : ℕ) → j < n → j ≤ m → ((j ≡ 0 → ⊥) → class_at rd j ≡ 2) → every (λ l. eqb (rd l 0) 2) (linked rd j) ≡ true) →
          n ≤ m → ((n ≡ 0 → ⊥) → class_at rd n ≡ 2) → every (λ l. eqb (rd l 0) 2) (linked rd n) ≡ true
      step zero f h e = rw (linked_zero rd)
      step (suc n) f h e =
          let own : class_at rd (suc n) ≡ 2 = e (λ z. absurd (omega arith)) in
          let less : lower rd (suc n) 3 < suc n = lower_below rd (suc n) 3 (omega arith) in
          rw (linked_step_lem rd (suc n) (omega arith))
          (every_more (λ l. eqb (rd l 0) 2) (suc n) (linked rd (lower rd (suc n) 3)) (eq-eqb (rd (suc n) 0) 2 (name_kind (suc n) own))
          (f (lower rd (suc n) 3) less (omega arith) (next_name n h own)))
