-- The counts of all premise chains, and the first rule node that is not named exactly once.
use Prim.Native.Nat.{ℕ, ◌+◌, ◌-◌, ◌<◌, ◌≤◌, min}
use Rattle.std.specs.Prelude.{◌≡◌, refl, List, Bool, true, false, not, eqb, ltb, length, get_or, replicate}
use Rattle.std.proofs.Common.{sym, ◌∙◌, arith, add-one}
use Rattle.std.proofs.Math.Path.{ap}
use Rattle.std.proofs.Math.ListN.{get_or-eq_default}
use borrow.Author.Tests.{eq-eqb, ne_eqb, eqb-true, eqb-false, ltb-true, ltb-false, not-true, not-false}
use Rattle.reader.specs.declared.Answer.{Answer}
use Rattle.reader.specs.Words.{Reader}
use Rattle.reader.specs.Tests.{demand, if_eq, if_true}
use Rattle.reader.specs.Kinds.{is_rule}
use Rattle.reader.specs.Trees.{lower}
use Rattle.reader.specs.Chains.{premises}
use Rattle.reader.specs.Answers.{first_fault}
use Rattle.reader.specs.AnswerLaws.{scan_same}
use Rattle.reader.specs.Places.{times_in, namings, naming_fault}
use Rattle.reader_equality.specs.Tables.{zeros_made}
use Rattle.reader_naming.specs.Counts.{times, bumped, bumped_same, bumped_other, Settled, Added}

-- how often record j's premise chain names r, where j is a rule node
unfoldable pub names_of : ℕ → Reader → ℕ → ℕ → ℕ
names_of mode rd j r = elim (is_rule mode (rd j 0)) [ true ↦ times_in r (premises rd j) | false ↦ 0 ]

-- what record j names is added
pub record Counted (mode : ℕ) (rd : Reader) (j : ℕ) (before after : List ℕ) : Type 0 where
  pub counts : (r : ℕ) → get_or after r 0 ≡ min 2 (get_or before r 0 + names_of mode rd j r)

-- what records 1 to j name is added
pub record Total (mode : ℕ) (rd : Reader) (j : ℕ) (before after : List ℕ) : Type 0 where
  pub totals : (r : ℕ) → get_or after r 0 ≡ min 2 (get_or before r 0 + namings mode rd r j)

-- The ways out of `count_node`.
module _ (mode : ℕ) (rd : Reader) (j k : ℕ) (ek : k ≡ rd j 0) (t : Bool) (et : t ≡ is_rule mode k) (named : List ℕ) where
  pub counted_rule : t ≡ true → (c : ℕ) → c ≡ lower rd j 2 → (after : List ℕ) → Added rd c named after → Counted mode rd j named after
  unfolding names_of times premises
  counted_rule h c ec after a = record { counts = λ r. a.adds r ∙ ap (λ (n : ℕ). min 2 (get_or named r 0 + n)) (sym (simp (names_of, ← ek, ← et, h, ← ec))) }

  pub counted_other : t ≡ false → (passed : List ℕ) → Settled rd named passed → Counted mode rd j named named
  unfolding names_of
  counted_other h passed s = record {
    counts = λ r. let none : names_of mode rd j r ≡ 0 = simp (names_of, ← ek, ← et, h) in omega (arith, s.small r);
  }

-- The loop of `count_nodes`.
pub total_none : (mode : ℕ) (rd : Reader) (named passed : List ℕ) → Settled rd named passed → Total mode rd 0 named named
unfolding namings
total_none mode rd named passed s = record { totals = λ r. omega (arith, s.small r) }

pub total_more : (mode : ℕ) (rd : Reader) (j : ℕ) (start named after : List ℕ) → 1 ≤ j → Total mode rd (j - 1) start named → Counted mode rd j named after →
    Total mode rd (j + 1 - 1) start after
unfolding namings names_of
total_more mode rd j start named after h t c = record { totals = λ r. go r }
  where
    go : (r : ℕ) → get_or after r 0 ≡ min 2 (get_or start r 0 + namings mode rd r (j + 1 - 1))
    go r =
        let step : namings mode rd r (j - 1 + 1) ≡ names_of mode rd (j - 1 + 1) r + namings mode rd r (j - 1) = rw (add-one (j - 1)) refl in
        let here : j - 1 + 1 ≡ j = omega arith in
        let next : j + 1 - 1 ≡ j = omega arith in
        rw next (omega (arith, c.counts r, t.totals r, rw here at step))

pub total_end : (mode : ℕ) (rd : Reader) (j last : ℕ) (start named : List ℕ) → j ≤ last + 1 → last + 1 ≤ j → Total mode rd (j - 1) start named → Total mode rd last start named
total_end mode rd j last start named h g t = let e : last ≡ j - 1 = omega arith in rw e t

-- the refusal of record i by its count
unfoldable pub count_fault : ℕ → Reader → List ℕ → ℕ → ℕ
count_fault mode rd named i = if_true (is_rule mode (rd i 0)) (if_eq (get_or named i 0) 1 0 12) 0

module _ (mode : ℕ) (rd : Reader) (named : List ℕ) (i k : ℕ) (ek : k ≡ rd i 0) (t : Bool) (et : t ≡ is_rule mode k) where
  pub count_other : not t ≡ true → 0 ≡ count_fault mode rd named i
  unfolding count_fault if_true
  count_other h = simp (count_fault, if_true, ← ek, ← et, not-true t h)

  module _ (h : not t ≡ false) (e : ℕ) (ee : e ≡ get_or named i 0) where
    pub count_one : e ≡ 1 → 0 ≡ count_fault mode rd named i
    unfolding count_fault if_true if_eq
    count_one q = simp (count_fault, if_true, if_eq, ← ek, ← et, not-false t h, ← ee, eq-eqb e 1 q)

    pub count_wrong : (e ≡ 1 → ⊥) → 12 ≡ count_fault mode rd named i
    unfolding count_fault if_true if_eq
    count_wrong q = simp (count_fault, if_true, if_eq, ← ek, ← et, not-false t h, ← ee, ne_eqb e 1 q)

-- a count up to 2 is 1 where the number is
pick : (n e : ℕ) → e ≡ min 2 n → if_eq e 1 0 12 ≡ demand (eqb n 1) 12 0
unfolding if_eq demand
pick n e h = go (eqb n 1) refl
  where
    go : (b : Bool) → eqb n 1 ≡ b → if_eq e 1 0 12 ≡ demand (eqb n 1) 12 0
    go true q = let one : e ≡ 1 = omega (arith, eqb-true n 1 q) in simp (if_eq, demand, q, eq-eqb e 1 one)
    go false q = let no : n ≡ 1 → ⊥ = eqb-false n 1 q in simp (if_eq, demand, q, ne_eqb e 1 (omega arith))

-- a table of zeros
pub record Cleared (table : List ℕ) : Type 0 where
  pub zeros : (r : ℕ) → get_or table r 0 ≡ 0

-- a table that is filled with 0
pub cleared_fill : (n : ℕ) (table : List ℕ) → table ≡ replicate n 0 → Cleared table
cleared_fill n table e = record { zeros = λ r. rw e ((zeros_made n).zeros r) }

-- only the root is counted, once
pub record Rooted (root : ℕ) (table : List ℕ) : Type 0 where
  pub roots : (r : ℕ) → r < length table → get_or table r 0 ≡ if_eq root r 1 0

-- The ways out of `count_root`.
pub root_counted : (root : ℕ) (table after : List ℕ) → Cleared table → root < length table → after ≡ bumped table root → Rooted root after
unfolding if_eq
root_counted root table after z h e = rw e (record { roots = λ r p. go r (eqb root r) refl })
  where
    go : (r : ℕ) (b : Bool) → eqb root r ≡ b → get_or (bumped table root) r 0 ≡ if_eq root r 1 0
    go r true q = bumped_same table root r (eqb-true root r q) h ∙ rw (z.zeros r) (simp (if_eq, q))
    go r false q = bumped_other table root r (eqb-false root r q) ∙ z.zeros r ∙ simp (if_eq, q)

pub root_outside : (root : ℕ) (table : List ℕ) → Cleared table → length table ≤ root → Rooted root table
unfolding if_eq
root_outside root table z h = record { roots = λ r p. z.zeros r ∙ simp (if_eq, ne_eqb root r (omega arith)) }

-- counts that begin with the root alone are small, and no link is run over
pub root_settled : (rd : Reader) (root : ℕ) (named passed : List ℕ) → Rooted root named → Cleared passed → Settled rd named passed
unfolding if_eq
root_settled rd root named passed h z = record {
  once = λ l r p q. absurd (omega (arith, z.zeros l));
  twice = λ l r p q. absurd (omega (arith, z.zeros l));
  small = λ r. go r (ltb r (length named)) refl;
}
  where
    few : (r : ℕ) (b : Bool) → eqb root r ≡ b → if_eq {A = ℕ} root r 1 0 ≤ 2
    few r true q = simp (if_eq, q) (omega arith)
    few r false q = simp (if_eq, q) (omega arith)

    go : (r : ℕ) (b : Bool) → ltb r (length named) ≡ b → get_or named r 0 ≤ 2
    go r true q = omega (arith, h.roots r (ltb-true r (length named) q), few r (eqb root r) refl)
    go r false q = omega (arith, get_or-eq_default named 0 (ltb-false r (length named) q))

-- the counts are those of the definition
pub count_is : (mode : ℕ) (rd : Reader) (root last : ℕ) (start named : List ℕ) → Rooted root start → Total mode rd last start named → last < length start →
    (i : ℕ) → i ≤ last → count_fault mode rd named i ≡ naming_fault mode rd root last i
unfolding count_fault naming_fault if_true
count_is mode rd root last start named h t p i q = go (is_rule mode (rd i 0))
  where
    sum : get_or named i 0 ≡ min 2 (if_eq root i 1 0 + namings mode rd i last)
    sum = t.totals i ∙ ap (λ (n : ℕ). min 2 (n + namings mode rd i last)) (h.roots i (omega arith))

    one : if_eq (get_or named i 0) 1 0 12 ≡ demand (eqb (if_eq root i 1 0 + namings mode rd i last) 1) 12 0
    one = pick (if_eq root i 1 0 + namings mode rd i last) (get_or named i 0) sum

    go : (b : Bool) → ◌≡◌ {A = ℕ} (elim b [ true ↦ if_eq (get_or named i 0) 1 0 12 | false ↦ 0 ])
        (elim b [ true ↦ demand (eqb (if_eq root i 1 0 + namings mode rd i last) 1) 12 0 | false ↦ 0 ])
    go true = one
    go false = refl

-- the answer of `first_unnamed`
pub unnamed_is : (mode : ℕ) (rd : Reader) (root m last x : ℕ) (start named : List ℕ) (r : Answer) → x ≡ root → Rooted x start → Total mode rd last start named →
    last < length start → m ≤ last → r ≡ first_fault (count_fault mode rd named) 2 (last + 1 - (m + 1)) (m + 1) →
    r ≡ first_fault (naming_fault mode rd root last) 2 (last - m) (m + 1)
unnamed_is mode rd root m last x start named r ex g t p q e =
    let h : Rooted root start = rw ex at g in
    let n : last + 1 - (m + 1) ≡ last - m = omega arith in
    e ∙ ap (λ (k : ℕ). first_fault (count_fault mode rd named) 2 k (m + 1)) n
    ∙ scan_same (count_fault mode rd named) (naming_fault mode rd root last) 2 (last - m) (m + 1) (λ j a b. count_is mode rd root last start named h t p j (omega arith))
