-- Tables of counts up to 2: how often a node is named, and how often a link is run over.
use Rattle.std.specs.Prelude.{ℕ, zero, suc, ◌+◌, ◌<◌, ◌≤◌, min, ◌≡◌, refl, List, Bool, true, false, ◌⊎◌, eqb, length, get_or, set}
use Rattle.std.proofs.Common.{sym, ap, subst, ◌∙◌, inl, inr, ⊎_elim, arith, eq-eqb, ne_eqb, eqb-true}
use Rattle.std.proofs.Math.ListN.{length-set}
use Rattle.std.proofs.Math.Seq.{get_or-set_same, get_or-set_other}
use Rattle.std.proofs.lemmas.Bool.{eqb-false}
use Rattle.reader.specs.Words.{Reader}
use Rattle.reader.specs.Tests.{if_eq}
use Rattle.reader.specs.Trees.{lower}
use Rattle.reader.specs.Chains.{items}
use Rattle.reader.specs.Places.{times_in}
use Rattle.reader.specs.TreeLaws.{lower_below, items_zero, items_step}

-- entry k one more, at most 2
unfoldable pub bumped : List ℕ → ℕ → List ℕ
bumped l k = set l k (min 2 (get_or l k 0 + 1))

-- how often the chain from link l on names r
unfoldable pub times : Reader → ℕ → ℕ → ℕ
times rd l r = times_in r (items rd l)

times_zero : (rd : Reader) (r : ℕ) → times rd 0 r ≡ 0
unfolding times times_in
times_zero rd r = rw (items_zero rd)

times_step : (rd : Reader) (l r : ℕ) → 0 < l → times rd l r ≡ if_eq (lower rd l 1) r 1 0 + times rd (lower rd l 3) r
unfolding times times_in
times_step rd l r p = rw (items_step rd l p)

-- one item
times_same : (rd : Reader) (l r : ℕ) → 0 < l → lower rd l 1 ≡ r → times rd l r ≡ 1 + times rd (lower rd l 3) r
unfolding if_eq
times_same rd l r p e = times_step rd l r p ∙ simp (if_eq, eq-eqb (lower rd l 1) r e)

times_other : (rd : Reader) (l r : ℕ) → 0 < l → (lower rd l 1 ≡ r → ⊥) → times rd l r ≡ times rd (lower rd l 3) r
unfolding if_eq
times_other rd l r p e = times_step rd l r p ∙ simp (if_eq, ne_eqb (lower rd l 1) r e) (omega arith)

-- A link run over once has named its items, and one run over twice has named them twice.
pub record Settled (rd : Reader) (named passed : List ℕ) : Type 0 where
  pub once : (l r : ℕ) → 1 ≤ get_or passed l 0 → 1 ≤ times rd l r → 1 ≤ get_or named r 0
  pub twice : (l r : ℕ) → 2 ≤ get_or passed l 0 → 1 ≤ times rd l r → 2 ≤ get_or named r 0
  pub small : (r : ℕ) → get_or named r 0 ≤ 2

-- what the chain from link c on names is added
pub record Added (rd : Reader) (c : ℕ) (before after : List ℕ) : Type 0 where
  pub adds : (r : ℕ) → get_or after r 0 ≡ min 2 (get_or before r 0 + times rd c r)

-- the entries after a bump
module _ (l : List ℕ) (k : ℕ) where
  bumped_at : k < length l → get_or (bumped l k) k 0 ≡ min 2 (get_or l k 0 + 1)
  unfolding bumped
  bumped_at h = get_or-set_same l k (min 2 (get_or l k 0 + 1)) 0 h

  pub bumped_same : (r : ℕ) → k ≡ r → k < length l → get_or (bumped l k) r 0 ≡ min 2 (get_or l r 0 + 1)
  bumped_same r e h = ap (λ (n : ℕ). get_or (bumped l k) n 0) (sym e) ∙ bumped_at h ∙ ap (λ (n : ℕ). min 2 (get_or l n 0 + 1)) e

  pub bumped_other : (r : ℕ) → (k ≡ r → ⊥) → get_or (bumped l k) r 0 ≡ get_or l r 0
  unfolding bumped
  bumped_other r h = get_or-set_other l k r (min 2 (get_or l k 0 + 1)) 0 (λ e. h (sym e))

  pub bumped_length : length (bumped l k) ≡ length l
  unfolding bumped
  bumped_length = length-set l k (min 2 (get_or l k 0 + 1))

-- what a record refers to is in the table where the record is
pub lower_in : (rd : Reader) (l : List ℕ) (i w x : ℕ) → 0 < i → i < length l → x ≡ lower rd i w → x < length l
lower_in rd l i w x p q e = omega (arith, lower_below rd i w p)

-- two numbers are equal or not
same_or_other : (a b : ℕ) → (a ≡ b) ⊎ (a ≡ b → ⊥)
same_or_other a b = go (eqb a b) refl
  where
    go : (t : Bool) → eqb a b ≡ t → (a ≡ b) ⊎ (a ≡ b → ⊥)
    go true e = inl (eqb-true a b e)
    go false e = inr (eqb-false a b e)

-- In the middle of a chain, at link i: what is left of it gives the counts, and settles the links that it has run over.
pub record Turn (rd : Reader) (c : ℕ) (start : List ℕ) (i : ℕ) (named passed : List ℕ) : Type 0 where
  pub in_named : i < length named
  pub in_passed : i < length passed
  pub adding : (r : ℕ) → min 2 (get_or named r 0 + times rd i r) ≡ min 2 (get_or start r 0 + times rd c r)
  pub once : (l r : ℕ) → 1 ≤ get_or passed l 0 → 1 ≤ times rd l r → 1 ≤ get_or named r 0 + times rd i r
  pub twice : (l r : ℕ) → 2 ≤ get_or passed l 0 → 1 ≤ times rd l r → 2 ≤ get_or named r 0 + times rd i r
  pub once_below : (l r : ℕ) → l ≤ i → 1 ≤ get_or passed l 0 → 1 ≤ times rd l r → 1 ≤ get_or named r 0
  pub twice_below : (l r : ℕ) → l ≤ i → 2 ≤ get_or passed l 0 → 1 ≤ times rd l r → 2 ≤ get_or named r 0
  pub small : (r : ℕ) → get_or named r 0 ≤ 2

pub turn_start : (rd : Reader) (c : ℕ) (named passed : List ℕ) → c < length named → c < length passed → Settled rd named passed → Turn rd c named c named passed
turn_start rd c named passed p q s = record {
  in_named = p;
  in_passed = q;
  adding = λ r. refl;
  once = λ l r h g. omega (arith, s.once l r h g);
  twice = λ l r h g. omega (arith, s.twice l r h g);
  once_below = λ l r b h g. s.once l r h g;
  twice_below = λ l r b h g. s.twice l r h g;
  small = λ r. s.small r;
}

-- The ways out of `pass_chain`: nothing is left, or nothing that is left counts.
module _ (rd : Reader) (c i : ℕ) (start named passed : List ℕ) (t : Turn rd c start i named passed) (rest : (r : ℕ) → 1 ≤ times rd i r → 2 ≤ get_or named r 0) where
  -- what is left makes no difference
  least : (r k : ℕ) → k ≤ 2 → k ≤ get_or named r 0 + times rd i r → k ≤ get_or named r 0
  least r k small h = go (times rd i r) refl
    where
      go : (n : ℕ) → times rd i r ≡ n → k ≤ get_or named r 0
      go zero e = omega arith
      go (suc n) e = let two : 2 ≤ get_or named r 0 = rest r (omega arith) in omega arith

  settles : Settled rd named passed
  settles = record {
    once = λ l r h g. least r 1 (omega arith) (t.once l r h g);
    twice = λ l r h g. least r 2 (omega arith) (t.twice l r h g);
    small = λ r. t.small r;
  }

  adds_up : Added rd c start named
  adds_up = record { adds = λ r. go r (times rd i r) refl }
    where
      go : (r n : ℕ) → times rd i r ≡ n → get_or named r 0 ≡ min 2 (get_or start r 0 + times rd c r)
      go r zero e = omega (arith, t.adding r, t.small r)
      go r (suc n) e = let two : 2 ≤ get_or named r 0 = rest r (omega arith) in omega (arith, t.adding r, t.small r)

pub turn_end : (rd : Reader) (c i : ℕ) (start named passed : List ℕ) → i ≡ 0 → Turn rd c start i named passed → Settled rd named passed × Added rd c start named
turn_end rd c i start named passed z t =
    let none : (r : ℕ) → 1 ≤ times rd i r → 2 ≤ get_or named r 0 = (λ r h. let e : times rd i r ≡ 0 = rw z (times_zero rd r) in absurd (omega arith)) in
    (settles rd c i start named passed t none, adds_up rd c i start named passed t none)

pub turn_stop : (rd : Reader) (c i : ℕ) (start named passed : List ℕ) (p : ℕ) → p ≡ get_or passed i 0 → 2 ≤ p → Turn rd c start i named passed →
    Settled rd named passed × Added rd c start named
turn_stop rd c i start named passed p e h t =
    let two : (r : ℕ) → 1 ≤ times rd i r → 2 ≤ get_or named r 0 = (λ r g. t.twice_below i r (omega arith) (omega arith) g) in
    (settles rd c i start named passed t two, adds_up rd c i start named passed t two)

-- one link more
module _ (rd : Reader) (c i : ℕ) (start named passed : List ℕ) (p x next : ℕ) (pos : i ≡ 0 → ⊥) (ep : p ≡ get_or passed i 0) (few : p < 2)
    (t : Turn rd c start i named passed) (ex : x ≡ lower rd i 1) (en : next ≡ lower rd i 3) where
  positive : 0 < i
  positive = omega arith

  x_below : x < i
  x_below = omega (arith, lower_below rd i 1 positive)

  next_below : next < i
  next_below = omega (arith, lower_below rd i 3 positive)

  -- the count of r and what is left of the chain for it, before and after
  named_same : (r : ℕ) → x ≡ r → (get_or (bumped named x) r 0 ≡ min 2 (get_or named r 0 + 1)) × (times rd i r ≡ 1 + times rd next r)
  named_same r e =
      (bumped_same named x r e (omega (arith, x_below, t.in_named)), times_same rd i r positive (sym ex ∙ e) ∙ ap (λ (n : ℕ). 1 + times rd n r) (sym en))

  named_other : (r : ℕ) → (x ≡ r → ⊥) → (get_or (bumped named x) r 0 ≡ get_or named r 0) × (times rd i r ≡ times rd next r)
  named_other r n =
      (bumped_other named x r n, times_other rd i r positive (λ e. n (ex ∙ e)) ∙ ap (λ (n : ℕ). times rd n r) (sym en))

  -- by whether r is the link's item
  by : (r : ℕ) (P : Type 0) →
      ((get_or (bumped named x) r 0 ≡ min 2 (get_or named r 0 + 1)) × (times rd i r ≡ 1 + times rd next r) → P) →
      ((get_or (bumped named x) r 0 ≡ get_or named r 0) × (times rd i r ≡ times rd next r) → P) → P
  by r P f g = ⊎_elim (λ e. f (named_same r e)) (λ n. g (named_other r n)) (same_or_other x r)

  adding_more : (r : ℕ) → min 2 (get_or (bumped named x) r 0 + times rd next r) ≡ min 2 (get_or start r 0 + times rd c r)
  adding_more r = by r _ (λ h. omega (arith, t.adding r, h.0, h.1)) (λ h. omega (arith, t.adding r, h.0, h.1))

  grows : (r k : ℕ) → k ≤ 2 → k ≤ get_or named r 0 + times rd i r → k ≤ get_or (bumped named x) r 0 + times rd next r
  grows r k s h = by r _ (λ e. omega (arith, e.0, e.1)) (λ e. omega (arith, e.0, e.1))

  keeps : (r k : ℕ) → k ≤ 2 → k ≤ get_or named r 0 → k ≤ get_or (bumped named x) r 0
  keeps r k s h = by r _ (λ e. omega (arith, e.0)) (λ e. omega (arith, e.0))

  -- by whether l is this link
  passed_at : get_or (bumped passed i) i 0 ≡ min 2 (get_or passed i 0 + 1)
  passed_at = bumped_at passed i t.in_passed

  once_more : (l r : ℕ) → 1 ≤ get_or (bumped passed i) l 0 → 1 ≤ times rd l r → 1 ≤ get_or (bumped named x) r 0 + times rd next r
  once_more l r h g = ⊎_elim here other (same_or_other i l)
    where
      here : i ≡ l → 1 ≤ get_or (bumped named x) r 0 + times rd next r
      here e = let q : 1 ≤ times rd i r = rw e g in grows r 1 (omega arith) (omega arith)

      other : (i ≡ l → ⊥) → 1 ≤ get_or (bumped named x) r 0 + times rd next r
      other n = grows r 1 (omega arith) (t.once l r (omega (arith, bumped_other passed i l n)) g)

  twice_more : (l r : ℕ) → 2 ≤ get_or (bumped passed i) l 0 → 1 ≤ times rd l r → 2 ≤ get_or (bumped named x) r 0 + times rd next r
  twice_more l r h g = ⊎_elim here other (same_or_other i l)
    where
      here : i ≡ l → 2 ≤ get_or (bumped named x) r 0 + times rd next r
      here e =
          let q : 1 ≤ times rd i r = rw e g in
          let two : 2 ≤ get_or (bumped passed i) i 0 = subst (λ (n : ℕ). 2 ≤ get_or (bumped passed i) n 0) (sym e) h in
          let one : 1 ≤ get_or named r 0 = t.once_below i r (omega arith) (omega (arith, passed_at)) q in
          grows r 2 (omega arith) (omega arith)

      other : (i ≡ l → ⊥) → 2 ≤ get_or (bumped named x) r 0 + times rd next r
      other n = grows r 2 (omega arith) (t.twice l r (omega (arith, bumped_other passed i l n)) g)

  turn_more : Turn rd c start next (bumped named x) (bumped passed i)
  turn_more = record {
    in_named = omega (arith, next_below, t.in_named, bumped_length named x);
    in_passed = omega (arith, next_below, t.in_passed, bumped_length passed i);
    adding = adding_more;
    once = once_more;
    twice = twice_more;
    once_below = λ l r b h g. keeps r 1 (omega arith) (t.once_below l r (omega (arith, next_below)) (omega (arith, bumped_other passed i l (omega (arith, next_below)))) g);
    twice_below = λ l r b h g. keeps r 2 (omega arith) (t.twice_below l r (omega (arith, next_below)) (omega (arith, bumped_other passed i l (omega (arith, next_below)))) g);
    small = λ r. by r _ (λ e. omega (arith, e.0)) (λ e. omega (arith, e.0, t.small r));
  }

-- The turn of `pass_chain`, whose callees left the tables named2 and passed2.
pub turn_next : (rd : Reader) (c i : ℕ) (start named passed : List ℕ) (p next long longer : ℕ) (named2 passed2 : List ℕ) → (i ≡ 0 → ⊥) → p ≡ get_or passed i 0 →
    p < 2 → Turn rd c start i named passed × (length named ≡ long) × (length passed ≡ longer) → next ≡ lower rd i 3 →
    (named2 ≡ bumped named (lower rd i 1)) × (passed2 ≡ bumped passed i) →
    Turn rd c start next named2 passed2 × (length named2 ≡ long) × (length passed2 ≡ longer)
turn_next rd c i start named passed p next long longer named2 passed2 pos ep few t en e =
    let more : Turn rd c start next (bumped named (lower rd i 1)) (bumped passed i) =
    turn_more rd c i start named passed p (lower rd i 1) next pos ep few t.0 refl en in
    (rw (e.0, e.1) more, ap length e.0 ∙ bumped_length named (lower rd i 1) ∙ t.1, ap length e.1 ∙ bumped_length passed i ∙ t.2)
