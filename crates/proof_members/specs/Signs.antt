-- The signs ⊥ and ⊤ as members, which need not be any record.
use Rattle.std.specs.Prelude.{ℕ, ◌+◌, ◌/◌, ◌%◌, ◌<◌, ◌≡◌, List, Bool, length, get_or, take}
use Rattle.std.proofs.Math.Path.{refl, sym, ap}
use Rattle.std.proofs.Common.{◌∙◌}
use Rattle.std.proofs.Math.Bool.{true, false}
use Rattle.std.proofs.lemmas.Bool.{false≢true}
use Rattle.std.proofs.Math.Dec.{eqb}
use native.Mathlib.Omega.{arith}
use borrow.Author.Tests.{eq-eqb, ne_eqb, eqb-true}
use Rattle.reader.specs.Words.{Reader}
use Rattle.reader.specs.Tests.{both, if_eq}
use Rattle.reader.specs.Trees.{Tree, leaf, node, tree, same, kind_of, first_of, ¬ᵗ◌, ⊥ᵗ, ⊤ᵗ}
use Rattle.reader.specs.TreeLaws.{same_equal, same_self}
use Rattle.reader.specs.Members.{member}
use Rattle.reader_chains.specs.Shapes.{kind_tree, false_tree, true_tree}
use Rattle.proof_members.specs.Keys.{by_one, equation_of, left_of, body, decoded, Normal, body_equation, body_single, decoded_negation, decoded_plain}
use Rattle.proof_members.specs.Makers.{kind_given}
use Rattle.proof_members.specs.Sequents.{sequent, Ready, members_from, each_taken, member_found, member_more}

-- the sign of a kind without parts, or ¬ before it
unfoldable pub sign : ℕ → ℕ → Tree
sign negation kind = if_eq negation 1 (¬ᵗ (node kind 0 leaf leaf leaf)) (node kind 0 leaf leaf leaf)

-- the key is of such a sign
unfoldable pub is_sign : Reader → ℕ → ℕ → ℕ → Bool
is_sign rd negation kind k = both (eqb (k % 4) negation) (eqb (kind_of (tree rd (k / 4 / 4096))) kind)

-- a kind whose records have no parts, neither ¬ nor =
pub record Sign (rd : Reader) (negation kind : ℕ) : Type 0 where
  pub bit : negation < 2
  pub given : kind ≡ 0 → ⊥
  pub no_negation : kind ≡ 18 → ⊥
  pub no_equation : kind ≡ 20 → ⊥
  pub bare : (i : ℕ) → 0 < i → rd i 0 ≡ kind → tree rd i ≡ node kind 0 leaf leaf leaf

pub sign_false : (rd : Reader) → Sign rd 0 14
sign_false rd = record { bit = omega arith; given = λ z. omega arith; no_negation = λ z. omega arith; no_equation = λ z. omega arith; bare = false_tree rd }

pub sign_true : (rd : Reader) → Sign rd 1 15
sign_true rd = record { bit = omega arith; given = λ z. omega arith; no_negation = λ z. omega arith; no_equation = λ z. omega arith; bare = true_tree rd }

-- the two signs of a kind
sign_negated : (negation kind : ℕ) → negation ≡ 1 → sign negation kind ≡ ¬ᵗ (node kind 0 leaf leaf leaf)
unfolding sign if_eq
sign_negated negation kind h = simp (sign, if_eq, eq-eqb negation 1 h)

sign_plain : (negation kind : ℕ) → (negation ≡ 1 → ⊥) → sign negation kind ≡ node kind 0 leaf leaf leaf
unfolding sign if_eq
sign_plain negation kind h = simp (sign, if_eq, ne_eqb negation 1 h)

module _ (rd : Reader) (negation kind size k : ℕ) (s : Sign rd negation kind) (normal : Normal rd size k) where
  -- a body that is one record of the kind
  bare_is : k / 2 % 2 ≡ 0 → kind_of (tree rd (k / 4 / 4096)) ≡ kind → body rd (k / 2) ≡ node kind 0 leaf leaf leaf
  unfolding equation_of left_of
  bare_is e h =
      let same_left : left_of (k / 2) ≡ k / 4 / 4096 = omega arith in
      let single : body rd (k / 2) ≡ tree rd (left_of (k / 2)) = body_single rd (k / 2) (λ z. omega arith) in
      let pos : 0 < k / 4 / 4096 = kind_given rd (k / 4 / 4096) kind (sym h) s.given in
      single ∙ ap (tree rd) same_left ∙ s.bare (k / 4 / 4096) pos (sym (kind_tree rd (k / 4 / 4096) pos) ∙ h)

  bare_has : body rd (k / 2) ≡ node kind 0 leaf leaf leaf → (k / 2 % 2 ≡ 0) × (kind_of (tree rd (k / 4 / 4096)) ≡ kind)
  unfolding equation_of left_of kind_of
  bare_has e = by_one (equation_of (k / 2))
      (λ h. absurd (s.no_equation (ap kind_of (sym e ∙ body_equation rd (k / 2) h))))
      (λ h.
      let same_left : k / 4 / 4096 ≡ left_of (k / 2) = omega arith in
      let single : body rd (k / 2) ≡ tree rd (left_of (k / 2)) = body_single rd (k / 2) h in
      (omega arith, ap kind_of (ap (tree rd) same_left ∙ sym single ∙ e)))

  sign_is : k % 4 ≡ negation → kind_of (tree rd (k / 4 / 4096)) ≡ kind → decoded rd k ≡ sign negation kind
  sign_is e h =
      let low : negation < 2 = s.bit in
      let b = bare_is (omega arith) h in
      by_one negation
      (λ one. decoded_negation rd k (omega arith) ∙ ap (λ (x : Tree). ¬ᵗ x) b ∙ sym (sign_negated negation kind one))
      (λ other. decoded_plain rd k (λ z. absurd (other (omega arith))) ∙ b ∙ sym (sign_plain negation kind other))

  sign_has : decoded rd k ≡ sign negation kind → (k % 4 ≡ negation) × (kind_of (tree rd (k / 4 / 4096)) ≡ kind)
  unfolding kind_of first_of
  sign_has e = by_one (k % 2) odd even
    where
      low : negation < 2
      low = s.bit

      odd : k % 2 ≡ 1 → (k % 4 ≡ negation) × (kind_of (tree rd (k / 4 / 4096)) ≡ kind)
      odd h = by_one negation
          (λ one.
          let b = bare_has (ap first_of (sym (decoded_negation rd k h) ∙ e ∙ sign_negated negation kind one)) in
          let z = b.0 in
          (omega arith, b.1))
          (λ other. absurd (s.no_negation (ap kind_of (sym (sign_plain negation kind other) ∙ sym e ∙ decoded_negation rd k h))))

      even : (k % 2 ≡ 1 → ⊥) → (k % 4 ≡ negation) × (kind_of (tree rd (k / 4 / 4096)) ≡ kind)
      even h = by_one negation
          (λ one. absurd (normal.no_negation h (ap kind_of (sym (decoded_plain rd k h) ∙ e ∙ sign_negated negation kind one))))
          (λ other.
          let b = bare_has (sym (decoded_plain rd k h) ∙ e ∙ sign_plain negation kind other) in
          let z = b.0 in
          (omega (arith, low), b.1))

  pub sign_compared : is_sign rd negation kind k ≡ same (decoded rd k) (sign negation kind)
  unfolding is_sign both
  sign_compared = go (same (decoded rd k) (sign negation kind)) refl
    where
      other : same (decoded rd k) (sign negation kind) ≡ false → (b c : Bool) → eqb (k % 4) negation ≡ b → eqb (kind_of (tree rd (k / 4 / 4096))) kind ≡ c → both b c ≡ false
      other e true true p q =
          let is = sign_is (eqb-true (k % 4) negation p) (eqb-true (kind_of (tree rd (k / 4 / 4096))) kind q) in
          absurd (false≢true (sym e ∙ rw is (same_self (sign negation kind))))
      other e true false p q = refl
      other e false c p q = refl

      go : (v : Bool) → same (decoded rd k) (sign negation kind) ≡ v → is_sign rd negation kind k ≡ v
      go true e =
          let h = sign_has (same_equal (decoded rd k) (sign negation kind) e) in
          simp (both, eq-eqb (k % 4) negation h.0, eq-eqb (kind_of (tree rd (k / 4 / 4096))) kind h.1)
      go false e = other e (eqb (k % 4) negation) (eqb (kind_of (tree rd (k / 4 / 4096))) kind) refl refl

-- The ways out of `is_sign`.
module _ (rd : Reader) (negation kind k : ℕ) where
  pub sign_other : (k % 4 ≡ negation → ⊥) → false ≡ is_sign rd negation kind k
  unfolding is_sign both
  sign_other h = simp (is_sign, both, ne_eqb (k % 4) negation h)

  pub sign_kind : k % 4 ≡ negation → (a : ℕ) → a ≡ kind_of (tree rd (k / 4 / 4096)) → eqb a kind ≡ is_sign rd negation kind k
  unfolding is_sign both
  sign_kind h a e = simp (is_sign, both, eq-eqb (k % 4) negation h, ← e)

-- The ways out of `holds_sign`.
module _ (rd : Reader) (numbers memory : List ℕ) (h negation kind : ℕ) (ready : Ready rd numbers memory h) (s : Sign rd negation kind) (i : ℕ)
    (lt : i < length (take h memory)) (inv : member (sign negation kind) (sequent rd memory h) ≡ member (sign negation kind) (members_from rd memory h i))
    (r : Bool) (e : r ≡ is_sign rd negation kind (get_or (take h memory) i 0)) where
  compared : r ≡ same (decoded rd (get_or (take h memory) i 0)) (sign negation kind)
  compared = e ∙ sign_compared rd negation kind (length numbers) (get_or (take h memory) i 0) s (each_taken rd numbers memory h i ready lt)

  pub sign_found : r ≡ true → true ≡ member (sign negation kind) (sequent rd memory h)
  sign_found q = member_found rd memory h (sign negation kind) i inv lt r compared q

  pub sign_more : r ≡ false → member (sign negation kind) (sequent rd memory h) ≡ member (sign negation kind) (members_from rd memory h (i + 1))
  sign_more q = member_more rd memory h (sign negation kind) i inv lt r compared q

-- the two signs that rules need
pub false_held : (s : List Tree) (r : Bool) → r ≡ member (sign 0 14) s → r ≡ member ⊥ᵗ s
false_held s r e = rw (← sign_plain 0 14 (λ z. omega arith)) e

pub not_true_held : (s : List Tree) (r : Bool) → r ≡ member (sign 1 15) s → r ≡ member (¬ᵗ ⊤ᵗ) s
not_true_held s r e = rw (← sign_negated 1 15 refl) e
