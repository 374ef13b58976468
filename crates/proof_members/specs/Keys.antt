-- A member of a sequent as one number, its key: whether it is a negation; whether what is negated, or it itself, is an equation; and the numbers of the
-- records of the one or two trees. Equal members have equal keys, so that no formula is built and none is compared node by node.
use Rattle.std.specs.Prelude.{ℕ, ◌/◌, ◌%◌, ◌<◌, ◌≡◌, refl, Bool, true, false, eqb}
use Rattle.std.proofs.Math.Path.{sym, ap}
use Rattle.std.proofs.Common.{◌∙◌, arith}
use Rattle.std.proofs.lemmas.Bool.{false≢true}
use borrow.Author.Tests.{eq-eqb, ne_eqb, eqb-true, eqb-false}
use Rattle.reader.specs.Words.{Reader}
use Rattle.reader.specs.Tests.{if_eq}
use Rattle.reader.specs.Trees.{Tree, tree, same, kind_of, first_of, second_of, ¬ᵗ◌, ◌=ᵗ◌}
use Rattle.reader.specs.TreeLaws.{same_equal, same_self}
use Rattle.reader_equality.specs.Least.{least, least_equal}

-- of a body's key: 1 for an equation, its left tree or the one tree, its right tree
unfoldable pub equation_of : ℕ → ℕ
equation_of q = q % 2

unfoldable pub right_of : ℕ → ℕ
right_of q = q / 2 % 4096

unfoldable pub left_of : ℕ → ℕ
left_of q = q / 2 / 4096

-- the body: an equation of two records' trees, or one record's tree
unfoldable pub body : Reader → ℕ → Tree
body rd q = if_eq (equation_of q) 1 (tree rd (left_of q) =ᵗ tree rd (right_of q)) (tree rd (left_of q))

-- the member: the negation of its body, or its body
unfoldable pub decoded : Reader → ℕ → Tree
decoded rd k = if_eq (k % 2) 1 (¬ᵗ (body rd (k / 2))) (body rd (k / 2))

-- a body's key, of records below `size`, as every body with that tree has it
pub record NormalBody (rd : Reader) (size q : ℕ) : Type 0 where
  pub left_in : left_of q < size
  pub right_in : right_of q < size
  pub left_least : least rd (left_of q) ≡ left_of q
  pub right_least : least rd (right_of q) ≡ right_of q
  pub one_tree : (equation_of q ≡ 1 → ⊥) → right_of q ≡ 0
  pub no_equation : (equation_of q ≡ 1 → ⊥) → kind_of (tree rd (left_of q)) ≡ 20 → ⊥

-- a member's key, as every member with that tree has it
pub record Normal (rd : Reader) (size k : ℕ) : Type 0 where
  pub bodied : NormalBody rd size (k / 2)
  pub no_negation : (k % 2 ≡ 1 → ⊥) → kind_of (body rd (k / 2)) ≡ 18 → ⊥

-- the key stands for the tree
pub record Stands (rd : Reader) (size k : ℕ) (t : Tree) : Type 0 where
  pub normal : Normal rd size k
  pub means : decoded rd k ≡ t

-- the two forms of a body and of a member
module _ (rd : Reader) where
  pub body_equation : (q : ℕ) → equation_of q ≡ 1 → body rd q ≡ tree rd (left_of q) =ᵗ tree rd (right_of q)
  unfolding body if_eq
  body_equation q h = simp (body, if_eq, eq-eqb (equation_of q) 1 h)

  pub body_single : (q : ℕ) → (equation_of q ≡ 1 → ⊥) → body rd q ≡ tree rd (left_of q)
  unfolding body if_eq
  body_single q h = simp (body, if_eq, ne_eqb (equation_of q) 1 h)

  pub decoded_negation : (k : ℕ) → k % 2 ≡ 1 → decoded rd k ≡ ¬ᵗ (body rd (k / 2))
  unfolding decoded if_eq
  decoded_negation k h = simp (decoded, if_eq, eq-eqb (k % 2) 1 h)

  pub decoded_plain : (k : ℕ) → (k % 2 ≡ 1 → ⊥) → decoded rd k ≡ body rd (k / 2)
  unfolding decoded if_eq
  decoded_plain k h = simp (decoded, if_eq, ne_eqb (k % 2) 1 h)

-- a test on a number, with what it shows
pub by_one : {A : Type 0} (n : ℕ) → (n ≡ 1 → A) → ((n ≡ 1 → ⊥) → A) → A
by_one {A} n yes-one other = go (eqb n 1) refl
  where
    go : (b : Bool) → eqb n 1 ≡ b → A
    go true e = yes-one (eqb-true n 1 e)
    go false e = other (eqb-false n 1 e)

-- one tree has one record number
number_one : (rd : Reader) (i j : ℕ) → least rd i ≡ i → least rd j ≡ j → tree rd i ≡ tree rd j → i ≡ j
number_one rd i j p q e = sym p ∙ least_equal rd i j e ∙ q

module _ (rd : Reader) (size : ℕ) where
  -- equal bodies have one key
  body_one : (q r : ℕ) → NormalBody rd size q → NormalBody rd size r → body rd q ≡ body rd r → q ≡ r
  unfolding kind_of first_of second_of equation_of right_of left_of
  body_one q r a b e = by_one (equation_of q) first second
    where
      kinds : body rd q ≡ body rd r → kind_of (body rd q) ≡ kind_of (body rd r)
      kinds z = ap kind_of z

      first : equation_of q ≡ 1 → q ≡ r
      first h = by_one (equation_of r) (λ g.
          let lefts = number_one rd (left_of q) (left_of r) a.left_least b.left_least
          (ap first_of (sym (body_equation rd q h) ∙ e ∙ body_equation rd r g)) in
          let rights = number_one rd (right_of q) (right_of r) a.right_least b.right_least
          (ap second_of (sym (body_equation rd q h) ∙ e ∙ body_equation rd r g)) in
          omega arith)
          (λ g. absurd (b.no_equation g (ap kind_of (sym (body_single rd r g) ∙ sym e ∙ body_equation rd q h))))

      second : (equation_of q ≡ 1 → ⊥) → q ≡ r
      second h = by_one (equation_of r)
          (λ g. absurd (a.no_equation h (ap kind_of (sym (body_single rd q h) ∙ e ∙ body_equation rd r g))))
          (λ g.
          let lefts = number_one rd (left_of q) (left_of r) a.left_least b.left_least
          (sym (body_single rd q h) ∙ e ∙ body_single rd r g) in
          let rq = a.one_tree h in
          let rr = b.one_tree g in
          omega arith)

  -- equal members have one key
  pub key_one : (k l : ℕ) → Normal rd size k → Normal rd size l → decoded rd k ≡ decoded rd l → k ≡ l
  unfolding kind_of first_of
  key_one k l a b e = by_one (k % 2) first second
    where
      first : k % 2 ≡ 1 → k ≡ l
      first h = by_one (l % 2) (λ g.
          let bodies = body_one (k / 2) (l / 2) a.bodied b.bodied
          (ap first_of (sym (decoded_negation rd k h) ∙ e ∙ decoded_negation rd l g)) in
          omega arith)
          (λ g. absurd (b.no_negation g (ap kind_of (sym (decoded_plain rd l g) ∙ sym e ∙ decoded_negation rd k h))))

      second : (k % 2 ≡ 1 → ⊥) → k ≡ l
      second h = by_one (l % 2)
          (λ g. absurd (a.no_negation h (ap kind_of (sym (decoded_plain rd k h) ∙ e ∙ decoded_negation rd l g))))
          (λ g.
          let bodies = body_one (k / 2) (l / 2) a.bodied b.bodied
          (sym (decoded_plain rd k h) ∙ e ∙ decoded_plain rd l g) in
          omega arith)

  -- comparing keys is comparing members
  pub key_same : (k l : ℕ) → Normal rd size k → Normal rd size l → eqb k l ≡ same (decoded rd k) (decoded rd l)
  key_same k l a b = go (same (decoded rd k) (decoded rd l)) refl
    where
      go : (v : Bool) → same (decoded rd k) (decoded rd l) ≡ v → eqb k l ≡ v
      go true e = eq-eqb k l (key_one k l a b (same_equal (decoded rd k) (decoded rd l) e))
      go false e = ne_eqb k l (λ q. false≢true (sym e ∙ rw q (same_self (decoded rd l))))
