-- Keys of the empty tree, of ⊥, of negations and of records.
use Prim.Native.Nat.{ℕ, zero, suc, ◌+◌, ◌-◌, ◌/◌, ◌%◌, ◌<◌, ◌≤◌}
use Rattle.std.specs.Prelude.{◌≡◌, false}
use Rattle.std.proofs.Math.Path.{refl, ap}
use Rattle.std.proofs.Common.{sym, ◌∙◌}
use native.Mathlib.Omega.{arith}
use Rattle.reader.specs.Words.{Reader}
use Rattle.reader.specs.Trees.{Tree, leaf, node, child, atom, kind_of, ⊥ᵗ, ¬ᵗ◌}
use Rattle.reader.specs.TreeLaws.{child_below}
use Rattle.reader_equality.specs.Least.{least_of, number_most, number_tree, number_equal, number_least}
use Rattle.reader_equality.specs.Keys.{part_at}
use Rattle.derivation_rules.specs.Erase.{bare_tree}
use Rattle.derivation_trees.specs.Erased.{Plain, bare_zero, bare_false, bare_true, bare_not, bare_all, bare_plain}
use Rattle.derivation_trees.specs.Keys.{negations_of, body_of, body_tree, negate, decoded, Normal, Stands, leaf_node, body_none, body_bottom, body_record}

-- A key below 262,144 is a body; any other has a ¬ before it.
module _ (rd : Reader) (key : ℕ) where
  pub body_is : key < 262144 → body_of key ≡ key
  unfolding body_of
  body_is h = omega arith

  pub decoded_body : key < 262144 → decoded rd key ≡ body_tree rd key
  unfolding decoded negate negations_of
  decoded_body h =
      let none : key / 262144 ≡ 0 = omega arith in
      rw (none, body_is h) refl

  pub decoded_more : decoded rd (key + 262144) ≡ ¬ᵗ (decoded rd key)
  unfolding decoded negate negations_of body_of
  decoded_more =
      let signs : (key + 262144) / 262144 ≡ suc (key / 262144) = omega arith in
      let same : (key + 262144) % 262144 ≡ key % 262144 = omega arith in
      rw (signs, same) refl

pub normal_wider : (rd : Reader) (size more key : ℕ) → size ≤ more → Normal rd size key → Normal rd more key
normal_wider rd size more key h n = record { inside = omega (arith, n.inside); least = n.least; plain = n.plain }

pub stands_wider : (rd : Reader) (size more key : ℕ) (t : Tree) → size ≤ more → Stands rd size key t → Stands rd more key t
stands_wider rd size more key t h s = record { normal = normal_wider rd size more key h s.normal; means = s.means }

-- the same body
normal_as : (rd : Reader) (size k l : ℕ) → body_of k ≡ body_of l → Normal rd size k → Normal rd size l
normal_as rd size k l e n = record {
  inside = omega (arith, e, n.inside);
  least = rw e at n.least;
  plain = rw e at n.plain;
}

module _ (rd : Reader) (size : ℕ) where
  pub stands_none : Stands rd size 0 leaf
  unfolding body_of
  stands_none = record {
    normal = record { inside = omega arith; least = λ h. absurd (omega arith); plain = λ h. absurd (omega arith) };
    means = decoded_body rd 0 (omega arith) ∙ body_none rd 0 refl;
  }

  pub stands_bottom : 0 < size → Stands rd size 1 ⊥ᵗ
  unfolding body_of
  stands_bottom p = record {
    normal = record { inside = omega arith; least = λ h. absurd (omega arith); plain = λ h. absurd (omega arith) };
    means = decoded_body rd 1 (omega arith) ∙ body_bottom rd 1 refl;
  }

  pub normal_more : (k : ℕ) → Normal rd size k → Normal rd size (k + 262144)
  unfolding body_of
  normal_more k = normal_as rd size k (k + 262144) (omega arith)

  pub normal_less : (k : ℕ) → 262144 ≤ k → Normal rd size k → Normal rd size (k - 262144)
  unfolding body_of
  normal_less k h = normal_as rd size k (k - 262144) (omega arith)

  pub stands_not : (k : ℕ) (t : Tree) → Stands rd size k t → Stands rd size (k + 262144) (¬ᵗ t)
  stands_not k t s = record { normal = normal_more k s.normal; means = decoded_more rd k ∙ rw s.means refl }

-- a record that is the least with its tree, and of a plain kind
pub record Own (rd : Reader) (x : ℕ) : Type 0 where
  pub least : least_of (bare_tree rd) x ≡ x
  pub plain : Plain (rd x 0)

-- The least record with the tree of a record of a plain kind.
module _ (rd : Reader) (i : ℕ) (p : 0 < i) (plain : Plain (rd i 0)) where
  one : bare_tree rd (least_of (bare_tree rd) i) ≡
      node (rd i 0) (atom rd i) (bare_tree rd (part_at rd false i 1)) (bare_tree rd (part_at rd false i 2)) (bare_tree rd (part_at rd false i 3))
  one = number_tree (bare_tree rd) i ∙ bare_plain rd i p plain

  pub own_positive : 0 < least_of (bare_tree rd) i
  own_positive = go (least_of (bare_tree rd) i) refl
    where
      go : (n : ℕ) → least_of (bare_tree rd) i ≡ n → 0 < n
      go zero e = leaf_node _ _ _ _ _ (bare_tree rd (least_of (bare_tree rd) i)) (rw e (bare_zero rd)) one
      go (suc n) e = omega arith

  pub own_least : Own rd (least_of (bare_tree rd) i)
  unfolding kind_of
  own_least = record {
    least = number_least (bare_tree rd) i;
    plain = record {
      no_false = λ h. plain.no_false (ap kind_of (sym one ∙ bare_false rd l q h));
      no_true = λ h. plain.no_not (ap kind_of (sym one ∙ bare_true rd l q h));
      no_not = λ h. plain.no_not (ap kind_of (sym one ∙ bare_not rd l q h));
      no_all = λ h.
          let same : least_of (bare_tree rd) l ≡ least_of (bare_tree rd) (child rd l 2) = number_equal (bare_tree rd) l (child rd l 2) (bare_all rd l q h) in
          omega (arith, number_least (bare_tree rd) i, number_most (bare_tree rd) (child rd l 2), child_below rd l 2 q);
    };
  }
    where
      l : ℕ
      l = least_of (bare_tree rd) i

      q : 0 < l
      q = own_positive

  pub stands_record : (r : ℕ) → i < 262143 → r ≡ least_of (bare_tree rd) i → Stands rd (i + 1) (r + 1) (bare_tree rd i)
  unfolding body_of
  stands_record r small e =
      let most : r ≤ i = omega (arith, number_most (bare_tree rd) i) in
      let some : 0 < r = omega (arith, own_positive) in
      let body : body_of (r + 1) ≡ r + 1 = body_is rd (r + 1) (omega arith) in
      let same : r + 1 - 1 ≡ least_of (bare_tree rd) i = omega arith in
      let back : body_of (r + 1) - 1 ≡ least_of (bare_tree rd) i = omega arith in
      record {
        normal = record {
          inside = omega arith;
          least = λ h. rw back own_least.least;
          plain = λ h. rw back own_least.plain;
        };
        means =
            decoded_body rd (r + 1) (omega arith) ∙ body_record rd (r + 1) (omega arith) ∙ ap (bare_tree rd) same ∙ number_tree (bare_tree rd) i;
      }
