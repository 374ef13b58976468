-- Kind, atom and parts of the tree that a key stands for, and the ways out of the code that reads them.
use Prim.Native.Nat.{ℕ, zero, suc, ◌+◌, ◌-◌, ◌%◌, ◌<◌, ◌≤◌}
use Rattle.std.specs.Prelude.{◌≡◌, List, Bool, eqb}
use Rattle.std.proofs.Math.Path.{refl}
use Rattle.std.proofs.Common.{sym, ap, ◌∙◌, arith}
use Rattle.std.proofs.Math.Bool.{true, false}
use Rattle.std.proofs.Math.ListN.{length, get_or}
use borrow.Author.Tests.{ne_eqb}
use Rattle.reader.specs.Words.{Reader}
use Rattle.reader.specs.Tests.{if_eq}
use Rattle.reader.specs.Trees.{Tree, leaf, node, atom, kind_of, atom_of, first_of, second_of, third_of, ⊥ᵗ, ¬ᵗ◌}
use Rattle.reader_equality.specs.Keys.{part_at, part_entry, part_below}
use Rattle.derivation_rules.specs.Erase.{bare_tree}
use Rattle.derivation_trees.specs.Erased.{Plain, bare_plain}
use Rattle.derivation_trees.specs.Keys.{negations_of, body_of, rank, decoded, Normal, Stands, by_body, body_none, body_bottom, body_record}
use Rattle.derivation_trees.specs.Makers.{body_is, decoded_body, decoded_more, stands_none, normal_less}
use Rattle.derivation_trees.specs.Table.{KeyOf, Table, key_in_lem}

-- r is the key of t, a part of what `key` stands for
pub record Part (rd : Reader) (size key r : ℕ) (t : Tree) : Type 0 where
  pub stands : Stands rd size r t
  pub falls : 0 < key → rank r < rank key
  pub few : (b : ℕ) → size ≤ b → negations_of key ≤ b → negations_of r ≤ b

-- the first part of a tree, the second, the third
unfoldable pub part_of : ℕ → Tree → Tree
part_of w t = if_eq w 1 (first_of t) (if_eq w 2 (second_of t) (third_of t))

-- a tree without parts
by_part : (w : ℕ) (t : Tree) → first_of t ≡ leaf → second_of t ≡ leaf → third_of t ≡ leaf → part_of w t ≡ leaf
unfolding part_of if_eq
by_part w t x y z = go (eqb w 1) (eqb w 2)
  where
    go : (a b : Bool) → elim a as (λ x. Tree) [ true ↦ first_of t | false ↦ elim b as (λ x. Tree) [ true ↦ second_of t | false ↦ third_of t ] ] ≡ leaf
    go true b = x
    go false true = y
    go false false = z

-- The four forms of what a key stands for.
module _ (rd : Reader) (key : ℕ) where
  pub as_not : 262144 ≤ key → decoded rd key ≡ ¬ᵗ (decoded rd (key - 262144))
  as_not h = let e : key - 262144 + 262144 ≡ key = omega arith in ap (decoded rd) (sym e) ∙ decoded_more rd (key - 262144)

  pub as_none : key ≡ 0 → decoded rd key ≡ leaf
  as_none h = decoded_body rd key (omega arith) ∙ body_none rd key h

  pub as_bottom : key ≡ 1 → decoded rd key ≡ ⊥ᵗ
  as_bottom h = decoded_body rd key (omega arith) ∙ body_bottom rd key h

  pub as_record : 1 < key → key < 262144 → decoded rd key ≡ bare_tree rd (key - 1)
  as_record h l = decoded_body rd key l ∙ body_record rd key h

module _ (rd : Reader) (size key : ℕ) (n : Normal rd size key) (h : 1 < key) (l : key < 262144) where
  record_plain : Plain (rd (key - 1) 0)
  record_plain = let e = body_is rd key l in rw e at (n.plain (omega arith))

  pub as_node : decoded rd key ≡
      node (rd (key - 1) 0) (atom rd (key - 1)) (bare_tree rd (part_at rd false (key - 1) 1)) (bare_tree rd (part_at rd false (key - 1) 2)) (bare_tree rd (part_at rd false (key - 1) 3))
  as_node = as_record rd key h l ∙ bare_plain rd (key - 1) (omega arith) record_plain

  pub record_in : key - 1 < size
  record_in = omega (arith, n.inside, body_is rd key l)

-- the record of a body has an entry in tables of that length
pub body_in : (rd : Reader) (size key b n : ℕ) → Normal rd size key → b ≡ key % 262144 → 2 ≤ b → size ≤ n → b - 1 < n
unfolding body_of
body_in rd size key b n normal e h l = omega (arith, normal.inside)

-- The ways out of `kind_of` and `atom_of`.
module _ (rd : Reader) (key : ℕ) where
  pub kind_not : 262144 ≤ key → 18 ≡ kind_of (decoded rd key)
  unfolding kind_of
  kind_not h = rw (as_not rd key h) refl

  pub kind_none : key ≡ 0 → 0 ≡ kind_of (decoded rd key)
  unfolding kind_of
  kind_none h = rw (as_none rd key h) refl

  pub kind_bottom : key ≡ 1 → 14 ≡ kind_of (decoded rd key)
  unfolding kind_of
  kind_bottom h = rw (as_bottom rd key h) refl

  pub atom_not : 262144 ≤ key → 0 ≡ atom_of (decoded rd key)
  unfolding atom_of
  atom_not h = rw (as_not rd key h) refl

  pub atom_sign : key < 2 → 0 ≡ atom_of (decoded rd key)
  unfolding atom_of
  atom_sign h = by_body key
      (λ e. rw (as_none rd key e) refl)
      (λ e. rw (as_bottom rd key e) refl)
      (λ e. absurd (omega arith))

module _ (rd : Reader) (size key : ℕ) (n : Normal rd size key) (l : key < 262144) where
  pub kind_record : (key ≡ 0 → ⊥) → (key ≡ 1 → ⊥) → (k : ℕ) → k ≡ rd (key - 1) 0 → k ≡ kind_of (decoded rd key)
  unfolding kind_of
  kind_record p q k e = rw (as_node rd size key n (omega arith) l) e

  pub atom_record : 2 ≤ key → (a : ℕ) → a ≡ atom rd (key - 1) → a ≡ atom_of (decoded rd key)
  unfolding atom_of
  atom_record h a e = rw (as_node rd size key n h l) e

-- The ways out of the code that reads parts: those of a negation, of ⊥ and the empty tree, of a record.
module _ (rd : Reader) (size key : ℕ) where
  -- the empty tree, as a part
  none_part : (t : Tree) → t ≡ leaf → Part rd size key 0 t
  unfolding rank negations_of body_of
  none_part t e = record {
    stands = rw e (stands_none rd size);
    falls = λ p. omega arith;
    few = λ b p q. omega arith;
  }

  -- part w of a negation
  module _ (w : ℕ) (h : 262144 ≤ key) where
    pub not_first : Normal rd size key → w ≡ 1 → Part rd size key (key - 262144) (part_of w (decoded rd key))
    unfolding part_of if_eq first_of rank negations_of body_of
    not_first n e = record {
      stands = record { normal = normal_less rd size key h n; means = rw (e, as_not rd key h) refl };
      falls = λ p. omega arith;
      few = λ b p q. omega arith;
    }

    pub not_other : (w ≡ 1 → ⊥) → Part rd size key 0 (part_of w (decoded rd key))
    unfolding part_of if_eq second_of third_of
    not_other n = none_part (part_of w (decoded rd key)) (rw (as_not rd key h) (simp (part_of, if_eq, ne_eqb w 1 n) (go (eqb w 2))))
      where
        go : (b : Bool) → elim b as (λ x. Tree) [ true ↦ leaf | false ↦ leaf ] ≡ leaf
        go true = refl
        go false = refl

  -- part w of ⊥ or of the empty tree
  pub sign_part : (w : ℕ) → key < 2 → Part rd size key 0 (part_of w (decoded rd key))
  unfolding first_of second_of third_of
  sign_part w h = none_part (part_of w (decoded rd key)) (by_body key
      (λ e. rw (as_none rd key e) (by_part w leaf refl refl refl))
      (λ e. rw (as_bottom rd key e) (by_part w ⊥ᵗ refl refl refl))
      (λ e. absurd (omega arith)))

-- part w of a record's tree
module _ (rd : Reader) (keys : List ℕ) (key w : ℕ) (table : Table rd keys) (n : Normal rd (length keys) key) (h : 2 ≤ key) (l : key < 262144) (low : 0 < w) (high : w < 4) where
  part_tree : part_of w (decoded rd key) ≡ bare_tree rd (part_at rd false (key - 1) w)
  unfolding part_of if_eq first_of second_of third_of
  part_tree = rw (as_node rd (length keys) key n h l) (go w low high)
    where
      go : (v : ℕ) → 0 < v → v < 4 →
          part_of v (node (rd (key - 1) 0) (atom rd (key - 1)) (bare_tree rd (part_at rd false (key - 1) 1)) (bare_tree rd (part_at rd false (key - 1) 2)) (bare_tree rd (part_at rd false (key - 1) 3)))
          ≡ bare_tree rd (part_at rd false (key - 1) v)
      go zero p q = absurd (omega arith)
      go (suc zero) p q = refl
      go (suc (suc zero)) p q = refl
      go (suc (suc (suc zero))) p q = refl
      go (suc (suc (suc (suc v)))) p q = absurd (omega arith)

  pub record_room : (0 < key - 1) × (key - 1 ≤ length keys)
  record_room = (omega arith, omega (arith, record_in rd (length keys) key n h l))

  pub record_part : (i r : ℕ) → i ≡ key - 1 → r ≡ part_entry rd false keys i w → Part rd (length keys) key r (part_of w (decoded rd key))
  unfolding part_entry rank negations_of body_of
  record_part i r ei er =
      let below : part_at rd false (key - 1) w < key - 1 = part_below rd false (key - 1) w (omega arith) in
      let inside : key - 1 < length keys = record_in rd (length keys) key n h l in
      let is : r ≡ get_or keys (part_at rd false (key - 1) w) 0 = er ∙ rw ei refl in
      let own : KeyOf rd (part_at rd false (key - 1) w + 1) r (bare_tree rd (part_at rd false (key - 1) w)) =
      rw is (table.keyed.holds (part_at rd false (key - 1) w) (omega arith)) in
      let wide : KeyOf rd (length keys) r (bare_tree rd (part_at rd false (key - 1) w)) =
      rw is (key_in_lem rd keys (length keys) (part_at rd false (key - 1) w) (length keys) table.keyed (omega arith) (omega arith)) in
      record {
        stands = rw part_tree wide.stands;
        falls = λ p. omega (arith, own.few, own.stands.normal.inside, table.small);
        few = λ b p q. omega (arith, wide.few);
      }

-- the parts by name
module _ (rd : Reader) (size key r : ℕ) (t : Tree) where
  pub first_is : Part rd size key r (part_of 1 t) → Part rd size key r (first_of t)
  unfolding part_of if_eq
  first_is p = p

  pub second_is : Part rd size key r (part_of 2 t) → Part rd size key r (second_of t)
  unfolding part_of if_eq
  second_is p = p
