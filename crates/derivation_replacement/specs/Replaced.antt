-- Replacement tested on keys, as one step, and the ways out of the code that tests it.
use Rattle.std.specs.Prelude.{ℕ, zero, suc, ◌+◌, ◌<◌, ◌≤◌, ◌≡◌, Bool, not}
use Rattle.std.proofs.Math.Path.{refl}
use Rattle.std.proofs.Common.{sym, ◌∙◌, arith}
use Rattle.std.proofs.Math.Bool.{true, false, false≢true}
use Rattle.std.proofs.Math.Dec.{eqb}
use borrow.Author.Tests.{eq-eqb, ne_eqb, eqb-true, eqb-false, not-true, not-false}
use Rattle.reader.specs.Words.{Reader}
use Rattle.reader.specs.Tests.{both, if_eq}
use Rattle.reader.specs.TestLaws.{eq_yes, eq_no}
use Rattle.reader.specs.Trees.{Tree, leaf, node, kind_of, atom_of, first_of, second_of, third_of, same_head, same}
use Rattle.reader.specs.Variables.{binders, is_index, indices_below, replaced}
use Rattle.reader_closedness.specs.Reach.{replaced_node, replaced_closed}
use Rattle.derivation_trees.specs.Keys.{negations_of, body_of, rank, decoded, Normal, key_one, key_same}
use Rattle.derivation_trees.specs.Makers.{stands_none}
use Rattle.derivation_trees.specs.Parts.{Part, part_of, as_none}
use Rattle.derivation_known.specs.Known.{fits}

-- `fits` for part w of each tree, where the index stands deeper below a binder
unfoldable pub part_depth : Reader → ℕ → ℕ → ℕ → ℕ
part_depth rd j d w = if_eq w 2 (d + binders (kind_of (decoded rd j))) d

unfoldable pub fits_part : Reader → ℕ → ℕ → ℕ → ℕ → ℕ → Bool
fits_part rd x t j d w = same (part_of w (decoded rd x)) (replaced (part_depth rd j d w) (decoded rd t) (part_of w (decoded rd j)))

-- the parts other than w
unfoldable pub first_other : ℕ → ℕ
first_other w = if_eq w 1 2 1

unfoldable pub second_other : ℕ → ℕ
second_other w = if_eq w 3 2 3

unfoldable pub others_fit : Reader → ℕ → ℕ → ℕ → ℕ → ℕ → Bool
others_fit rd x t j d w = both (fits_part rd x t j d (first_other w)) (fits_part rd x t j d (second_other w))

-- the tree of key j is the bound variable with index d
unfoldable pub index_key : Reader → ℕ → ℕ → Bool
index_key rd j d = is_index (kind_of (decoded rd j)) (atom_of (decoded rd j)) d

-- the trees of keys x and j have one kind and one atom
unfoldable pub same_heads : Reader → ℕ → ℕ → Bool
same_heads rd x j = same_head (kind_of (decoded rd x)) (kind_of (decoded rd j)) (atom_of (decoded rd x)) (atom_of (decoded rd j))

-- the same, and the tree of key x is no leaf
unfoldable pub heads_fit : Reader → ℕ → ℕ → Bool
heads_fit rd x j = if_eq x 0 false (same_heads rd x j)

-- The ways out of the small functions.
module _ (rd : Reader) (j d k : ℕ) (ek : k ≡ kind_of (decoded rd j)) where
  pub index_other : (k ≡ 9 → ⊥) → false ≡ index_key rd j d
  unfolding index_key is_index
  index_other h = simp (is_index, ← ek, ne_eqb k 9 h)

  pub index_is : k ≡ 9 → (a : ℕ) → a ≡ atom_of (decoded rd j) → eqb a d ≡ index_key rd j d
  unfolding index_key is_index
  index_is h a e = simp (is_index, ← ek, eq-eqb k 9 h, ← e)

module _ (rd : Reader) (j d w : ℕ) where
  pub depth_same : (w ≡ 2 → ⊥) → d ≡ part_depth rd j d w
  unfolding part_depth if_eq
  depth_same h = simp (part_depth, if_eq, ne_eqb w 2 h)

  module _ (second : w ≡ 2) (k : ℕ) (ek : k ≡ kind_of (decoded rd j)) where
    pub depth_binder : k ≡ 19 → d + 1 ≡ part_depth rd j d w
    unfolding part_depth if_eq binders
    depth_binder h = simp (part_depth, if_eq, binders, eq-eqb w 2 second, ← ek, eq-eqb k 19 h)

    pub depth_other : (k ≡ 19 → ⊥) → d ≡ part_depth rd j d w
    unfolding part_depth if_eq binders
    depth_other h = simp (part_depth, if_eq, binders, eq-eqb w 2 second, ← ek, ne_eqb k 19 h) (omega arith)

module _ (w : ℕ) where
  pub first_two : w ≡ 1 → 2 ≡ first_other w
  unfolding first_other
  first_two h = eq_yes w 1 2 1 2 h refl

  pub first_one : (w ≡ 1 → ⊥) → 1 ≡ first_other w
  unfolding first_other
  first_one h = eq_no w 1 2 1 1 h refl

  pub second_two : w ≡ 3 → 2 ≡ second_other w
  unfolding second_other
  second_two h = eq_yes w 3 2 3 2 h refl

  pub second_three : (w ≡ 3 → ⊥) → 3 ≡ second_other w
  unfolding second_other
  second_three h = eq_no w 3 2 3 3 h refl

module _ (rd : Reader) (x j k l : ℕ) (ek : k ≡ kind_of (decoded rd x)) (el : l ≡ kind_of (decoded rd j)) where
  pub heads_kinds : (k ≡ l → ⊥) → false ≡ same_heads rd x j
  unfolding same_heads same_head
  heads_kinds h = simp (same_head, ← ek, ← el, ne_eqb k l h)

  pub heads_atoms : k ≡ l → (a b : ℕ) → a ≡ atom_of (decoded rd x) → b ≡ atom_of (decoded rd j) → eqb a b ≡ same_heads rd x j
  unfolding same_heads same_head
  heads_atoms h a b ea eb = simp (same_head, ← ek, ← el, eq-eqb k l h, ← ea, ← eb)

module _ (rd : Reader) (x j : ℕ) where
  pub heads_none : x ≡ 0 → false ≡ heads_fit rd x j
  unfolding heads_fit
  heads_none h = eq_yes x 0 false (same_heads rd x j) false h refl

  pub heads_some : (x ≡ 0 → ⊥) → (r : Bool) → r ≡ same_heads rd x j → r ≡ heads_fit rd x j
  unfolding heads_fit
  heads_some h r e = eq_no x 0 false (same_heads rd x j) r h e

-- whichever part comes last
all_parts : (rd : Reader) (x t j d w : ℕ) → 0 < w → w < 4 →
    both (fits_part rd x t j d 1) (both (fits_part rd x t j d 2) (fits_part rd x t j d 3)) ≡ both (others_fit rd x t j d w) (fits_part rd x t j d w)
unfolding others_fit first_other second_other if_eq both
all_parts rd x t j d zero p h = absurd (omega arith)
all_parts rd x t j d (suc zero) p h = go (fits_part rd x t j d 1) (fits_part rd x t j d 2) (fits_part rd x t j d 3)
  where
    go : (a b c : Bool) → both a (both b c) ≡ both (both b c) a
    go true true true = refl
    go true true false = refl
    go true false c = refl
    go false true true = refl
    go false true false = refl
    go false false c = refl
all_parts rd x t j d (suc (suc zero)) p h = go (fits_part rd x t j d 1) (fits_part rd x t j d 2) (fits_part rd x t j d 3)
  where
    go : (a b c : Bool) → both a (both b c) ≡ both (both a c) b
    go true true true = refl
    go true true false = refl
    go true false true = refl
    go true false false = refl
    go false b c = refl
all_parts rd x t j d (suc (suc (suc zero))) p h = go (fits_part rd x t j d 1) (fits_part rd x t j d 2) (fits_part rd x t j d 3)
  where
    go : (a b c : Bool) → both a (both b c) ≡ both (both a b) c
    go true b c = refl
    go false b c = refl
all_parts rd x t j d (suc (suc (suc (suc w)))) p h = absurd (omega arith)

-- one step, on trees that are no leaf
module _ (d : ℕ) (t : Tree) where
  step_missing : (u : Tree) → (u ≡ leaf → ⊥) → is_index (kind_of u) (atom_of u) d ≡ false → false ≡ same leaf (replaced d t u)
  unfolding same kind_of atom_of
  step_missing leaf n h = absurd (n refl)
  step_missing (node k a x y z) n h = rw (replaced_node d t k a x y z) (simp h)

  step_index : (s u : Tree) → (u ≡ leaf → ⊥) → is_index (kind_of u) (atom_of u) d ≡ true → same s (replaced d t u) ≡ same s t
  unfolding kind_of atom_of
  step_index s leaf n h = absurd (n refl)
  step_index s (node k a x y z) n h = rw (replaced_node d t k a x y z) (simp h)

  step_more : (s u : Tree) → (s ≡ leaf → ⊥) → (u ≡ leaf → ⊥) → is_index (kind_of u) (atom_of u) d ≡ false → same s (replaced d t u) ≡
      both (same_head (kind_of s) (kind_of u) (atom_of s) (atom_of u))
      (both (same (first_of s) (replaced d t (first_of u)))
      (both (same (second_of s) (replaced (d + binders (kind_of u)) t (second_of u))) (same (third_of s) (replaced d t (third_of u)))))
  unfolding same kind_of atom_of first_of second_of third_of both
  step_more leaf u m n h = absurd (m refl)
  step_more (node l b p q r) leaf m n h = absurd (n refl)
  step_more (node l b p q r) (node k a x y z) m n h = rw (replaced_node d t k a x y z) (simp h)

-- a key that is not 0 stands for no leaf
key_node : (rd : Reader) (size x : ℕ) → Normal rd size x → (x ≡ 0 → ⊥) → decoded rd x ≡ leaf → ⊥
key_node rd size x n h e = let none = stands_none rd size in h (key_one rd size x 0 n none.normal (e ∙ sym none.means))

-- a tree with an index from d on is no leaf
module _ (rd : Reader) (j d : ℕ) (b : Bool) (eb : b ≡ indices_below d (decoded rd j)) (some : b ≡ false) where
  open_node : decoded rd j ≡ leaf → ⊥
  unfolding indices_below
  open_node e = let closed : indices_below d (decoded rd j) ≡ true = rw e refl in false≢true (sym some ∙ eb ∙ closed)

  pub open_positive : 0 < j
  open_positive = go j refl
    where
      go : (n : ℕ) → j ≡ n → 0 < n
      go zero e = absurd (open_node (as_none rd j e))
      go (suc n) e = omega arith

-- The ways out of `fits_at`, where keys x and j are left, and index d.
module _ (rd : Reader) (size x t j d : ℕ) (nx : Normal rd size x) (nj : Normal rd size j) (b : Bool) (eb : b ≡ indices_below d (decoded rd j)) where
  pub fits_closed : b ≡ true → eqb x j ≡ fits rd x t j d
  unfolding fits
  fits_closed h = rw (replaced_closed d (decoded rd t) (decoded rd j) (sym eb ∙ h)) (key_same rd size x j nx nj)

  module _ (some : b ≡ false) (i : Bool) (ei : i ≡ index_key rd j d) where
    is_node : decoded rd j ≡ leaf → ⊥
    is_node = open_node rd j d b eb some

    pub fits_index : Normal rd size t → i ≡ true → eqb x t ≡ fits rd x t j d
    unfolding fits index_key
    fits_index nt h = rw (step_index d (decoded rd t) (decoded rd x) (decoded rd j) is_node (sym ei ∙ h)) (key_same rd size x t nx nt)

    module _ (other : i ≡ false) where
      fits_step : fits rd x t j d ≡ both (heads_fit rd x j) (both (fits_part rd x t j d 1) (both (fits_part rd x t j d 2) (fits_part rd x t j d 3)))
      unfolding fits index_key heads_fit same_heads fits_part part_depth part_of if_eq both
      fits_step = go (eqb x 0) refl
        where
          go : (z : Bool) → eqb x 0 ≡ z → fits rd x t j d ≡
              both (elim z [ true ↦ false | false ↦ same_heads rd x j ]) (both (fits_part rd x t j d 1) (both (fits_part rd x t j d 2) (fits_part rd x t j d 3)))
          go true e = rw (as_none rd x (eqb-true x 0 e)) (sym (step_missing d (decoded rd t) (decoded rd j) is_node (sym ei ∙ other)))
          go false e = step_more d (decoded rd t) (decoded rd x) (decoded rd j) (key_node rd size x nx (eqb-false x 0 e)) is_node (sym ei ∙ other)

      module _ (s : Bool) (es : s ≡ heads_fit rd x j) where
        pub fits_heads : not s ≡ true → false ≡ fits rd x t j d
        unfolding both
        fits_heads h = rw (fits_step, ← es, not-true s h) refl

        module _ (heads : not s ≡ false) (w : ℕ) (pw : 0 < w) (hw : w < 4) (o : Bool) (eo : o ≡ others_fit rd x t j d w) where
          fits_last : fits rd x t j d ≡ both o (fits_part rd x t j d w)
          unfolding both
          fits_last = rw (fits_step, ← es, not-false s heads, all_parts rd x t j d w pw hw, ← eo) refl

          pub fits_others : not o ≡ true → false ≡ fits rd x t j d
          unfolding both
          fits_others h = rw (fits_last, not-true o h) refl

          -- y, z and e are what part w leaves
          pub fits_next : not o ≡ false → (e y z : ℕ) → e ≡ part_depth rd j d w → Part rd size x y (part_of w (decoded rd x)) → Part rd size j z (part_of w (decoded rd j)) →
              fits rd x t j d ≡ fits rd y t z e
          unfolding both fits fits_part
          fits_next h e y z ee py pz = rw (fits_last, not-false o h, ← ee, ← py.stands.means, ← pz.stands.means) refl

-- The ways out of `fits_part`: y and z are the keys of parts w of x and j.
pub part_falls : (rd : Reader) (size j d e z : ℕ) (t : Tree) → Part rd size j z t → 0 < j → d + rank j < 18446744073709551616 → e ≤ d + 1 →
    (rank z < rank j) × (e + rank z < 18446744073709551616)
part_falls rd size j d e z t pz p h q = let less : rank z < rank j = pz.falls p in (less, omega arith)

pub fits_part_is : (rd : Reader) (size x t j d w e y z : ℕ) (r : Bool) → e ≡ part_depth rd j d w → Part rd size x y (part_of w (decoded rd x)) →
    Part rd size j z (part_of w (decoded rd j)) → r ≡ fits rd y t z e → r ≡ fits_part rd x t j d w
unfolding fits fits_part
fits_part_is rd size x t j d w e y z r ee py pz er = rw (← ee, ← py.stands.means, ← pz.stands.means) er

-- The ways out of `others_fit`.
module _ (rd : Reader) (x t j d w u v : ℕ) (eu : u ≡ first_other w) (ev : v ≡ second_other w) (a : Bool) (ea : a ≡ fits_part rd x t j d u) where
  pub others_first : not a ≡ true → false ≡ others_fit rd x t j d w
  unfolding others_fit both
  others_first h = rw (← eu, ← ea, not-true a h) refl

  pub others_second : not a ≡ false → (c : Bool) → c ≡ fits_part rd x t j d v → c ≡ others_fit rd x t j d w
  unfolding others_fit both
  others_second h c ec = rw (← eu, ← ev, ← ea, not-false a h) ec

-- The ways out of `is_replaced`.
pub rank_small : (j : ℕ) → j < 18446744073709551616 → 0 + rank j < 18446744073709551616
unfolding rank negations_of body_of
rank_small j h = omega arith

pub fits_whole : (rd : Reader) (x t j : ℕ) (r : Bool) → r ≡ fits rd x t j 0 → r ≡ same (decoded rd x) (replaced 0 (decoded rd t) (decoded rd j))
unfolding fits
fits_whole rd x t j r e = e
