-- Indices, type variables and closedness of records, as one step each, and the ways out of the code that tests them.
use Rattle.std.specs.Prelude.{ℕ, ◌+◌, ◌-◌, ◌<◌, ◌≤◌, ◌≡◌, refl, Bool}
use Rattle.std.proofs.Math.Path.{sym}
use Rattle.std.proofs.Math.Bool.{true, false}
use Rattle.std.proofs.Math.Dec.{eqb, ltb}
use native.Mathlib.Omega.{arith}
use borrow.Author.Tests.{eq-eqb, ne_eqb, lt-ltb, le-ltb, eqb-true, eqb-false, ltb-true, ltb-false}
use Rattle.reader.specs.Words.{Reader}
use Rattle.reader.specs.Tests.{both, if_eq, if_lt, if_true}
use Rattle.reader.specs.Kinds.{role, is_number, is_symbol}
use Rattle.reader.specs.Trees.{child, atom, tree, same}
use Rattle.reader.specs.Variables.{binders, is_index, bears, index_below, indices_below, type_variable_below, types_below}
use Rattle.reader.specs.TreeLaws.{tree_zero, tree_step_lem}
use Rattle.reader_chains.specs.Shapes.{atom_first}
use Rattle.reader_chains.specs.Parts.{part_at, part_child}

-- The depth is d and the binders crossed, c: so that no sum of the two is ever computed, and no depth is too large.

-- record i, of kind k, is no bound variable with an index from n on
unfoldable pub bound_at : Reader → ℕ → ℕ → ℕ → Bool
bound_at rd k i n = index_below k (rd i 1) n

-- the parts of record i, of kind k, have indices below d and the c binders crossed
unfoldable pub below_parts : Reader → ℕ → ℕ → ℕ → ℕ → Bool
below_parts rd k i d c =
    both (indices_below (d + c) (tree rd (part_at rd k i 1)))
    (both (indices_below (d + (c + binders k)) (tree rd (part_at rd k i 2))) (indices_below (d + c) (tree rd (part_at rd k i 3))))

-- The ways out of `deeper`.
pub deeper_yes : (k c : ℕ) → k ≡ 19 → c + 1 ≡ c + binders k
unfolding binders
deeper_yes k c h = simp (binders, eq-eqb k 19 h)

pub deeper_no : (k c : ℕ) → (k ≡ 19 → ⊥) → c ≡ c + binders k
unfolding binders
deeper_no k c h = simp (binders, ne_eqb k 19 h) (omega arith)

-- The ways out of `is_bound`.
module _ (rd : Reader) (k i d c : ℕ) where
  pub bound_other : (k ≡ 9 → ⊥) → true ≡ bound_at rd k i (d + c)
  unfolding bound_at index_below
  bound_other h = simp (index_below, ne_eqb k 9 h)

  module _ (h : k ≡ 9) (a : ℕ) (ea : a ≡ rd i 1) where
    pub bound_crossed : a < c → true ≡ bound_at rd k i (d + c)
    unfolding bound_at index_below
    bound_crossed q = simp (index_below, eq-eqb k 9 h, ← ea, lt-ltb a (d + c) (omega arith))

    pub bound_past : c ≤ a → ltb (a - c) d ≡ bound_at rd k i (d + c)
    unfolding bound_at index_below
    bound_past q = simp (index_below, eq-eqb k 9 h, ← ea) (go (ltb (a - c) d) refl)
      where
        go : (b : Bool) → ltb (a - c) d ≡ b → b ≡ ltb a (d + c)
        go true e = let z : a - c < d = ltb-true (a - c) d e in sym (lt-ltb a (d + c) (omega arith))
        go false e = let z : d ≤ a - c = ltb-false (a - c) d e in sym (le-ltb a (d + c) (omega arith))

-- the index of a bound variable is its word 1
bound_atom : (rd : Reader) (i n : ℕ) → index_below (rd i 0) (atom rd i) n ≡ bound_at rd (rd i 0) i n
unfolding bound_at index_below role if_lt if_eq is_symbol is_number
bound_atom rd i n = go (eqb (rd i 0) 9) refl
  where
    go : (b : Bool) → eqb (rd i 0) 9 ≡ b → ◌≡◌ {A = Bool} (elim b [ true ↦ ltb (atom rd i) n | false ↦ true ]) (elim b [ true ↦ ltb (rd i 1) n | false ↦ true ])
    go true e = rw (atom_first rd i 9 (eqb-true (rd i 0) 9 e) refl refl)
    go false e = refl

-- indices at a record that is not 0
below_step : (rd : Reader) (i n : ℕ) → (i ≡ 0 → ⊥) →
    indices_below n (tree rd i) ≡ both (index_below (rd i 0) (atom rd i) n) (both (indices_below n (tree rd (child rd i 1)))
    (both (indices_below (n + binders (rd i 0)) (tree rd (child rd i 2))) (indices_below n (tree rd (child rd i 3)))))
unfolding indices_below both
below_step rd i n pos = rw (tree_step_lem rd i (omega arith))

-- The ways out of `below_at`.
module _ (rd : Reader) (i d c : ℕ) where
  pub below_none : i ≡ 0 → true ≡ indices_below (d + c) (tree rd i)
  unfolding indices_below
  below_none h = rw (h, tree_zero rd)

  pub below_more : (k : ℕ) (r : Bool) → (i ≡ 0 → ⊥) → k ≡ rd i 0 → r ≡ both (bound_at rd k i (d + c)) (below_parts rd k i d c) → r ≡ indices_below (d + c) (tree rd i)
  unfolding below_parts
  below_more k r pos ek e =
      let assoc : d + c + binders (rd i 0) ≡ d + (c + binders (rd i 0)) = omega arith in
      rw (below_step rd i (d + c) pos, bound_atom rd i (d + c), assoc, ← part_child rd k i 1 ek, ← part_child rd k i 2 ek, ← part_child rd k i 3 ek, ← ek) e

-- The ways out of `below_parts`.
module _ (rd : Reader) (k i d c x : ℕ) (r : Bool) where
  pub below_part : (w : ℕ) → x ≡ part_at rd k i w → r ≡ indices_below (d + c) (tree rd x) → r ≡ indices_below (d + c) (tree rd (part_at rd k i w))
  below_part w p q = rw (← p) q

  pub below_deeper : (e : ℕ) → x ≡ part_at rd k i 2 → (e ≡ c + binders k) × (e ≤ c + 1) → r ≡ indices_below (d + e) (tree rd x) → r ≡ indices_below (d + (c + binders k)) (tree rd (part_at rd k i 2))
  below_deeper e p f q = rw (← p, ← f.0) q

pub below_all : (rd : Reader) (i d : ℕ) (r : Bool) → r ≡ indices_below (d + 0) (tree rd i) → r ≡ indices_below d (tree rd i)
below_all rd i d r e = let z : d + 0 ≡ d = omega arith in rw z at e

-- record i, of kind k, is no type variable with a number from p on
unfoldable pub type_below_at : Reader → ℕ → ℕ → ℕ → Bool
type_below_at rd k i p = type_variable_below k (rd i 1) p

-- the parts of record i, of kind k, have type variables below p
unfoldable pub types_below_parts : Reader → ℕ → ℕ → ℕ → Bool
types_below_parts rd k i p =
    both (types_below p (tree rd (part_at rd k i 1)))
    (both (types_below p (tree rd (part_at rd k i 2))) (types_below p (tree rd (part_at rd k i 3))))

-- The ways out of `is_type_below`.
module _ (rd : Reader) (k i p : ℕ) where
  pub type_other : (k ≡ 6 → ⊥) → true ≡ type_below_at rd k i p
  unfolding type_below_at type_variable_below
  type_other h = simp (type_variable_below, ne_eqb k 6 h)

  pub type_variable : k ≡ 6 → (a : ℕ) → a ≡ rd i 1 → ltb a p ≡ type_below_at rd k i p
  unfolding type_below_at type_variable_below
  type_variable h a e = simp (type_variable_below, eq-eqb k 6 h, ← e)

-- the number of a type variable is its word 1
type_atom : (rd : Reader) (i p : ℕ) → type_variable_below (rd i 0) (atom rd i) p ≡ type_below_at rd (rd i 0) i p
unfolding type_below_at type_variable_below role if_lt if_eq is_symbol is_number
type_atom rd i p = go (eqb (rd i 0) 6) refl
  where
    go : (b : Bool) → eqb (rd i 0) 6 ≡ b → ◌≡◌ {A = Bool} (elim b [ true ↦ ltb (atom rd i) p | false ↦ true ]) (elim b [ true ↦ ltb (rd i 1) p | false ↦ true ])
    go true e = rw (atom_first rd i 6 (eqb-true (rd i 0) 6 e) refl refl)
    go false e = refl

-- type variables at a record that is not 0
types_step : (rd : Reader) (i p : ℕ) → (i ≡ 0 → ⊥) →
    types_below p (tree rd i) ≡ both (type_variable_below (rd i 0) (atom rd i) p)
    (both (types_below p (tree rd (child rd i 1))) (both (types_below p (tree rd (child rd i 2))) (types_below p (tree rd (child rd i 3)))))
unfolding types_below both
types_step rd i p pos = rw (tree_step_lem rd i (omega arith))

-- The ways out of `types_below` and `types_below_parts`.
module _ (rd : Reader) (i p : ℕ) where
  pub types_none : i ≡ 0 → true ≡ types_below p (tree rd i)
  unfolding types_below
  types_none h = rw (h, tree_zero rd)

  pub types_more : (k : ℕ) (r : Bool) → (i ≡ 0 → ⊥) → k ≡ rd i 0 → r ≡ both (type_below_at rd k i p) (types_below_parts rd k i p) → r ≡ types_below p (tree rd i)
  unfolding types_below_parts
  types_more k r pos ek e =
      rw (types_step rd i p pos, type_atom rd i p, ← part_child rd k i 1 ek, ← part_child rd k i 2 ek, ← part_child rd k i 3 ek, ← ek) e

  pub types_part : (k w x : ℕ) (r : Bool) → x ≡ part_at rd k i w → r ≡ types_below p (tree rd x) → r ≡ types_below p (tree rd (part_at rd k i w))
  types_part k w x r h e = rw (← h) e

-- record i, of kind k, is the bound variable with index n
unfoldable pub index_at : Reader → ℕ → ℕ → ℕ → Bool
index_at rd k i n = is_index k (rd i 1) n

-- every occurrence of index n in record i bears the type of record t
unfoldable pub bears_at : Reader → ℕ → ℕ → ℕ → Bool
bears_at rd i n t = bears n (tree rd t) (tree rd i)

-- The ways out of `is_index`.
module _ (rd : Reader) (k i d c : ℕ) where
  pub index_other : (k ≡ 9 → ⊥) → false ≡ index_at rd k i (d + c)
  unfolding index_at is_index
  index_other h = simp (is_index, ne_eqb k 9 h)

  module _ (h : k ≡ 9) (a : ℕ) (ea : a ≡ rd i 1) where
    pub index_crossed : a < c → false ≡ index_at rd k i (d + c)
    unfolding index_at is_index
    index_crossed q = simp (is_index, eq-eqb k 9 h, ← ea, ne_eqb a (d + c) (λ z. omega arith))

    pub index_past : c ≤ a → eqb (a - c) d ≡ index_at rd k i (d + c)
    unfolding index_at is_index
    index_past q = simp (is_index, eq-eqb k 9 h, ← ea) (go (eqb (a - c) d) refl)
      where
        go : (b : Bool) → eqb (a - c) d ≡ b → b ≡ eqb a (d + c)
        go true e = let z : a - c ≡ d = eqb-true (a - c) d e in sym (eq-eqb a (d + c) (omega arith))
        go false e = let z : a - c ≡ d → ⊥ = eqb-false (a - c) d e in sym (ne_eqb a (d + c) (λ y. z (omega arith)))

index_atom : (rd : Reader) (i n : ℕ) → is_index (rd i 0) (atom rd i) n ≡ index_at rd (rd i 0) i n
unfolding index_at is_index role if_lt if_eq is_symbol is_number
index_atom rd i n = go (eqb (rd i 0) 9) refl
  where
    go : (b : Bool) → eqb (rd i 0) 9 ≡ b → ◌≡◌ {A = Bool} (elim b [ true ↦ eqb (atom rd i) n | false ↦ false ]) (elim b [ true ↦ eqb (rd i 1) n | false ↦ false ])
    go true e = rw (atom_first rd i 9 (eqb-true (rd i 0) 9 e) refl refl)
    go false e = refl

-- the type of the occurrences in a record that is not 0
bears_step : (rd : Reader) (i n t : ℕ) → (i ≡ 0 → ⊥) → bears_at rd i n t ≡
    if_true (is_index (rd i 0) (atom rd i) n) (same (tree rd (child rd i 2)) (tree rd t))
    (both (bears_at rd (child rd i 1) n t) (both (bears_at rd (child rd i 2) (n + binders (rd i 0)) t) (bears_at rd (child rd i 3) n t)))
unfolding bears_at bears both if_true
bears_step rd i n t pos = rw (tree_step_lem rd i (omega arith))

-- The ways out of `bears_at`.
module _ (rd : Reader) (i d c t : ℕ) where
  pub bears_none : i ≡ 0 → true ≡ bears_at rd i (d + c) t
  unfolding bears_at bears
  bears_none h = rw (h, tree_zero rd)

  module _ (k : ℕ) (pos : i ≡ 0 → ⊥) (ek : k ≡ rd i 0) (b : Bool) (eb : b ≡ index_at rd k i (d + c)) where
    pub bears_index : b ≡ true → (x : ℕ) (r : Bool) → x ≡ part_at rd k i 2 → r ≡ same (tree rd x) (tree rd t) → r ≡ bears_at rd i (d + c) t
    unfolding if_true
    bears_index h x r ex e =
        rw (bears_step rd i (d + c) t pos, index_atom rd i (d + c), ← ek, ← eb, h, ← part_child rd k i 2 ek, ← ex) e

    pub bears_more : b ≡ false → (r : Bool) →
        r ≡ both (bears_at rd (part_at rd k i 1) (d + c) t) (both (bears_at rd (part_at rd k i 2) (d + (c + binders k)) t) (bears_at rd (part_at rd k i 3) (d + c) t)) →
        r ≡ bears_at rd i (d + c) t
    unfolding if_true
    bears_more h r e =
        let assoc : d + c + binders k ≡ d + (c + binders k) = omega arith in
        rw (bears_step rd i (d + c) t pos, index_atom rd i (d + c), ← ek, ← eb, h, assoc, ← part_child rd k i 1 ek, ← part_child rd k i 2 ek, ← part_child rd k i 3 ek) e

  pub bears_part : (k w x : ℕ) (r : Bool) → x ≡ part_at rd k i w → r ≡ bears_at rd x (d + c) t → r ≡ bears_at rd (part_at rd k i w) (d + c) t
  bears_part k w x r h e = rw (← h) e

  pub bears_deeper : (k x n : ℕ) (r : Bool) → x ≡ part_at rd k i 2 → (n ≡ c + binders k) × (n ≤ c + 1) → r ≡ bears_at rd x (d + n) t →
      r ≡ bears_at rd (part_at rd k i 2) (d + (c + binders k)) t
  bears_deeper k x n r h f e = rw (← h, ← f.0) e

pub bears_all : (rd : Reader) (i d t : ℕ) (r : Bool) → r ≡ bears_at rd i (d + 0) t → r ≡ bears d (tree rd t) (tree rd i)
unfolding bears_at
bears_all rd i d t r e = let z : d + 0 ≡ d = omega arith in rw z at e
