-- The form of the parts of a node and of its goal, and the ways out of the code that tests them.
use Prim.Native.Nat.{ℕ, zero, suc, ◌-◌, ◌/◌, ◌%◌, ◌<◌, ◌≤◌}
use Rattle.std.specs.Prelude.{◌≡◌, Bool, true, false, not, length, replicate}
use Rattle.std.proofs.Math.Path.{refl}
use Rattle.std.proofs.Common.{sym, ap, arith}
use mathlib.Core.List.{List, [], ◌∷◌}
use Rattle.std.proofs.Math.Dec.{eqb, eqb-suc-zero}
use borrow.Author.Tests.{eq-eqb, ne_eqb, eqb-true, eqb-false, not-true, not-false}
use Rattle.reader.specs.Words.{Reader}
use Rattle.reader.specs.Tests.{both, every, if_eq, if_lt}
use Rattle.reader.specs.TestLaws.{eq_yes, eq_no}
use Rattle.reader.specs.Kinds.{class}
use Rattle.reader.specs.Trees.{Tree, lower, kind_of}
use Rattle.reader.specs.Chains.{parts}
use Rattle.reader.specs.TreeLaws.{lower_below, items_zero, items_step}
use Rattle.reader.specs.Shapes.{Shape, formula, has_shape, have_shapes}
use Rattle.derivation_rules.specs.Erase.{bare_tree, bare_parts}
use Rattle.derivation_rules.specs.Rules.{State, row}
use Rattle.derivation_rules.specs.Check.{goal_formed}
use Rattle.derivation_trees.specs.Keys.{decoded, Normal}
use Rattle.derivation_trees.specs.Table.{KeyOf}
use Rattle.derivation_trees.specs.Shapes.{shape_of, shape_class}
use Rattle.derivation_frames.specs.Frames.{chain_trees}
use Rattle.derivation_forms.specs.Forms.{lower_most}
use Rattle.reader_bytes.specs.Bytes.{parts_of}
use Rattle.derivation_bytes.specs.Bytes.{derivation_byte}
use Rattle.derivation_bytes.proofs.Rows.{derivation_varies}
use Rattle.derivation_tables.specs.Tables.{shapes_of, column, one_of, shapes_are, goal_shapes_are}

-- a formula
unfoldable pub is_formula : Tree → Bool
is_formula t = has_shape (shape_of 37) t

-- the parts of node n have the number, classes and forms of its rule
unfoldable pub parts_formed : Reader → ℕ → Bool
parts_formed rd n =
    if_eq (parts_of (derivation_byte (rd n 0))) 15 (every is_formula (bare_parts rd n))
    (have_shapes (shapes_of (parts_of (derivation_byte (rd n 0))) (column (rd n 0) 0)) (bare_parts rd n))

-- the goal has the form that rule k shows, where it shows one
unfoldable pub goal_shaped : ℕ → Tree → Bool
goal_shaped k goal = if_eq (column k 1) 0 true (has_shape (shape_of (column k 1)) goal)

formulas_are : (ps : List Tree) → have_shapes (replicate (length ps) formula) ps ≡ every is_formula ps
unfolding have_shapes every is_formula shape_of if_lt both
formulas_are [] = refl
formulas_are (p ∷ ps) = ap (both (has_shape formula p)) (formulas_are ps)

shapes_65 : (ps : List Tree) (st : State) → (row 65 ps st).shapes ≡ replicate (length ps) formula
unfolding row if_eq
shapes_65 ps st = refl

-- the rows say the same
pub parts_formed_lem : (rd : Reader) (n : ℕ) (st : State) → parts_formed rd n ≡ have_shapes (row (rd n 0) (bare_parts rd n) st).shapes (bare_parts rd n)
unfolding parts_formed if_eq
parts_formed_lem rd n st = go (rd n 0) (bare_parts rd n)
  where
    go : (k : ℕ) (ps : List Tree) →
        if_eq (parts_of (derivation_byte k)) 15 (every is_formula ps) (have_shapes (shapes_of (parts_of (derivation_byte k)) (column k 0)) ps) ≡ have_shapes (row k ps st).shapes ps
    go k ps = by (eqb (parts_of (derivation_byte k)) 15) refl
      where
        by : (b : Bool) → eqb (parts_of (derivation_byte k)) 15 ≡ b →
            elim b as (λ x. Bool) [ true ↦ every is_formula ps | false ↦ have_shapes (shapes_of (parts_of (derivation_byte k)) (column k 0)) ps ] ≡
            have_shapes (row k ps st).shapes ps
        by true e = rw (derivation_varies k (eqb-true (parts_of (derivation_byte k)) 15 e), shapes_65 ps st) (sym (formulas_are ps))
        by false e = rw (shapes_are ps st k (eqb-false (parts_of (derivation_byte k)) 15 e)) refl

pub goal_shaped_lem : (k : ℕ) (ps : List Tree) (st : State) (goal : Tree) → goal_shaped k goal ≡ goal_formed (row k ps st).goal_shapes goal
unfolding goal_shaped goal_formed one_of if_eq every
goal_shaped_lem k ps st goal = rw (goal_shapes_are ps st k) (go (column k 1))
  where
    once : (b : Bool) → b ≡ elim b as (λ x. Bool) [ true ↦ true | false ↦ false ]
    once true = refl
    once false = refl

    go : (s : ℕ) → if_eq s 0 true (has_shape (shape_of s) goal) ≡ every (λ u. has_shape u goal) (if_eq s 0 [] (shape_of s ∷ []))
    go zero = refl
    go (suc s) = simp (if_eq, ne_eqb (suc s) 0 (λ z. omega arith)) (once (has_shape (shape_of (suc s)) goal))

-- the items of a chain one by one
module _ (rd : Reader) where
  pub chain_zero : chain_trees rd 0 ≡ []
  unfolding chain_trees
  chain_zero = rw (items_zero rd)

  pub chain_step : (c : ℕ) → 0 < c → chain_trees rd c ≡ bare_tree rd (lower rd c 1) ∷ chain_trees rd (lower rd c 3)
  unfolding chain_trees
  chain_step c h = rw (items_step rd c h)

-- a link's item and the next link are smaller records
pub item_in : (rd : Reader) (c item size : ℕ) → (c ≡ 0 → ⊥) → item ≡ lower rd c 1 → c < size → item < size
item_in rd c item size h e p = omega (arith, lower_below rd c 1 (omega arith))

pub rest_in : (rd : Reader) (c rest size : ℕ) → (c ≡ 0 → ⊥) → rest ≡ lower rd c 3 → c < size → rest < size
rest_in rd c rest size h e p = omega (arith, lower_below rd c 3 (omega arith))

pub rest_most : (rd : Reader) (c rest top : ℕ) → (c ≡ 0 → ⊥) → rest ≡ lower rd c 3 → c ≤ top → rest ≤ top
rest_most rd c rest top h e p = omega (arith, lower_below rd c 3 (omega arith))

pub item_falls : (rd : Reader) (c item : ℕ) → (c ≡ 0 → ⊥) → item ≡ lower rd c 1 → item < c
item_falls rd c item h e = omega (arith, lower_below rd c 1 (omega arith))

pub rest_falls : (rd : Reader) (c rest : ℕ) → (c ≡ 0 → ⊥) → rest ≡ lower rd c 3 → rest < c
rest_falls rd c rest h e = omega (arith, lower_below rd c 3 (omega arith))

pub key_normal : (rd : Reader) (size x : ℕ) (t : Tree) → KeyOf rd size x t → Normal rd size x
key_normal rd size x t k = k.stands.normal

-- a test made on an item's key is made on the item's tree
pub key_shape : (rd : Reader) (size x : ℕ) (t : Tree) (s : Shape) (r : Bool) → KeyOf rd size x t → r ≡ has_shape s (decoded rd x) → r ≡ has_shape s t
key_shape rd size x t s r k e = rw (← k.stands.means) e

-- one tree more: its shape is the lowest byte of the code
shapes_next : (n code : ℕ) (t : Tree) (ts : List Tree) → (n ≡ 0 → ⊥) →
    have_shapes (shapes_of n code) (t ∷ ts) ≡ both (has_shape (shape_of (code % 256)) t) (have_shapes (shapes_of (n - 1) (code / 256)) ts)
unfolding have_shapes both shapes_of
shapes_next zero code t ts h = absurd (h refl)
shapes_next (suc n) code t ts h = let z : suc n - 1 ≡ n = omega arith in rw z refl

-- The ways out of `have_shapes`: the items that are left have the shapes that are left.
module _ (rd : Reader) (c n code l left rest : ℕ) (inv : have_shapes (shapes_of n code) (chain_trees rd c) ≡ have_shapes (shapes_of left rest) (chain_trees rd l)) where
  pub shapes_end : l ≡ 0 → eqb left 0 ≡ have_shapes (shapes_of n code) (chain_trees rd c)
  unfolding have_shapes shapes_of
  shapes_end h = rw (inv, h, chain_zero rd) (go left)
    where
      go : (k : ℕ) → eqb k 0 ≡ have_shapes (shapes_of k rest) []
      go zero = refl
      go (suc k) = eqb-suc-zero k

  pub shapes_over : (l ≡ 0 → ⊥) → left ≡ 0 → false ≡ have_shapes (shapes_of n code) (chain_trees rd c)
  unfolding have_shapes shapes_of
  shapes_over h z = rw (inv, z, chain_step rd l (omega arith)) refl

  module _ (given : l ≡ 0 → ⊥) (wanted : left ≡ 0 → ⊥) (item : ℕ) (ei : item ≡ lower rd l 1) (r : Bool) (er : r ≡ has_shape (shape_of (rest % 256)) (bare_tree rd item)) where
    turn : (next : ℕ) → next ≡ lower rd l 3 → have_shapes (shapes_of n code) (chain_trees rd c) ≡ both r (have_shapes (shapes_of (left - 1) (rest / 256)) (chain_trees rd next))
    turn next e = rw (inv, chain_step rd l (omega arith), shapes_next left rest _ _ wanted, ← ei, ← e, ← er) refl

    pub shapes_stop : not r ≡ true → false ≡ have_shapes (shapes_of n code) (chain_trees rd c)
    unfolding both
    shapes_stop h = rw (turn (lower rd l 3) refl) (simp (both, not-true r h))

    pub shapes_more : not r ≡ false → (next : ℕ) → next ≡ lower rd l 3 →
        have_shapes (shapes_of n code) (chain_trees rd c) ≡ have_shapes (shapes_of (left - 1) (rest / 256)) (chain_trees rd next)
    unfolding both
    shapes_more h next e = rw (turn next e) (simp (both, not-false r h))

-- The ways out of a loop along a chain that makes a test on each item.
module _ (rd : Reader) (test : Tree → Bool) (c l : ℕ) (inv : every test (chain_trees rd c) ≡ every test (chain_trees rd l)) where
  pub chain_end : l ≡ 0 → true ≡ every test (chain_trees rd c)
  unfolding every
  chain_end h = rw (inv, h, chain_zero rd) refl

  module _ (given : l ≡ 0 → ⊥) (item : ℕ) (ei : item ≡ lower rd l 1) (r : Bool) (er : r ≡ test (bare_tree rd item)) where
    pub chain_stop : not r ≡ true → false ≡ every test (chain_trees rd c)
    unfolding every
    chain_stop h = rw (inv, chain_step rd l (omega arith), ← ei) (simp (every, ← er, not-true r h))

    pub chain_more : not r ≡ false → (rest : ℕ) → rest ≡ lower rd l 3 → every test (chain_trees rd c) ≡ every test (chain_trees rd rest)
    unfolding every
    chain_more h rest e = rw (inv, chain_step rd l (omega arith), ← ei, ← e) (simp (every, ← er, not-false r h))

pub formula_class : (rd : Reader) (key k c : ℕ) → k ≡ kind_of (decoded rd key) → c ≡ class k → eqb c 5 ≡ is_formula (decoded rd key)
unfolding is_formula
formula_class rd key k c ek ec = shape_class rd key 37 k ek (omega arith) (omega arith) c ec

pub key_formula : (rd : Reader) (size x item : ℕ) (r : Bool) → KeyOf rd size x (bare_tree rd item) → r ≡ is_formula (decoded rd x) → r ≡ is_formula (bare_tree rd item)
key_formula rd size x item r k e = rw (← k.stands.means) e

-- The ways out of `parts_formed` and `goal_formed`.
module _ (rd : Reader) (n k c byte count : ℕ) (ek : k ≡ rd n 0) (ec : c ≡ lower rd n 1) (eb : byte ≡ derivation_byte k) (en : count ≡ parts_of byte) where
  pub formed_varying : count ≡ 15 → (r : Bool) → r ≡ every is_formula (chain_trees rd c) → r ≡ parts_formed rd n
  unfolding parts_formed bare_parts parts chain_trees
  formed_varying h r e = rw (← ek, ← eb, ← ec, ← en) (eq_yes count 15 _ _ r h e)

  pub formed_counted : (count ≡ 15 → ⊥) → (code : ℕ) (r : Bool) → code ≡ column k 0 → r ≡ have_shapes (shapes_of count code) (chain_trees rd c) → r ≡ parts_formed rd n
  unfolding parts_formed bare_parts parts chain_trees
  formed_counted h code r es e = rw (← ek, ← eb, ← ec, ← en, ← es) (eq_no count 15 _ _ r h e)

pub chain_in : (rd : Reader) (n c size : ℕ) → c ≡ lower rd n 1 → n < size → c < size
chain_in rd n c size e p = omega (arith, lower_most rd n 1)

module _ (k s : ℕ) (goal : Tree) (es : s ≡ column k 1) where
  pub goal_any : s ≡ 0 → true ≡ goal_shaped k goal
  unfolding goal_shaped if_eq
  goal_any h = simp (goal_shaped, if_eq, ← es, eq-eqb s 0 h)

  pub goal_form : (s ≡ 0 → ⊥) → (r : Bool) → r ≡ has_shape (shape_of s) goal → r ≡ goal_shaped k goal
  unfolding goal_shaped if_eq
  goal_form h r e = simp (goal_shaped, if_eq, ← es, ne_eqb s 0 h) e
