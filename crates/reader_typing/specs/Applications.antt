-- Functions and applications by record, and the ways out of the code that tests their typing.
use Rattle.std.specs.Prelude.{ℕ, zero, suc, ◌<◌, ◌≡◌, refl, List, [], ◌∷◌, map, Bool, true, false, not, eqb}
use Rattle.std.proofs.Common.{sym, arith}
use Rattle.std.proofs.Math.Dec.{eqb-suc-zero}
use borrow.Author.Tests.{not-true, not-false}
use Rattle.reader.specs.Words.{Reader}
use Rattle.reader.specs.Tests.{both, every}
use Rattle.reader.specs.Trees.{Tree, lower, tree, same}
use Rattle.reader.specs.Chains.{item_trees}
use Rattle.reader.specs.Variables.{types_below, instance}
use Rattle.reader.specs.Typing.{type_of, same_all, signature, function_typed, application_typed}
use Rattle.reader.specs.TreeLaws.{lower_below}
use Rattle.reader_types.specs.Types.{type_at, type_tree}
use Rattle.reader_chains.specs.Chains.{has_links, trees_zero, trees_step, trees_drop, trees_first}
use Rattle.reader_instances.specs.Instances.{fits}

-- the types of the items of chain a are those of chain s with the items of chain c put in, one by one
unfoldable pub arguments_fit : Reader → ℕ → ℕ → ℕ → Bool
arguments_fit rd a s c = same_all (map type_of (item_trees rd a)) (map (instance (item_trees rd c)) (item_trees rd s))

-- the same with type t before the arguments' types
unfoldable pub signature_fits : Reader → ℕ → ℕ → ℕ → ℕ → Bool
signature_fits rd t a s c = same_all (tree rd t ∷ map type_of (item_trees rd a)) (map (instance (item_trees rd c)) (item_trees rd s))

-- along a chain, where the measure is the link's number
pub next_falls : (rd : Reader) (c x t : ℕ) → c ≡ t → (c ≡ 0 → ⊥) → x ≡ lower rd c 3 → x < t
next_falls rd c x t e p h = omega (arith, lower_below rd c 3 (omega arith))

every_more : (test : Tree → Bool) (x : Tree) (xs : List Tree) → every test (x ∷ xs) ≡ both (test x) (every test xs)
unfolding every both
every_more test x xs = refl

-- The ways out of `items_below`.
module _ (rd : Reader) (c p : ℕ) where
  pub items_none : c ≡ 0 → true ≡ every (types_below p) (item_trees rd c)
  unfolding every
  items_none h = rw (h, trees_zero rd)

  module _ (pos : c ≡ 0 → ⊥) (x : ℕ) (ex : x ≡ lower rd c 1) (b : Bool) (eb : b ≡ types_below p (tree rd x)) where
    items_first : every (types_below p) (item_trees rd c) ≡ both b (every (types_below p) (item_trees rd (lower rd c 3)))
    items_first = rw (trees_step rd c (omega arith), every_more, ← ex, ← eb)

    pub items_stop : not b ≡ true → false ≡ every (types_below p) (item_trees rd c)
    unfolding both
    items_stop h = rw items_first (simp (both, not-true b h))

    pub items_go : not b ≡ false → (y : ℕ) (r : Bool) → y ≡ lower rd c 3 → r ≡ every (types_below p) (item_trees rd y) → r ≡ every (types_below p) (item_trees rd c)
    unfolding both
    items_go h y r ey e = rw (items_first, ← ey) (simp (both, not-false b h) e)

pub function_is : (rd : Reader) (f p s : ℕ) (r : Bool) → p ≡ rd f 2 → s ≡ lower rd f 1 → r ≡ every (types_below p) (item_trees rd s) → r ≡ function_typed rd f
unfolding function_typed signature
function_is rd f p s r ep es e = rw (← ep, ← es) e

-- lists of types, one by one
all_none : (rd : Reader) (s : ℕ) (ts : List Tree) → same_all [] (map (instance ts) (item_trees rd s)) ≡ eqb s 0
unfolding same_all
all_none rd zero ts = rw (trees_zero rd)
all_none rd (suc s) ts = rw (trees_step rd (suc s) (omega arith)) (sym (eqb-suc-zero s))

all_more : (x y : Tree) (xs ys : List Tree) → same_all (x ∷ xs) (y ∷ ys) ≡ both (same x y) (same_all xs ys)
unfolding same_all both
all_more x y xs ys = refl

-- The ways out of `signature_fits`.
module _ (rd : Reader) (t a s c : ℕ) where
  pub signature_none : s ≡ 0 → false ≡ signature_fits rd t a s c
  unfolding signature_fits same_all
  signature_none h = rw (h, trees_zero rd)

  module _ (pos : s ≡ 0 → ⊥) (j : ℕ) (ej : j ≡ lower rd s 1) (b : Bool) (eb : b ≡ fits rd t j c) where
    signature_first : signature_fits rd t a s c ≡ both b (arguments_fit rd a (lower rd s 3) c)
    unfolding signature_fits arguments_fit fits
    signature_first = rw (trees_step rd s (omega arith), all_more, ← ej, ← eb)

    pub signature_stop : not b ≡ true → false ≡ signature_fits rd t a s c
    unfolding both
    signature_stop h = rw signature_first (simp (both, not-true b h))

    pub signature_go : not b ≡ false → (y : ℕ) (r : Bool) → y ≡ lower rd s 3 → r ≡ arguments_fit rd a y c → r ≡ signature_fits rd t a s c
    unfolding both
    signature_go h y r ey e = rw (signature_first, ← ey) (simp (both, not-false b h) e)

-- The ways out of `arguments_fit`.
module _ (rd : Reader) (a s c : ℕ) where
  pub arguments_none : a ≡ 0 → eqb s 0 ≡ arguments_fit rd a s c
  unfolding arguments_fit
  arguments_none h = rw (h, trees_zero rd) (sym (all_none rd s (item_trees rd c)))

  module _ (pa : a ≡ 0 → ⊥) where
    pub arguments_past : s ≡ 0 → false ≡ arguments_fit rd a s c
    unfolding arguments_fit same_all
    arguments_past h = rw (h, trees_zero rd, trees_step rd a (omega arith))

    module _ (ps : s ≡ 0 → ⊥) (x t j : ℕ) (ex : x ≡ lower rd a 1) (et : t ≡ type_at rd x) (ej : j ≡ lower rd s 1) (b : Bool) (eb : b ≡ fits rd t j c) where
      arguments_first : arguments_fit rd a s c ≡ both b (arguments_fit rd (lower rd a 3) (lower rd s 3) c)
      unfolding arguments_fit fits
      arguments_first = rw (trees_step rd a (omega arith), trees_step rd s (omega arith), all_more, ← type_tree rd (lower rd a 1), ← ex, ← et, ← ej, ← eb)

      pub arguments_stop : not b ≡ true → false ≡ arguments_fit rd a s c
      unfolding both
      arguments_stop h = rw arguments_first (simp (both, not-true b h))

      pub arguments_go : not b ≡ false → (u v : ℕ) (r : Bool) → u ≡ lower rd a 3 → v ≡ lower rd s 3 → r ≡ arguments_fit rd u v c → r ≡ arguments_fit rd a s c
      unfolding both
      arguments_go h u v r eu ev e = rw (arguments_first, ← eu, ← ev) (simp (both, not-false b h) e)

-- The ways out of `application_typed`.
module _ (rd : Reader) (i f c p : ℕ) (ef : f ≡ lower rd i 1) (ec : c ≡ lower rd i 2) (ep : p ≡ rd f 2) (b : Bool) (eb : b ≡ has_links rd c p) where
  application_step : application_typed rd i ≡ both b (signature_fits rd (lower rd c 1) (lower rd i 3) (lower rd f 1) (lower rd c 3))
  unfolding application_typed signature has_links signature_fits
  application_step = rw (← ef, ← ec, ← ep, ← eb, trees_first rd c, trees_drop rd c)

  pub application_stop : not b ≡ true → false ≡ application_typed rd i
  unfolding both
  application_stop h = rw application_step (simp (both, not-true b h))

  pub application_go : not b ≡ false → (t a s d : ℕ) (r : Bool) → t ≡ lower rd c 1 → a ≡ lower rd i 3 → s ≡ lower rd f 1 → d ≡ lower rd c 3 →
      r ≡ signature_fits rd t a s d → r ≡ application_typed rd i
  unfolding both
  application_go h t a s d r et ea es ed e = rw (application_step, ← et, ← ea, ← es, ← ed) (simp (both, not-false b h) e)
