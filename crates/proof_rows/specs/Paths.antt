-- What a rule names of its parts, as a number: 16 times the part, and two steps to children, the first times 4.
use Rattle.std.specs.Prelude.{ℕ, zero, suc, ◌/◌, ◌%◌, ◌<◌, ◌≤◌, ◌≡◌, List, Bool, true, false, eqb}
use Rattle.std.proofs.Math.Path.{refl}
use Rattle.std.proofs.Common.{ap, ◌∙◌, arith}
use borrow.Author.Tests.{eq-eqb, ne_eqb}
use Rattle.reader.specs.Words.{Reader}
use Rattle.reader.specs.Tests.{if_eq, if_lt}
use Rattle.reader.specs.Kinds.{role, role_at}
use Rattle.reader.specs.Trees.{Tree, lower, child, tree, first_of, second_of}
use Rattle.reader.specs.Chains.{item_trees}
use Rattle.reader.specs.TreeLaws.{child_below, lower_below}
use Rattle.reader.specs.Members.{part}
use Rattle.reader_chains.specs.Shapes.{lower_zero, child_zero, first_tree, second_tree}
use Rattle.reader_chains.specs.Chains.{link_at, item_at, link_none, link_first, link_next, item_or_leaf}
use Rattle.proof_references.specs.declared.References.{References}
use Rattle.proof_references.specs.References.{ReferencesAre}

-- a tree itself, its first part, its second
unfoldable pub step_tree : ℕ → Tree → Tree
step_tree a t = if_eq a 0 t (if_eq a 1 (first_of t) (second_of t))

unfoldable pub path_tree : List Tree → ℕ → Tree
path_tree ps p = step_tree (p % 4) (step_tree (p / 4 % 4) (part ps (p / 16)))

-- the same as records, in the parts of chain c
unfoldable pub step_record : Reader → ℕ → ℕ → ℕ
step_record rd i a = if_eq a 0 i (if_eq a 1 (child rd i 1) (child rd i 2))

unfoldable pub path_record : Reader → ℕ → ℕ → ℕ
path_record rd c p = step_record rd (step_record rd (item_at rd c (p / 16)) (p / 4 % 4)) (p % 4)

-- the first child of a record that was fetched, or else its second
unfoldable pub child_in : References → ℕ → ℕ
child_in x a = if_eq a 1 (if_lt (role x.kind 1) 10 0 x.first) (if_lt (role x.kind 2) 10 0 x.second)

-- part j is the tree of its record
pub part_tree : (rd : Reader) (c j : ℕ) → part (item_trees rd c) j ≡ tree rd (item_at rd c j)
part_tree rd c j = item_or_leaf rd j c

step_tree_lem : (rd : Reader) (i a : ℕ) → step_tree a (tree rd i) ≡ tree rd (step_record rd i a)
unfolding step_tree step_record if_eq
step_tree_lem rd i a = go (eqb a 0) (eqb a 1)
  where
    go : (b d : Bool) → elim b as (λ x. Tree) [ true ↦ tree rd i | false ↦ elim d [ true ↦ first_of (tree rd i) | false ↦ second_of (tree rd i) ] ] ≡
        tree rd (elim b as (λ x. ℕ) [ true ↦ i | false ↦ elim d [ true ↦ child rd i 1 | false ↦ child rd i 2 ] ])
    go true d = refl
    go false true = first_tree rd i
    go false false = second_tree rd i

-- what stands on a path is the tree of its record
pub path_tree_lem : (rd : Reader) (c p : ℕ) → path_tree (item_trees rd c) p ≡ tree rd (path_record rd c p)
unfolding path_tree path_record
path_tree_lem rd c p =
    ap (λ (t : Tree). step_tree (p % 4) (step_tree (p / 4 % 4) t)) (part_tree rd c (p / 16))
    ∙ ap (step_tree (p % 4)) (step_tree_lem rd (item_at rd c (p / 16)) (p / 4 % 4))
    ∙ step_tree_lem rd (step_record rd (item_at rd c (p / 16)) (p / 4 % 4)) (p % 4)

-- no record on a path is larger than the chain
lower_most : (rd : Reader) (i w : ℕ) → lower rd i w ≤ i
lower_most rd zero w = omega (arith, lower_zero rd w)
lower_most rd (suc i) w = omega (arith, lower_below rd (suc i) w (omega arith))

child_most : (rd : Reader) (i w : ℕ) → child rd i w ≤ i
child_most rd zero w = omega (arith, child_zero rd w)
child_most rd (suc i) w = omega (arith, child_below rd (suc i) w (omega arith))

link_most : (rd : Reader) (j c : ℕ) → link_at rd c j ≤ c
link_most rd zero c = omega (arith, link_first rd c)
link_most rd (suc j) zero = omega (arith, link_none rd (suc j))
link_most rd (suc j) (suc c) =
    omega (arith, link_next rd (suc c) j (omega arith), link_most rd j (lower rd (suc c) 3), lower_below rd (suc c) 3 (omega arith))

item_most : (rd : Reader) (c j : ℕ) → item_at rd c j ≤ c
unfolding item_at
item_most rd c j = omega (arith, link_most rd j c, lower_most rd (link_at rd c j) 1)

step_most : (rd : Reader) (i a : ℕ) → step_record rd i a ≤ i
unfolding step_record if_eq
step_most rd i a = go (eqb a 0) (eqb a 1)
  where
    go : (b d : Bool) → elim b as (λ x. ℕ) [ true ↦ i | false ↦ elim d [ true ↦ child rd i 1 | false ↦ child rd i 2 ] ] ≤ i
    go true d = omega arith
    go false true = child_most rd i 1
    go false false = child_most rd i 2

path_most : (rd : Reader) (c p : ℕ) → path_record rd c p ≤ c
unfolding path_record
path_most rd c p =
    omega (arith, item_most rd c (p / 16), step_most rd (item_at rd c (p / 16)) (p / 4 % 4), step_most rd (step_record rd (item_at rd c (p / 16)) (p / 4 % 4)) (p % 4))

pub path_in : (rd : Reader) (c p r size : ℕ) → c < size → r ≡ path_record rd c p → r < size
path_in rd c p r size h e = omega (arith, path_most rd c p)

-- The ways out of the code.
module _ (x : References) (a role₀ r : ℕ) where
  pub child_first : a ≡ 1 → role₀ ≡ role x.kind 1 → r ≡ if_lt role₀ 10 0 x.first → r ≡ child_in x a
  unfolding child_in if_eq
  child_first h q e = simp (child_in, if_eq, eq-eqb a 1 h, ← q) e

  pub child_second : (a ≡ 1 → ⊥) → role₀ ≡ role x.kind 2 → r ≡ if_lt role₀ 10 0 x.second → r ≡ child_in x a
  unfolding child_in if_eq
  child_second h q e = simp (child_in, if_eq, ne_eqb a 1 h, ← q) e

module _ (rd : Reader) (i a : ℕ) where
  pub step_none : a ≡ 0 → i ≡ step_record rd i a
  unfolding step_record if_eq
  step_none h = simp (step_record, if_eq, eq-eqb a 0 h)

  pub step_child : (x : References) (r : ℕ) → (a ≡ 0 → ⊥) → ReferencesAre rd i x → r ≡ child_in x a → r ≡ step_record rd i a
  unfolding step_record child_in child role_at if_eq
  step_child x r h is e =
      let here : child_in x a ≡ if_eq a 1 (child rd i 1) (child rd i 2) = rw (is.kind_is, is.first_is, is.second_is) refl in
      simp (step_record, if_eq, ne_eqb a 0 h) (e ∙ here)

pub path_is : (rd : Reader) (c p x y r : ℕ) → x ≡ item_at rd c (p / 16) → y ≡ step_record rd x (p / 4 % 4) → r ≡ step_record rd y (p % 4) → r ≡ path_record rd c p
unfolding path_record
path_is rd c p x y r ex ey e = rw (← ex, ← ey) e
