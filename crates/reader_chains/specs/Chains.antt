-- Links and items of chains by their place, and the ways out of the code that walks to them.
use Prim.Native.Nat.{ℕ, zero, suc, ◌+◌, ◌-◌, ◌<◌, ◌≤◌}
use Rattle.std.specs.Prelude.{◌≡◌, refl, [], ◌∷◌, Bool, false, eqb, get_or, drop}
use Rattle.std.proofs.Math.Path.{sym}
use Rattle.std.proofs.Common.{◌∙◌, add-one, arith, eq-eqb, ne_eqb}
use Rattle.std.proofs.Math.ListN.{length}
use Rattle.reader.specs.Words.{Reader}
use Rattle.reader.specs.Trees.{Tree, leaf, lower, tree}
use Rattle.reader.specs.Chains.{linked, items, item_trees}
use Rattle.reader.specs.TreeLaws.{tree_zero, linked_zero, linked_step_lem, items_zero, items_step}
use Rattle.reader_chains.specs.Shapes.{lower_zero}

-- link n of the chain from link c on; 0 past its end, as no link is record 0
unfoldable pub link_at : Reader → ℕ → ℕ → ℕ
link_at rd c n = get_or (linked rd c) n 0

-- the item of that link; 0 past the chain's end
unfoldable pub item_at : Reader → ℕ → ℕ → ℕ
item_at rd c n = lower rd (link_at rd c n) 1

-- the chain has n + 1 links
unfoldable pub has_links : Reader → ℕ → ℕ → Bool
has_links rd c n = eqb (length (item_trees rd c)) (n + 1)

module _ (rd : Reader) where
  -- the trees of a chain's items
  pub trees_zero : item_trees rd 0 ≡ []
  unfolding item_trees
  trees_zero = rw (items_zero rd)

  pub trees_step : (c : ℕ) → 0 < c → item_trees rd c ≡ tree rd (lower rd c 1) ∷ item_trees rd (lower rd c 3)
  unfolding item_trees
  trees_step c h = rw (items_step rd c h)

  pub trees_drop : (c : ℕ) → drop 1 (item_trees rd c) ≡ item_trees rd (lower rd c 3)
  trees_drop zero = rw (lower_zero rd 3, trees_zero)
  trees_drop (suc c) = rw (trees_step (suc c) (omega arith))

  pub trees_first : (c : ℕ) → get_or (item_trees rd c) 0 leaf ≡ tree rd (lower rd c 1)
  trees_first zero = rw (lower_zero rd 1, trees_zero, tree_zero rd)
  trees_first (suc c) = rw (trees_step (suc c) (omega arith))

  -- links by their place
  pub link_none : (n : ℕ) → link_at rd 0 n ≡ 0
  unfolding link_at
  link_none n = rw (linked_zero rd)

  pub link_first : (c : ℕ) → link_at rd c 0 ≡ c
  unfolding link_at
  link_first zero = rw (linked_zero rd)
  link_first (suc c) = rw (linked_step_lem rd (suc c) (omega arith))

  pub link_next : (c n : ℕ) → 0 < c → link_at rd c (suc n) ≡ link_at rd (lower rd c 3) n
  unfolding link_at
  link_next c n h = rw (linked_step_lem rd c h)

  pub link_after : (c n : ℕ) → link_at rd c (suc n) ≡ link_at rd (lower rd c 3) n
  link_after zero n = rw (lower_zero rd 3, link_none (suc n), link_none n)
  link_after (suc c) n = link_next (suc c) n (omega arith)

  -- the item at a place, where the chain has a link there, and where it has none
  pub item_tree : (n c : ℕ) (d : Tree) → (link_at rd c n ≡ 0 → ⊥) → get_or (item_trees rd c) n d ≡ tree rd (item_at rd c n)
  unfolding item_at
  item_tree zero zero d h = absurd (h (link_none 0))
  item_tree zero (suc c) d h = rw (link_first (suc c), trees_step (suc c) (omega arith))
  item_tree (suc n) zero d h = absurd (h (link_none (suc n)))
  item_tree (suc n) (suc c) d h =
      let e = link_next (suc c) n (omega arith) in
      rw (e, trees_step (suc c) (omega arith)) (item_tree n (lower rd (suc c) 3) d (λ z. h (e ∙ z)))

  pub item_past : (n c : ℕ) (d : Tree) → link_at rd c n ≡ 0 → get_or (item_trees rd c) n d ≡ d
  item_past zero zero d h = rw trees_zero
  item_past zero (suc c) d h = let z : link_at rd (suc c) 0 ≡ suc c = link_first (suc c) in absurd (omega arith)
  item_past (suc n) zero d h = rw trees_zero
  item_past (suc n) (suc c) d h =
      let e = link_next (suc c) n (omega arith) in rw (trees_step (suc c) (omega arith)) (item_past n (lower rd (suc c) 3) d (sym e ∙ h))

  -- the same for the items after the first, as for an application's type arguments after its own type
  pub item_after : (n c : ℕ) (d : Tree) → (link_at rd c (n + 1) ≡ 0 → ⊥) → get_or (drop 1 (item_trees rd c)) n d ≡ tree rd (item_at rd c (n + 1))
  unfolding item_at
  item_after n c d h = rw (add-one n, link_after c n, trees_drop c) (item_tree n (lower rd c 3) d (λ z. h (rw (add-one n) (link_after c n) ∙ z)))

  pub item_after_past : (n c : ℕ) (d : Tree) → link_at rd c (n + 1) ≡ 0 → get_or (drop 1 (item_trees rd c)) n d ≡ d
  item_after_past n c d h = rw (trees_drop c) (item_past n (lower rd c 3) d (sym (rw (add-one n) (link_after c n)) ∙ h))

  -- the item at a place, where no item has the tree of none
  pub item_or_leaf : (n c : ℕ) → get_or (item_trees rd c) n leaf ≡ tree rd (item_at rd c n)
  unfolding item_at
  item_or_leaf zero zero = rw (link_none 0, lower_zero rd 1, trees_zero, tree_zero rd)
  item_or_leaf zero (suc c) = rw (link_first (suc c), trees_step (suc c) (omega arith))
  item_or_leaf (suc n) zero = rw (link_none (suc n), lower_zero rd 1, trees_zero, tree_zero rd)
  item_or_leaf (suc n) (suc c) = rw (link_next (suc c) n (omega arith), trees_step (suc c) (omega arith)) (item_or_leaf n (lower rd (suc c) 3))

  pub item_items : (n c : ℕ) → item_at rd c n ≡ get_or (items rd c) n 0
  unfolding item_at
  item_items zero zero = rw (link_none 0, lower_zero rd 1, items_zero rd)
  item_items zero (suc c) = rw (link_first (suc c), items_step rd (suc c) (omega arith))
  item_items (suc n) zero = rw (link_none (suc n), lower_zero rd 1, items_zero rd)
  item_items (suc n) (suc c) = rw (link_next (suc c) n (omega arith), items_step rd (suc c) (omega arith)) (item_items n (lower rd (suc c) 3))

  -- the links before a place and those after it
  length_past : (n c : ℕ) → link_at rd c n ≡ 0 → length (item_trees rd c) ≤ n
  length_past zero zero h = rw trees_zero (omega arith)
  length_past zero (suc c) h = let z : link_at rd (suc c) 0 ≡ suc c = link_first (suc c) in absurd (omega arith)
  length_past (suc n) zero h = rw trees_zero (omega arith)
  length_past (suc n) (suc c) h =
      let e = link_next (suc c) n (omega arith) in
      let few : length (item_trees rd (lower rd (suc c) 3)) ≤ n = length_past n (lower rd (suc c) 3) (sym e ∙ h) in
      rw (trees_step (suc c) (omega arith)) (omega arith)

  length_from : (n c : ℕ) → (link_at rd c n ≡ 0 → ⊥) → length (item_trees rd c) ≡ n + 1 + length (item_trees rd (lower rd (link_at rd c n) 3))
  length_from zero zero h = absurd (h (link_none 0))
  length_from zero (suc c) h = rw (link_first (suc c), trees_step (suc c) (omega arith)) (omega arith)
  length_from (suc n) zero h = absurd (h (link_none (suc n)))
  length_from (suc n) (suc c) h =
      let e = link_next (suc c) n (omega arith) in
      let more = length_from n (lower rd (suc c) 3) (λ z. h (e ∙ z)) in
      rw (e, trees_step (suc c) (omega arith)) (omega arith)

-- The loop of `link_at`: what is left to walk gives the answer.
module _ (rd : Reader) (c n l k : ℕ) where
  pub links_turn : (x : ℕ) → (k ≡ 0 → ⊥) → (l ≡ 0 → ⊥) → x ≡ lower rd l 3 → link_at rd c n ≡ link_at rd l k → link_at rd c n ≡ link_at rd x (k - 1)
  links_turn x pk pl ex inv = rw ex (inv ∙ step k pk)
    where
      step : (k : ℕ) → (k ≡ 0 → ⊥) → link_at rd l k ≡ link_at rd (lower rd l 3) (k - 1)
      step zero p = absurd (p refl)
      step (suc j) p = let z : suc j - 1 ≡ j = omega arith in rw z (link_next rd l j (omega arith))

  pub links_out : l ≡ 0 → link_at rd c n ≡ link_at rd l k → 0 ≡ link_at rd c n
  links_out h inv = rw inv (rw h (sym (link_none rd k)))

  pub links_end : k ≡ 0 → link_at rd c n ≡ link_at rd l k → l ≡ link_at rd c n
  links_end h inv = rw inv (rw h (sym (link_first rd l)))

-- The ways out of `item_at` and `has_links`.
module _ (rd : Reader) (c n l : ℕ) (el : l ≡ link_at rd c n) where
  pub item_is : (r : ℕ) → r ≡ lower rd l 1 → r ≡ item_at rd c n
  unfolding item_at
  item_is r e = rw (← el) e

  pub links_few : l ≡ 0 → false ≡ has_links rd c n
  unfolding has_links
  links_few h = let few = length_past rd n c (sym el ∙ h) in sym (ne_eqb (length (item_trees rd c)) (n + 1) (λ z. omega arith))

  pub links_last : (l ≡ 0 → ⊥) → (x : ℕ) → x ≡ lower rd l 3 → eqb x 0 ≡ has_links rd c n
  unfolding has_links
  links_last h x ex = go x ex
    where
      all : length (item_trees rd c) ≡ n + 1 + length (item_trees rd (lower rd l 3))
      all = rw el (length_from rd n c (λ z. h (el ∙ z)))

      go : (x : ℕ) → x ≡ lower rd l 3 → eqb x 0 ≡ eqb (length (item_trees rd c)) (n + 1)
      go zero e =
          let none : length (item_trees rd (lower rd l 3)) ≡ 0 = rw (← e, trees_zero rd) in
          sym (eq-eqb (length (item_trees rd c)) (n + 1) (omega (arith, all)))
      go (suc x) e =
          let some : 0 < length (item_trees rd (lower rd l 3)) = rw (← e, trees_step rd (suc x) (omega arith)) (omega arith) in
          ne_eqb (suc x) 0 (λ z. omega arith) ∙ sym (ne_eqb (length (item_trees rd c)) (n + 1) (λ z. omega (arith, all)))
