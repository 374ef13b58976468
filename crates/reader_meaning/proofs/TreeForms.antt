-- The tree of a record with a known kind is that kind's sign around trees of records, whatever the file.
use Prim.Native.Nat.{ℕ, zero, suc, ◌<◌}
use Rattle.std.specs.Prelude.{◌≡◌, true, false}
use Rattle.std.proofs.Math.Path.{refl, sym, ap}
use Rattle.std.proofs.Common.{◌∙◌}
use native.Mathlib.Omega.{arith}
use Rattle.reader.specs.Words.{Reader}
use Rattle.reader.specs.Tests.{if_eq, if_lt}
use Rattle.reader.specs.Kinds.{is_number, is_symbol, role, role_at}
use Rattle.reader.specs.Trees.{Tree, leaf, node, child, atom, tree, kind_of, ◌∧ᵗ◌, ◌⇒ᵗ◌, ¬ᵗ◌, ∀ᵗ, ◌=ᵗ◌, setᵗ}
use Rattle.reader.specs.TreeLaws.{tree_zero, tree_step_lem}
use Rattle.reader_laws.specs.Scan.{when_less, when_true, when_false}
use Rattle.reader_laws.specs.Record.{role_known}
use Rattle.reader_meaning.specs.Signs.{constantᵗ, for_typesᵗ}

-- A record whose tree has kind k, where k is not 0.
module _ (rd : Reader) (i k : ℕ) (h : kind_of (tree rd i) ≡ k) (given : 0 < k) where
  -- it is not record 0
  pub kind_given : 0 < i
  unfolding kind_of
  kind_given = go i h
    where
      go : (j : ℕ) → kind_of (tree rd j) ≡ k → 0 < j
      go zero e = let z : kind_of (tree rd 0) ≡ 0 = rw (tree_zero rd) in let q : k ≡ 0 = sym e ∙ z in absurd (omega arith)
      go (suc j) e = omega arith

  -- k is its kind
  pub kind_is : rd i 0 ≡ k
  unfolding kind_of
  kind_is = let e : kind_of (tree rd i) ≡ rd i 0 = rw (tree_step_lem rd i kind_given) in sym e ∙ h

  -- a word that is no part of its tree
  bare : (w : ℕ) → role k w < 10 → tree rd (child rd i w) ≡ leaf
  unfolding child
  bare w l =
      let is : role_at rd i w < 10 = rw (role_known rd i w k kind_is) l in
      ap (tree rd) (when_less 0 _ (role_at rd i w) 10 is) ∙ tree_zero rd

  -- its atom
  atom_none : is_symbol k ≡ false → is_number (role k 1) ≡ false → atom rd i ≡ 0
  unfolding atom
  atom_none p q =
      when_false i _ (is_symbol (rd i 0)) (ap is_symbol kind_is ∙ p)
      ∙ when_false (rd i 1) 0 (is_number (role_at rd i 1)) (ap is_number (role_known rd i 1 k kind_is) ∙ q)

  atom_symbol : is_symbol k ≡ true → atom rd i ≡ i
  unfolding atom
  atom_symbol p = when_true i _ (is_symbol (rd i 0)) (ap is_symbol kind_is ∙ p)

  atom_number : is_symbol k ≡ false → is_number (role k 1) ≡ true → atom rd i ≡ rd i 1
  unfolding atom
  atom_number p q =
      when_false i _ (is_symbol (rd i 0)) (ap is_symbol kind_is ∙ p)
      ∙ when_true (rd i 1) 0 (is_number (role_at rd i 1)) (ap is_number (role_known rd i 1 k kind_is) ∙ q)

  -- its tree, where it has no atom and its third word is no part of it
  made_2 : is_symbol k ≡ false → is_number (role k 1) ≡ false → role k 3 < 10 → tree rd i ≡ node k 0 (tree rd (child rd i 1)) (tree rd (child rd i 2)) leaf
  made_2 p q r = rw (tree_step_lem rd i kind_given, kind_is, atom_none p q, bare 3 r)

  made_3 : is_symbol k ≡ false → is_number (role k 1) ≡ false → tree rd i ≡ node k 0 (tree rd (child rd i 1)) (tree rd (child rd i 2)) (tree rd (child rd i 3))
  made_3 p q = rw (tree_step_lem rd i kind_given, kind_is, atom_none p q)

-- the forms that rules and typing show
module _ (rd : Reader) (i : ℕ) where
  pub not_made : kind_of (tree rd i) ≡ 18 → tree rd i ≡ ¬ᵗ (tree rd (child rd i 1))
  unfolding role if_lt is_symbol is_number if_eq
  not_made h =
      made_2 rd i 18 h (omega arith) refl refl (omega arith)
      ∙ ap (λ (y : Tree). node 18 0 (tree rd (child rd i 1)) y leaf) (bare rd i 18 h (omega arith) 2 (omega arith))

  pub and_made : kind_of (tree rd i) ≡ 16 → tree rd i ≡ tree rd (child rd i 1) ∧ᵗ tree rd (child rd i 2)
  unfolding role if_lt is_symbol is_number if_eq
  and_made h = made_2 rd i 16 h (omega arith) refl refl (omega arith)

  pub implies_made : kind_of (tree rd i) ≡ 17 → tree rd i ≡ tree rd (child rd i 1) ⇒ᵗ tree rd (child rd i 2)
  unfolding role if_lt is_symbol is_number if_eq
  implies_made h = made_2 rd i 17 h (omega arith) refl refl (omega arith)

  pub for_all_made : kind_of (tree rd i) ≡ 19 → tree rd i ≡ ∀ᵗ (tree rd (child rd i 1)) (tree rd (child rd i 2))
  unfolding role if_lt is_symbol is_number if_eq
  for_all_made h = made_2 rd i 19 h (omega arith) refl refl (omega arith)

  pub equal_made : kind_of (tree rd i) ≡ 20 → tree rd i ≡ (tree rd (child rd i 1) =ᵗ tree rd (child rd i 2))
  unfolding role if_lt is_symbol is_number if_eq
  equal_made h = made_2 rd i 20 h (omega arith) refl refl (omega arith)

  pub member_made : kind_of (tree rd i) ≡ 21 → tree rd i ≡ node 21 0 (tree rd (child rd i 1)) (tree rd (child rd i 2)) leaf
  unfolding role if_lt is_symbol is_number if_eq
  member_made h = made_2 rd i 21 h (omega arith) refl refl (omega arith)

  pub powerset_made : kind_of (tree rd i) ≡ 12 → tree rd i ≡ node 12 0 (tree rd (child rd i 1)) (tree rd (child rd i 2)) leaf
  unfolding role if_lt is_symbol is_number if_eq
  powerset_made h = made_2 rd i 12 h (omega arith) refl refl (omega arith)

  pub choice_made : kind_of (tree rd i) ≡ 23 → tree rd i ≡ node 23 0 (tree rd (child rd i 1)) (tree rd (child rd i 2)) leaf
  unfolding role if_lt is_symbol is_number if_eq
  choice_made h = made_2 rd i 23 h (omega arith) refl refl (omega arith)

  pub pair_made : kind_of (tree rd i) ≡ 10 → tree rd i ≡ node 10 0 (tree rd (child rd i 1)) (tree rd (child rd i 2)) (tree rd (child rd i 3))
  unfolding role if_lt is_symbol is_number if_eq
  pair_made h = made_3 rd i 10 h (omega arith) refl refl

  pub product_made : kind_of (tree rd i) ≡ 11 → tree rd i ≡ node 11 0 (tree rd (child rd i 1)) (tree rd (child rd i 2)) (tree rd (child rd i 3))
  unfolding role if_lt is_symbol is_number if_eq
  product_made h = made_3 rd i 11 h (omega arith) refl refl

  pub set_made : kind_of (tree rd i) ≡ 4 → tree rd i ≡ setᵗ (tree rd (child rd i 1))
  unfolding role if_lt is_symbol is_number if_eq
  set_made h =
      made_2 rd i 4 h (omega arith) refl refl (omega arith)
      ∙ ap (λ (y : Tree). node 4 0 (tree rd (child rd i 1)) y leaf) (bare rd i 4 h (omega arith) 2 (omega arith))

  pub constant_made : kind_of (tree rd i) ≡ 7 → tree rd i ≡ constantᵗ i (tree rd (child rd i 1))
  unfolding role if_lt is_symbol is_number if_eq
  constant_made h =
      let some : 0 < 7 = omega arith in
      let own : atom rd i ≡ i = atom_symbol rd i 7 h some refl in
      rw (tree_step_lem rd i (kind_given rd i 7 h some), kind_is rd i 7 h some, own, bare rd i 7 h some 2 (omega arith), bare rd i 7 h some 3 (omega arith))

  pub for_types_made : kind_of (tree rd i) ≡ 22 → tree rd i ≡ for_typesᵗ (rd i 1) (tree rd (child rd i 2))
  unfolding role if_lt is_symbol is_number if_eq
  for_types_made h =
      let some : 0 < 22 = omega arith in
      let own : atom rd i ≡ rd i 1 = atom_number rd i 22 h some refl refl in
      rw (tree_step_lem rd i (kind_given rd i 22 h some), kind_is rd i 22 h some, own, bare rd i 22 h some 1 (omega arith), bare rd i 22 h some 3 (omega arith))
