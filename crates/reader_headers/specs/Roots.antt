-- The ways out of the code for an obligation's roots.
use Rattle.std.specs.Prelude.{ℕ, ◌≡◌, Bool, true, false, not, eqb, leb, length}
use Rattle.std.proofs.Math.Path.{ap}
use Rattle.std.proofs.Common.{arith}
use borrow.Author.Tests.{eq-eqb, ne_eqb, not-true, not-false}
use Rattle.reader.specs.Words.{Reader}
use Rattle.reader.specs.Tests.{both, either, every, if_eq, if_lt}
use Rattle.reader.specs.Kinds.{class}
use Rattle.reader.specs.Trees.{Tree, atom, tree, kind_of, atom_of}
use Rattle.reader.specs.Chains.{linked, item_trees}
use Rattle.reader.specs.Variables.{indices_below, types_below, is_closed}
use Rattle.reader.specs.TreeLaws.{tree_zero, tree_step_lem}
use Rattle.reader.specs.Places.{goal_fits, is_hypothesis, type_count, hypothesis_fits, hypotheses_fit}

-- no unbound index, and no type variable from n on
unfoldable pub is_open_below : ℕ → Tree → Bool
is_open_below n t = both (indices_below 0 t) (types_below n t)

unfoldable pub roots_fit : Reader → Bool
roots_fit rd = both (goal_fits rd) (hypotheses_fit rd)

module _ (rd : Reader) (goal k : ℕ) (eg : goal ≡ rd 0 3) (ek : k ≡ rd goal 0) where
  pub goal_kind : (k ≡ 18 → ⊥) → false ≡ goal_fits rd
  unfolding goal_fits both
  goal_kind h = simp (goal_fits, both, ← eg, ← ek, ne_eqb k 18 h)

  pub goal_closed : k ≡ 18 → (t : Bool) → t ≡ is_closed (tree rd goal) → t ≡ goal_fits rd
  unfolding goal_fits both
  goal_closed h t e = simp (goal_fits, both, ← eg, ← ek, eq-eqb k 18 h) e

-- a hypothesis by its kind
hypothesis_of : (rd : Reader) (i : ℕ) → (i ≡ 0 → ⊥) → hypothesis_fits (tree rd i) ≡
    both (either (eqb (class (rd i 0)) 5) (eqb (rd i 0) 22)) (is_open_below (if_eq (rd i 0) 22 (atom rd i) 0) (tree rd i))
unfolding hypothesis_fits is_hypothesis type_count kind_of atom_of is_open_below
hypothesis_of rd i p =
    ap (λ (t : Tree). both (either (eqb (class (kind_of t)) 5) (eqb (kind_of t) 22)) (both (indices_below 0 (tree rd i)) (types_below (if_eq (kind_of t) 22 (atom_of t) 0) (tree rd i))))
    (tree_step_lem rd i (omega arith))

pub hypothesis_none : (rd : Reader) (i : ℕ) → i ≡ 0 → false ≡ hypothesis_fits (tree rd i)
unfolding hypothesis_fits is_hypothesis kind_of either both class if_lt
hypothesis_none rd i h = rw (h, tree_zero rd)

module _ (rd : Reader) (i k : ℕ) (pos : i ≡ 0 → ⊥) (ek : k ≡ rd i 0) where
  pub hypothesis_types : k ≡ 22 → (a : ℕ) → a ≡ atom rd i → (t : Bool) → t ≡ is_open_below a (tree rd i) → t ≡ hypothesis_fits (tree rd i)
  unfolding both either if_eq class if_lt
  hypothesis_types h a ea t et = rw (hypothesis_of rd i pos, ← ek, ← ea, h) et

  module _ (other : k ≡ 22 → ⊥) (c : ℕ) (ec : c ≡ class k) where
    pub hypothesis_class : (c ≡ 5 → ⊥) → false ≡ hypothesis_fits (tree rd i)
    unfolding both either
    hypothesis_class h = rw (hypothesis_of rd i pos, ← ek, ← ec) (simp (both, either, ne_eqb c 5 h, ne_eqb k 22 other))

    pub hypothesis_formula : c ≡ 5 → (t : Bool) → t ≡ is_open_below 0 (tree rd i) → t ≡ hypothesis_fits (tree rd i)
    unfolding both either if_eq
    hypothesis_formula h t et = rw (hypothesis_of rd i pos, ← ek, ← ec) (simp (both, either, if_eq, eq-eqb c 5 h, ne_eqb k 22 other) et)

module _ (rd : Reader) (c : ℕ) (ec : c ≡ rd 0 2) where
  pub hypotheses_none : c ≡ 0 → true ≡ hypotheses_fit rd
  unfolding hypotheses_fit if_eq
  hypotheses_none h = simp (hypotheses_fit, if_eq, ← ec, eq-eqb c 0 h)

  module _ (some : c ≡ 0 → ⊥) (k : ℕ) (ek : k ≡ rd c 0) where
    pub hypotheses_kind : (k ≡ 1 → ⊥) → false ≡ hypotheses_fit rd
    unfolding hypotheses_fit if_eq both
    hypotheses_kind h = simp (hypotheses_fit, if_eq, both, ← ec, ne_eqb c 0 some, ← ek, ne_eqb k 1 h)

    module _ (link : k ≡ 1) (t : Bool) (et : t ≡ every hypothesis_fits (item_trees rd c)) where
      pub hypotheses_each : not t ≡ true → false ≡ hypotheses_fit rd
      unfolding hypotheses_fit if_eq both
      hypotheses_each h = simp (hypotheses_fit, if_eq, both, ← ec, ne_eqb c 0 some, ← ek, eq-eqb k 1 link, ← et, not-true t h)

      pub hypotheses_count : not t ≡ false → (r : Bool) → r ≡ leb (length (linked rd c)) 256 → r ≡ hypotheses_fit rd
      unfolding hypotheses_fit if_eq both
      hypotheses_count h r er = simp (hypotheses_fit, if_eq, both, ← ec, ne_eqb c 0 some, ← ek, eq-eqb k 1 link, ← et, not-false t h) er
