-- What a record's tree without types is, by the record's kind.
use Rattle.std.specs.Prelude.{ℕ, ◌<◌, ◌≡◌, Bool, true, false, not, eqb, ltb}
use Rattle.std.proofs.Math.Path.{refl}
use Rattle.std.proofs.Common.{sym}
use borrow.Author.Tests.{ne_eqb}
use Rattle.reader.specs.Words.{Reader}
use Rattle.reader.specs.Tests.{if_eq, if_lt, if_true}
use Rattle.reader.specs.Kinds.{role, role_at}
use Rattle.reader.specs.Trees.{Tree, leaf, node, lower, child, atom, ⊥ᵗ, ¬ᵗ◌}
use Rattle.reader.specs.TreeLaws.{tree_zero, tree_step_lem}
use Rattle.reader_chains.specs.Shapes.{false_tree, not_tree}
use Rattle.reader_equality.specs.Keys.{is_part, part_at}
use Rattle.derivation_rules.specs.Erase.{is_type, untyped, bare, ⌊◌⌋, bare_tree}

-- kind k is none of those whose records have no key of their own: ⊥, ⊤, ¬, for all types
pub record Plain (k : ℕ) : Type 0 where
  pub no_false : k ≡ 14 → ⊥
  pub no_true : k ≡ 15 → ⊥
  pub no_not : k ≡ 18 → ⊥
  pub no_all : k ≡ 22 → ⊥

pub bare_zero : (rd : Reader) → bare_tree rd 0 ≡ leaf
unfolding bare_tree ⌊◌⌋
bare_zero rd = rw (tree_zero rd)

bare_step : (rd : Reader) (i : ℕ) → 0 < i →
    bare_tree rd i ≡ bare (rd i 0) (atom rd i) (bare_tree rd (child rd i 1)) (bare_tree rd (child rd i 2)) (bare_tree rd (child rd i 3))
unfolding bare_tree ⌊◌⌋
bare_step rd i p = rw (tree_step_lem rd i p)

-- a part that is no type
part_bare : (rd : Reader) (i w : ℕ) → untyped (rd i 0) w (bare_tree rd (child rd i w)) ≡ bare_tree rd (part_at rd false i w)
unfolding untyped is_type part_at is_part child role_at if_eq if_lt if_true
part_bare rd i w = go (ltb (role (rd i 0) w) 10) (eqb (role (rd i 0) w) 12) (eqb (role (rd i 0) w) 16)
  where
    go : (low type chain : Bool) →
        elim (elim type as (λ x. Bool) [ true ↦ true | false ↦ chain ]) as (λ x. Tree) [
          | true ↦ leaf
          | false ↦ bare_tree rd (elim low as (λ x. ℕ) [ true ↦ 0 | false ↦ lower rd i w ])
        ]
        ≡ bare_tree rd (elim (elim low as (λ x. Bool) [ true ↦ false | false ↦ elim type as (λ x. Bool) [ true ↦ false | false ↦ not chain ] ]) as (λ x. ℕ) [
          | true ↦ lower rd i w
          | false ↦ 0
        ])
    go true true chain = sym (bare_zero rd)
    go true false true = sym (bare_zero rd)
    go true false false = refl
    go false true chain = sym (bare_zero rd)
    go false false true = sym (bare_zero rd)
    go false false false = refl

-- A record by its kind.
module _ (rd : Reader) (i : ℕ) (p : 0 < i) where
  pub bare_false : rd i 0 ≡ 14 → bare_tree rd i ≡ ⊥ᵗ
  unfolding bare_tree ⌊◌⌋ bare if_eq untyped is_type if_true role if_lt
  bare_false h = rw (false_tree rd i p h) refl

  pub bare_true : rd i 0 ≡ 15 → bare_tree rd i ≡ ¬ᵗ ⊥ᵗ
  unfolding bare if_eq
  bare_true h = rw (bare_step rd i p, h) refl

  pub bare_not : rd i 0 ≡ 18 → bare_tree rd i ≡ ¬ᵗ (bare_tree rd (child rd i 1))
  unfolding bare_tree ⌊◌⌋ bare if_eq untyped is_type if_true role if_lt
  bare_not h = rw (not_tree rd i p h) refl

  pub bare_all : rd i 0 ≡ 22 → bare_tree rd i ≡ bare_tree rd (child rd i 2)
  unfolding bare if_eq
  bare_all h = rw (bare_step rd i p, h) refl

  pub bare_node : (rd i 0 ≡ 15 → ⊥) → (rd i 0 ≡ 22 → ⊥) →
      bare_tree rd i ≡ node (rd i 0) (atom rd i) (bare_tree rd (part_at rd false i 1)) (bare_tree rd (part_at rd false i 2)) (bare_tree rd (part_at rd false i 3))
  unfolding bare if_eq
  bare_node no_true no_all =
      rw (bare_step rd i p, ← part_bare rd i 1, ← part_bare rd i 2, ← part_bare rd i 3)
      (simp (bare, if_eq, ne_eqb (rd i 0) 15 no_true, ne_eqb (rd i 0) 22 no_all))

  pub bare_plain : Plain (rd i 0) →
      bare_tree rd i ≡ node (rd i 0) (atom rd i) (bare_tree rd (part_at rd false i 1)) (bare_tree rd (part_at rd false i 2)) (bare_tree rd (part_at rd false i 3))
  bare_plain h = bare_node h.no_true h.no_all
