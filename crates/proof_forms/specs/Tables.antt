-- What the rules 32 to 46 say of the shapes of parts, as a table, and that the rows say the same.
use Rattle.std.specs.Prelude.{ℕ, ◌-◌, ◌<◌, ◌≤◌, ◌≡◌, refl, List, [], ◌∷◌, Bool, true, false, ltb, get_or}
use Rattle.std.proofs.Common.{sym, ap, ◌∙◌, arith, lt-ltb, ltb-true, ltb-false}
use Rattle.reader.specs.Tests.{if_eq, if_lt}
use Rattle.reader.specs.TestLaws.{Rest, rest_past}
use Rattle.reader.specs.Words.{Reader}
use Rattle.reader.specs.Trees.{Tree}
use Rattle.reader.specs.Chains.{item_trees}
use Rattle.reader.specs.Shapes.{have_shapes}
use Rattle.reader.specs.Down.{iter, down}
use Rattle.proof_rules.specs.Rules.{row}
use Rattle.proof_rules.specs.RowLaws.{NoRule, row_none, by_rule}
use Rattle.reader_bytes.specs.Bytes.{byte_of, parts_of}
use Rattle.proof_bytes.specs.Bytes.{proof_byte}
use Rattle.proof_bytes.proofs.Rows.{parts_none, proof_varies}
use Rattle.proof_forms.specs.Shapes.{shape_step, shape_of, shapes_of, instance_shapes}

-- a byte for each part, the first's lowest: a kind, 32 and a class, or 64 and what stands under a ¬
abbrev pub shape_codes : List ℕ
shape_codes =
    0 ∷ 0 ∷ 37 ∷ 84 ∷ 20 ∷ 37 ∷ 165 ∷ 16 ∷ 81 ∷ 17 ∷ 80 ∷ 2426707 ∷ 2434067 ∷ 0 ∷ 159536915493 ∷ []

-- what stands at place i of a table of the fifteen rules, 0 for a kind k that is none
unfoldable pub rule_entry : List ℕ → ℕ → ℕ → ℕ
rule_entry table k i = if_lt k 32 0 (if_lt 46 k 0 (get_or table i 0))

unfoldable pub shape_code : ℕ → ℕ
shape_code k = rule_entry shape_codes k (k - 32)

-- no rule has no entry
pub entry_none : (table : List ℕ) (k i : ℕ) → NoRule k → rule_entry table k i ≡ 0
unfolding rule_entry if_lt
entry_none table k i h = go (ltb k 32) refl
  where
    past_by : 32 ≤ k → (b : Bool) → ltb 46 k ≡ b → 46 < k
    past_by z true e = ltb-true 46 k e
    past_by z false e = let y : k ≤ 46 = ltb-false 46 k e in absurd (h k z y refl)

    go : (b : Bool) → ltb k 32 ≡ b → ◌≡◌ {A = ℕ} (elim b [ true ↦ 0 | false ↦ elim (ltb 46 k) [ true ↦ 0 | false ↦ get_or table i 0 ] ]) 0
    go true e = refl
    go false e = let z : 32 ≤ k = ltb-false k 32 e in simp (lt-ltb 46 k (past_by z (ltb 46 k) refl))

-- the rows say what the table says, as many shapes as the byte says
pub shapes_are : (ps : List Tree) (k : ℕ) → (parts_of (proof_byte k) ≡ 15 → ⊥) → (row k ps).shapes ≡ shapes_of (parts_of (proof_byte k)) (shape_code k)
unfolding row if_eq parts_of proof_byte byte_of shape_code rule_entry if_lt shapes_of shape_of shape_step down iter
shapes_are ps =
    by_rule (λ k. (parts_of (proof_byte k) ≡ 15 → ⊥) → (row k ps).shapes ≡ shapes_of (parts_of (proof_byte k)) (shape_code k))
    (λ h. refl) (λ h. refl) (λ h. refl) (λ h. refl) (λ h. refl)
    (λ h. refl) (λ h. refl) (λ h. refl) (λ h. refl) (λ h. refl)
    (λ h. refl) (λ h. refl) (λ h. refl) (λ h. absurd (h refl)) (λ h. refl)
    (λ k other h. rw (row_none k ps other, ← parts_none k other) refl)

-- the last arm of the code's tables: no rule has no entry
pub entry_rest : (table : List ℕ) (k i : ℕ) → Rest 32 k 15 → 0 ≡ rule_entry table k i
entry_rest table k i rest = sym (entry_none table k i (λ j low high same. omega (arith, rest_past 32 k 15 (omega arith) rest)))

-- the shapes of the parts in a chain
module _ (rd : Reader) (k c byte count : ℕ) (eb : byte ≡ proof_byte k) (en : count ≡ parts_of byte) where
  count_parts : count ≡ parts_of (proof_byte k)
  count_parts = en ∙ ap parts_of eb

  pub shapes_varying : count ≡ 15 → (r : Bool) → r ≡ instance_shapes (item_trees rd c) → r ≡ have_shapes (row k (item_trees rd c)).shapes (item_trees rd c)
  unfolding instance_shapes row if_eq
  shapes_varying h r e = rw (proof_varies k (sym count_parts ∙ h)) e

  pub shapes_counted : (count ≡ 15 → ⊥) → (code : ℕ) (r : Bool) → code ≡ shape_code k → r ≡ have_shapes (shapes_of count code) (item_trees rd c) →
      r ≡ have_shapes (row k (item_trees rd c)).shapes (item_trees rd c)
  shapes_counted h code r es e = rw (shapes_are (item_trees rd c) k (λ z. h (count_parts ∙ z)), ← es, ← count_parts) e
