-- The rows of the rules ask the same freshness as `node_fresh`.
use Rattle.std.specs.Prelude.{ℕ, ◌≡◌, refl, List, [], ◌∷◌, Bool, false, not, eqb}
use Rattle.std.proofs.Math.Path.{sym}
use Rattle.std.proofs.Common.{ap, ◌∙◌, eqb-true}
use Rattle.std.proofs.Math.Bool.{true}
use Rattle.std.proofs.lemmas.Bool.{eqb-false}
use Rattle.reader.specs.Words.{Reader}
use Rattle.reader.specs.Tests.{both, every, if_eq, if_lt}
use Rattle.reader.specs.TestLaws.{eq_yes, eq_no}
use Rattle.reader.specs.Trees.{Tree, atom_of}
use Rattle.reader.specs.Variables.{occurs}
use Rattle.derivation_rules.specs.Erase.{bare_parts}
use Rattle.derivation_rules.specs.Rules.{State, row}
use Rattle.reader.specs.Members.{is_fresh}
use Rattle.derivation_rules.specs.Check.{in_neither}
use Rattle.derivation_rules.specs.RowLaws.{row_none, by_rule}
use Rattle.derivation_tables.specs.Tables.{source_tree, step_tree, form_tree}
use Rattle.derivation_fresh.specs.Fresh.{lacks, fresh_in, node_fresh}

every_lacks : (c : ℕ) (ts : List Tree) → every (lacks c) ts ≡ every (λ t. not (occurs c t)) ts
unfolding every lacks
every_lacks c [] = refl
every_lacks c (t ∷ ts) = ap (λ (b : Bool). elim (not (occurs c t)) as (λ x. Bool) [ true ↦ b | false ↦ false ]) (every_lacks c ts)

fresh_is : (st : State) (c : ℕ) → fresh_in c st.goal st.members ≡ in_neither st c
unfolding fresh_in in_neither is_fresh every lacks both
fresh_is st c = ap (both (not (occurs c st.goal))) (every_lacks c st.members)

fresh_77 : (ps : List Tree) (st : State) → (row 77 ps st).fresh ≡ atom_of (form_tree ps st.goal 8) ∷ []
unfolding row if_eq if_lt form_tree step_tree source_tree
fresh_77 ps st = refl

fresh_other : (ps : List Tree) (st : State) (k : ℕ) → (k ≡ 77 → ⊥) → (row k ps st).fresh ≡ []
unfolding row if_eq
fresh_other ps st =
    by_rule (λ k. (k ≡ 77 → ⊥) → (row k ps st).fresh ≡ [])
    (λ h. refl) (λ h. refl) (λ h. refl) (λ h. refl) (λ h. refl) (λ h. refl) (λ h. refl) (λ h. refl) (λ h. refl)
    (λ h. refl) (λ h. refl) (λ h. refl) (λ h. refl) (λ h. absurd (h refl)) (λ h. refl) (λ h. refl) (λ h. refl)
    (λ k other h. rw (row_none k ps st other) refl)

once : (b : Bool) → b ≡ elim b as (λ x. Bool) [ true ↦ true | false ↦ false ]
once true = refl
once false = refl

-- the rows say the same
pub node_fresh_lem : (rd : Reader) (n : ℕ) (st : State) → node_fresh rd st.members st.goal n ≡ every (in_neither st) (row (rd n 0) (bare_parts rd n) st).fresh
unfolding node_fresh every
node_fresh_lem rd n st = go (rd n 0) (bare_parts rd n)
  where
    go : (k : ℕ) (ps : List Tree) → if_eq k 77 (fresh_in (atom_of (form_tree ps st.goal 8)) st.goal st.members) true ≡ every (in_neither st) (row k ps st).fresh
    go k ps = by (eqb k 77) refl
      where
        by : (b : Bool) → eqb k 77 ≡ b →
            if_eq k 77 (fresh_in (atom_of (form_tree ps st.goal 8)) st.goal st.members) true ≡ every (in_neither st) (row k ps st).fresh
        by true e =
            let h : k ≡ 77 = eqb-true k 77 e in
            sym (eq_yes k 77 _ _ (every (in_neither st) (row k ps st).fresh) h
            (rw (h, fresh_77 ps st) (sym (once (in_neither st (atom_of (form_tree ps st.goal 8)))) ∙ sym (fresh_is st (atom_of (form_tree ps st.goal 8))))))
        by false e =
            let h : k ≡ 77 → ⊥ = eqb-false k 77 e in
            sym (eq_no k 77 _ _ (every (in_neither st) (row k ps st).fresh) h (rw (fresh_other ps st k h) refl))
