-- What a rule asks of the members, and the ways out of the code that tests it.
use Rattle.std.specs.Prelude.{ℕ, zero, suc, ◌<◌, ◌≤◌, ◌≡◌, refl, List, [], ◌∷◌, Bool, false, eqb, length}
use Rattle.std.proofs.Common.{sym, ap, ◌∙◌, arith, ne_eqb, eqb-true}
use Rattle.std.proofs.Math.Bool.{true}
use Rattle.std.proofs.lemmas.Bool.{eqb-false}
use Rattle.reader.specs.Words.{Reader}
use Rattle.reader.specs.Tests.{every, if_eq, if_true}
use Rattle.reader.specs.TestLaws.{eq_yes, eq_no}
use Rattle.reader.specs.Trees.{Tree, lower, same}
use Rattle.reader.specs.Chains.{parts}
use Rattle.derivation_rules.specs.Erase.{bare_parts}
use Rattle.derivation_rules.specs.Rules.{State, row}
use Rattle.derivation_rules.specs.Check.{needs_met, no_other}
use Rattle.reader.specs.Members.{member}
use Rattle.derivation_trees.specs.Keys.{decoded, Normal}
use Rattle.derivation_trees.specs.Table.{KeyOf, Table}
use Rattle.derivation_rules.specs.RowLaws.{row_none, by_rule}
use Rattle.derivation_frames.specs.Frames.{goal_at, chain_trees, Framed}
use Rattle.derivation_tables.specs.Tables.{column, one_of, form_tree, needs_are}
use Rattle.derivation_forms.specs.Forms.{Given, Formed}
use Rattle.derivation_members.specs.Members.{agrees}

-- node n stands at depth d, beside the keys of the records and the frames
pub record At (rd : Reader) (keys frames : List ℕ) (d n : ℕ) : Type 0 where
  pub table : Table rd keys
  pub small : length keys ≤ 250000
  pub framed : Framed rd (length keys) frames d
  pub within : n < length keys

pub at_given : (rd : Reader) (keys frames : List ℕ) (d n goal : ℕ) → At rd keys frames d n → goal ≡ goal_at frames d → Given rd keys goal n
at_given rd keys frames d n goal here e = record {
  table = here.table;
  small = here.small;
  normal = rw e here.framed.goal;
  few = rw e (omega (arith, here.framed.few, here.framed.deep, here.small));
  within = here.within;
}

-- t is a member of Γ
unfoldable pub held : List Tree → Tree → Bool
held Γ t = member t Γ

-- the members that node n needs are there
unfoldable pub needs_held : Reader → List Tree → Tree → ℕ → Bool
needs_held rd Γ goal n =
    if_eq (rd n 0) 65 (every (held Γ) (bare_parts rd n))
    (if_eq (column (rd n 0) 3) 0 true (held Γ (form_tree (bare_parts rd n) goal (column (rd n 0) 3))))

-- for BR1 no other is there
unfoldable pub only_goals : Reader → ℕ → List Tree → Tree → Bool
only_goals rd n Γ goal = if_eq (rd n 0) 64 (every (λ t. same t goal) Γ) true

once : (b : Bool) → b ≡ elim b as (λ x. Bool) [ true ↦ true | false ↦ false ]
once true = refl
once false = refl

needs_65 : (ps : List Tree) (st : State) → (row 65 ps st).needs ≡ ps
unfolding row if_eq
needs_65 ps st = refl

every_held : (Γ ps : List Tree) → every (held Γ) ps ≡ every (λ t. member t Γ) ps
unfolding every held
every_held Γ [] = refl
every_held Γ (p ∷ ps) = ap (λ (b : Bool). elim (member p Γ) as (λ x. Bool) [ true ↦ b | false ↦ false ]) (every_held Γ ps)

need_one : (Γ ps : List Tree) (goal : Tree) (form : ℕ) → if_eq form 0 true (held Γ (form_tree ps goal form)) ≡ every (λ t. member t Γ) (one_of (form_tree ps goal) form)
unfolding one_of if_eq every held
need_one Γ ps goal zero = refl
need_one Γ ps goal (suc form) = simp (if_eq, ne_eqb (suc form) 0 (λ z. omega arith)) (once (member (form_tree ps goal (suc form)) Γ))

-- the rows say the same
pub needs_held_lem : (rd : Reader) (n : ℕ) (st : State) → needs_held rd st.members st.goal n ≡ needs_met st.members (row (rd n 0) (bare_parts rd n) st).needs
unfolding needs_held needs_met
needs_held_lem rd n st = go (rd n 0) (bare_parts rd n)
  where
    go : (k : ℕ) (ps : List Tree) →
        if_eq k 65 (every (held st.members) ps) (if_eq (column k 3) 0 true (held st.members (form_tree ps st.goal (column k 3)))) ≡
        every (λ t. member t st.members) (row k ps st).needs
    go k ps = by (eqb k 65) refl
      where
        by : (b : Bool) → eqb k 65 ≡ b →
            if_eq k 65 (every (held st.members) ps) (if_eq (column k 3) 0 true (held st.members (form_tree ps st.goal (column k 3)))) ≡
            every (λ t. member t st.members) (row k ps st).needs
        by true e =
            let h : k ≡ 65 = eqb-true k 65 e in
            sym (eq_yes k 65 _ _ (every (λ t. member t st.members) (row k ps st).needs) h
            (rw (h, needs_65 ps st) (sym (every_held st.members ps))))
        by false e =
            let h : k ≡ 65 → ⊥ = eqb-false k 65 e in
            sym (eq_no k 65 _ _ (every (λ t. member t st.members) (row k ps st).needs) h
            (rw (needs_are ps st k h) (sym (need_one st.members ps st.goal (column k 3)))))

only_64 : (ps : List Tree) (st : State) → (row 64 ps st).only_goal ≡ true
unfolding row if_eq
only_64 ps st = refl

only_other : (ps : List Tree) (st : State) (k : ℕ) → (k ≡ 64 → ⊥) → (row k ps st).only_goal ≡ false
unfolding row if_eq
only_other ps st =
    by_rule (λ k. (k ≡ 64 → ⊥) → (row k ps st).only_goal ≡ false)
    (λ h. absurd (h refl)) (λ h. refl) (λ h. refl) (λ h. refl) (λ h. refl) (λ h. refl) (λ h. refl) (λ h. refl) (λ h. refl)
    (λ h. refl) (λ h. refl) (λ h. refl) (λ h. refl) (λ h. refl) (λ h. refl) (λ h. refl) (λ h. refl)
    (λ k other h. rw (row_none k ps st other) refl)

pub only_goals_lem : (rd : Reader) (n : ℕ) (ps : List Tree) (st : State) → only_goals rd n st.members st.goal ≡ no_other (row (rd n 0) ps st).only_goal st
unfolding only_goals no_other if_eq if_true
only_goals_lem rd n ps st = by (rd n 0) (eqb (rd n 0) 64) refl
  where
    by : (k : ℕ) (b : Bool) → eqb k 64 ≡ b →
        elim b as (λ x. Bool) [ true ↦ every (λ t. same t st.goal) st.members | false ↦ true ] ≡ no_other (row k ps st).only_goal st
    by k true e = rw (eqb-true k 64 e, only_64 ps st) refl
    by k false e = rw (only_other ps st k (eqb-false k 64 e)) refl

-- a key that stands for a form
pub held_form : (rd : Reader) (size goal more x : ℕ) (t : Tree) (Γ : List Tree) (r : Bool) → Formed rd size goal more x t → r ≡ member (decoded rd x) Γ → r ≡ held Γ t
unfolding held
held_form rd size goal more x t Γ r k e = rw (← k.stands.means) e

pub held_key : (rd : Reader) (size x : ℕ) (t : Tree) (Γ : List Tree) (r : Bool) → KeyOf rd size x t → r ≡ member (decoded rd x) Γ → r ≡ held Γ t
unfolding held
held_key rd size x t Γ r k e = rw (← k.stands.means) e

pub form_normal : (rd : Reader) (size goal more x : ℕ) (t : Tree) → Formed rd size goal more x t → Normal rd size x
form_normal rd size goal more x t k = k.stands.normal

-- The ways out of `needs_met`.
module _ (rd : Reader) (Γ : List Tree) (n k : ℕ) (ek : k ≡ rd n 0) where
  pub needs_parts : (t : Tree) → k ≡ 65 → (c : ℕ) (r : Bool) → c ≡ lower rd n 1 → r ≡ every (held Γ) (chain_trees rd c) → r ≡ needs_held rd Γ t n
  unfolding needs_held bare_parts parts chain_trees
  needs_parts t h c r ec e = rw (← ek, ← ec) (eq_yes k 65 _ _ r h e)

  module _ (other : k ≡ 65 → ⊥) (form : ℕ) (ef : form ≡ column k 3) where
    pub needs_none : (t : Tree) → form ≡ 0 → true ≡ needs_held rd Γ t n
    unfolding needs_held
    needs_none t h = rw (← ek, ← ef) (eq_no k 65 _ _ true other (eq_yes form 0 _ _ true h refl))

    pub needs_one : (form ≡ 0 → ⊥) → (goal : ℕ) (frames : List ℕ) (d : ℕ) → goal ≡ goal_at frames d → (r : Bool) →
        r ≡ held Γ (form_tree (bare_parts rd n) (decoded rd goal) form) → r ≡ needs_held rd Γ (decoded rd (goal_at frames d)) n
    unfolding needs_held
    needs_one h goal frames d eg r e = rw (← ek, ← ef, ← eg) (eq_no k 65 _ _ r other (eq_no form 0 _ _ r h e))

-- The ways out of `only_goal`.
agrees_every : (rd : Reader) (goal : ℕ) (Γ : List Tree) → every (agrees rd goal true) Γ ≡ every (λ t. same t (decoded rd goal)) Γ
unfolding every agrees if_true
agrees_every rd goal [] = refl
agrees_every rd goal (t ∷ ts) = ap (λ (b : Bool). elim (same t (decoded rd goal)) as (λ x. Bool) [ true ↦ b | false ↦ false ]) (agrees_every rd goal ts)

module _ (rd : Reader) (Γ : List Tree) (n k : ℕ) (ek : k ≡ rd n 0) where
  pub only_none : (k ≡ 64 → ⊥) → (t : Tree) → true ≡ only_goals rd n Γ t
  unfolding only_goals
  only_none h t = rw (← ek) (eq_no k 64 _ _ true h refl)

  pub only_one : k ≡ 64 → (goal : ℕ) (frames : List ℕ) (d : ℕ) → goal ≡ goal_at frames d → (r : Bool) → r ≡ every (agrees rd goal true) Γ →
      r ≡ only_goals rd n Γ (decoded rd (goal_at frames d))
  unfolding only_goals
  only_one h goal frames d eg r e = rw (← ek, ← eg) (eq_yes k 64 _ _ r h (e ∙ agrees_every rd goal Γ))

pub goal_normal : (rd : Reader) (size : ℕ) (frames : List ℕ) (d goal : ℕ) → Framed rd size frames d → goal ≡ goal_at frames d → Normal rd size goal
goal_normal rd size frames d goal here e = rw e here.goal
