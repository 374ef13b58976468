-- A pair of an obligation and a proof that passed places 1 to 12: its records are well typed, and the start of the proof is a sequent.
use Prim.Native.Nat.{ℕ, ◌≤◌}
use Rattle.std.specs.Prelude.{◌≡◌, List, [], ◌∷◌, map, true, eqb}
use Rattle.std.proofs.Math.Path.{ap}
use Rattle.std.proofs.Common.{arith}
use borrow.Author.Tests.{eqb-true}
use Rattle.reader.specs.Words.{Reader}
use Rattle.reader.specs.Tests.{every, if_lt}
use Rattle.reader.specs.Kinds.{class}
use Rattle.reader.specs.Trees.{Tree, tree, kind_of, atom_of}
use Rattle.reader.specs.Chains.{items, item_trees}
use Rattle.reader.specs.Variables.{binders}
use Rattle.reader.specs.Places.{hypothesis_chain, negated_goal, is_hypothesis, type_count, hypothesis_fits}
use Rattle.reader.specs.Notions.{IndicesBelow, NoIndex, TypesBelow}
use Rattle.reader_laws.specs.Scan.{every_head, either_parts, when_equal, when_different}
use Rattle.reader_laws.specs.NotionLaws.{every_0, every_more, indices_in, types_in, closed_in}
use Rattle.reader_laws.specs.File.{beside, last_of, ReadObligation, ReadSecond, hypothesis_parts}
use Rattle.reader_laws.specs.Pair.{header_kind, beside_past, pair_sound, pair_goal_tree, pair_goal_closed, pair_hypotheses}
use Rattle.proof_rules.specs.Check.{start_sequent}
use Rattle.reader_meaning.specs.Typed.{Typed}
use Rattle.proof_meaning.specs.TypedTrees.{PolymorphicFormula, TypedRecords}
use Rattle.proof_meaning.specs.LL.{ClosedFormula, Member, Sequent}
use Rattle.reader_meaning.proofs.RecordLaws.{record_in}
use Rattle.proof_meaning.proofs.TypedTreeLaws.{typed_records}
use Rattle.proof_meaning.proofs.LLLaws.{and_one}

-- a polymorphic formula without unbound index, its type variables below its count
polymorphic_member : {rd : Reader} {t : Tree} → PolymorphicFormula rd t → NoIndex t → TypesBelow (atom_of t) t → Member rd t
unfolding atom_of binders
polymorphic_member (PolymorphicFormula.for_all_types low high f) (IndicesBelow.inside own p q r) (TypesBelow.inside var s u v) =
    Member.for_all_types (PolymorphicFormula.for_all_types low high f) q u

-- a formula counts no type variables
plain_count : (t : Tree) → class (kind_of t) ≡ 5 → type_count t ≡ 0
unfolding type_count class if_lt
plain_count t h = when_different _ _ (kind_of t) 22 (λ e. let seven : class (kind_of t) ≡ 7 = ap class e in omega arith)

module _ (ob pf : List ℕ) (r : ReadObligation ob) (s : ReadSecond 1 ob pf) where
  abbrev rd : Reader
  rd = beside ob pf

  each_typed : (i : ℕ) → 1 ≤ i → i ≤ last_of ob pf → Typed rd i
  each_typed i p q = (record_in 1 rd i (pair_sound 1 ob pf r s i p q)).typed (λ e. omega arith)

  pub files_typed : TypedRecords (beside ob pf)
  files_typed =
      typed_records 1 rd (header_kind ob pf r) (last_of ob pf) (pair_sound 1 ob pf r s) each_typed (λ i h. beside_past 1 ob pf s i 0 h)

  -- each hypothesis is a member
  hypothesis_member : (i : ℕ) → hypothesis_fits (tree rd i) ≡ true → Member rd (tree rd i)
  unfolding is_hypothesis type_count
  hypothesis_member i h =
      let t : Tree = tree rd i in
      let p = hypothesis_parts t h in
      let indices : NoIndex t = indices_in 0 t p.1 in
      either_parts (eqb (class (kind_of t)) 5) _ p.0
      (λ e. let f = eqb-true _ 5 e in
      let variables : TypesBelow 0 t = types_in 0 t (rw (plain_count t f) at p.2) in
      Member.formula (record { formula = files_typed.formulas i f; closed = record { no_index = indices; no_type_variable = variables } }))
      (λ e. let k = eqb-true _ 22 e in
      polymorphic_member (files_typed.polymorphic i k) indices (types_in (atom_of t) t (rw (when_equal (atom_of t) 0 (kind_of t) 22 k) at p.2)))

  each_member : (is : List ℕ) → every hypothesis_fits (map (tree rd) is) ≡ true → Sequent rd (map (tree rd) is)
  each_member [] h = every_0 (Member rd)
  each_member (i ∷ is) h =
      let head = every_head hypothesis_fits (tree rd i) (map (tree rd) is) h in
      every_more (Member rd) (tree rd i) (map (tree rd) is) (hypothesis_member i head.0) (each_member is head.1)

  -- and the negated goal is a closed formula
  goal_member : ClosedFormula rd (tree rd (negated_goal rd))
  unfolding class kind_of if_lt
  goal_member =
      let g : ℕ = negated_goal rd in
      let five : class (kind_of (tree rd g)) ≡ 5 = ap (λ (t : Tree). class (kind_of t)) (pair_goal_tree 1 ob pf r s) in
      record { formula = files_typed.formulas g five; closed = closed_in (tree rd g) (pair_goal_closed 1 ob pf r s) }

  pub start_sequent_lem : Sequent (beside ob pf) (start_sequent (beside ob pf))
  unfolding start_sequent item_trees
  start_sequent_lem = and_one _ (each_member (items rd (hypothesis_chain rd)) (pair_hypotheses 1 ob pf r s)) goal_member
