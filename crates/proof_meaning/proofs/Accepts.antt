-- Each rule of `Proves` against the tests of a node: what passes proves, and what proves passes.
use Rattle.std.specs.Prelude.{ℕ, zero, suc, ◌+◌, ◌<◌, ◌≤◌, ◌≡◌, true}
use Rattle.std.proofs.Math.Path.{refl, sym, ap, subst}
use Rattle.std.proofs.Common.{◌∙◌, arith}
use mathlib.Core.List.{List, [], ◌∷◌, ◌++◌}
use Rattle.std.proofs.Math.ListN.{length, get_or}
use Rattle.reader.specs.Words.{Reader}
use Rattle.reader.specs.Tests.{between, every, if_eq, if_lt}
use Rattle.reader.specs.Kinds.{is_rule}
use Rattle.reader.specs.Trees.{Tree, leaf, tree, first_of, second_of, atom_of, ◌∧ᵗ◌, ◌⇒ᵗ◌, ¬ᵗ◌, ∀ᵗ, ◌=ᵗ◌}
use Rattle.reader.specs.Chains.{parts, premises}
use Rattle.reader.specs.Variables.{replaced, is_closed, instance}
use Rattle.reader.specs.TreeLaws.{same_equal, same_self}
use Rattle.reader.specs.Shapes.{negated, term, formula, constant, conjunction, implication, universal, equation, for_all_types, have_shapes}
use Rattle.reader.specs.WalkLaws.{Each, each_0, each_1, each_2, one_each, two_each, Inherited, Passes, passes}
use Rattle.reader.specs.Typing.{type_of}
use Rattle.reader_laws.specs.Scan.{both_parts, both_join}
use Rattle.proof_rules.specs.Rules.{row}
use Rattle.proof_rules.specs.Check.{node_fault, premise_sequent}
use Rattle.reader.specs.Notions.{◌∈◌, here, there, Every, IsType, IsTerm, IsFormula, Closed, Fresh}
use Rattle.reader_laws.specs.NotionLaws.{every_0, every_more, every_1, every_2, every_in, every_out}
use Rattle.reader_laws.specs.NotionLaws.{closed_in, closed_out, indices_in, indices_out, bears_in, bears_out}
use Rattle.reader_meaning.specs.Signs.{constantᵗ, for_typesᵗ}
use Rattle.proof_meaning.specs.Proves.{ProofNode, Fits, Proves}
use Rattle.reader_meaning.proofs.TreeForms.{and_made, implies_made, for_all_made, equal_made, constant_made}
use Rattle.proof_meaning.proofs.Forms.{of_class_lem, class_of, of_kind_lem, of_negated, cons_same}
use Rattle.proof_meaning.proofs.Forms.{forms_0, forms_1, forms_3, forms_5, forms_45, forms_head, forms_types}
use Rattle.proof_meaning.proofs.Forms.{more_forms, no_forms, one_form, kind_form, negated_form, types_form}
use Rattle.proof_meaning.proofs.Rows.{parts_of, Passed, passed_in, passed_out, next_is, two_added, by_kind}

-- lists of a known length
len_0 : (xs : List ℕ) → length xs ≡ 0 → xs ≡ []
len_0 [] h = refl
len_0 (x ∷ xs) h = absurd (omega arith)

len_1 : (xs : List ℕ) → length xs ≡ 1 → (x : ℕ) × (xs ≡ x ∷ [])
len_1 [] h = absurd (omega arith)
len_1 (x ∷ []) h = (x, refl)
len_1 (x ∷ y ∷ xs) h = absurd (omega arith)

len_2 : (xs : List ℕ) → length xs ≡ 2 → (x : ℕ) × (y : ℕ) × (xs ≡ x ∷ y ∷ [])
len_2 [] h = absurd (omega arith)
len_2 (x ∷ []) h = absurd (omega arith)
len_2 (x ∷ y ∷ []) h = (x, y, refl)
len_2 (x ∷ y ∷ z ∷ xs) h = absurd (omega arith)

-- closedness of all of a list
all_closed : (ts : List Tree) → every is_closed ts ≡ true → Every Closed ts
all_closed = every_in is_closed Closed closed_in

closed_all : (ts : List Tree) → Every Closed ts → every is_closed ts ≡ true
closed_all = every_out is_closed Closed closed_out

-- First way: from a node that passes its tests, and its premises, to its rule.
module _ (rd : Reader) (Γ : List Tree) (n k : ℕ) (p : Passed rd Γ n (rd n 0) (parts_of rd n))
    (each : Each (Proves rd) (premise_sequent rd) Γ n 0 (premises rd n) k) where
  known : (j : ℕ) (ps : List Tree) → rd n 0 ≡ j → parts_of rd n ≡ ps → Passed rd Γ n j ps
  known j ps ek ep = subst (λ (j : ℕ). Passed rd Γ n j ps) ek (subst (λ (ps : List Tree). Passed rd Γ n (rd n 0) ps) ep p)

  -- what is known of the node
  node_is : {j : ℕ} {ps : List Tree} {xs : List ℕ} → rd n 0 ≡ j → parts_of rd n ≡ ps → premises rd n ≡ xs → ProofNode rd n j ps xs
  node_is e ep ex = record { kind = e; parts_are = ep; premises_are = ex }

  -- no premise
  none_left : length (premises rd n) ≡ 0 → (premises rd n ≡ []) × (suc k ≡ 1)
  none_left h =
      let e = len_0 (premises rd n) h in
      let z : k ≡ 0 = each_0 (Proves rd) (premise_sequent rd) Γ n k (subst (λ (xs : List ℕ). Each (Proves rd) (premise_sequent rd) Γ n 0 xs k) e each) in
      (e, omega arith)

  -- one premise, of which the row j says what it adds
  one_left : (j : ℕ) (ps A : List Tree) → rd n 0 ≡ j → parts_of rd n ≡ ps → length (premises rd n) ≡ 1 → get_or (row j ps).adds 0 [] ≡ A →
      (x : ℕ) × (premises rd n ≡ x ∷ []) × Proves rd (Γ ++ A) x k
  one_left j ps A ek ep h ea =
      let x = len_1 (premises rd n) h in
      let d = each_1 (Proves rd) (premise_sequent rd) Γ n x.0 k (subst (λ (xs : List ℕ). Each (Proves rd) (premise_sequent rd) Γ n 0 xs k) x.1 each) in
      (x.0, x.1, subst (λ (Δ : List Tree). Proves rd Δ x.0 k) (next_is rd Γ n j ps 0 ek ep ∙ ap (λ (B : List Tree). Γ ++ B) ea) d)

  -- two premises
  two_left : (j : ℕ) (ps A B : List Tree) → rd n 0 ≡ j → parts_of rd n ≡ ps → length (premises rd n) ≡ 2 →
      get_or (row j ps).adds 0 [] ≡ A → get_or (row j ps).adds 1 [] ≡ B →
      (x : ℕ) × (y : ℕ) × (i : ℕ) × (l : ℕ) × (premises rd n ≡ x ∷ y ∷ []) × Proves rd (Γ ++ A) x i × Proves rd (Γ ++ B) y l × (suc k ≡ suc (i + l))
  two_left j ps A B ek ep h ea eb =
      let x = len_2 (premises rd n) h in
      let both = subst (λ (xs : List ℕ). Each (Proves rd) (premise_sequent rd) Γ n 0 xs k) x.2 each in
      let d = each_2 (Proves rd) (premise_sequent rd) Γ n x.0 x.1 k both in (
        x.0,
        x.1,
        d.0,
        d.1,
        x.2,
        subst (λ (Δ : List Tree). Proves rd Δ x.0 d.0) (next_is rd Γ n j ps 0 ek ep ∙ ap (λ (B : List Tree). Γ ++ B) ea) d.2,
        subst (λ (Δ : List Tree). Proves rd Δ x.1 d.1) (next_is rd Γ n j ps 1 ek ep ∙ ap (λ (B : List Tree). Γ ++ B) eb) d.3,
        ap suc d.4,
      )

  at_32 : rd n 0 ≡ 32 → Proves rd Γ n (suc k)
  unfolding row if_eq
  at_32 e =
      let ep = forms_0 rd (parts rd n) (known 32 _ e refl).shapes in
      let q = known 32 [] e ep in
      let o = none_left q.number in
      rw o.1 (Proves.⊥ (node_is e ep o.0) (q.needs _ (here refl)))

  at_33 : rd n 0 ≡ 33 → Proves rd Γ n (suc k)
  unfolding row if_eq
  at_33 e =
      let ep = forms_0 rd (parts rd n) (known 33 _ e refl).shapes in
      let q = known 33 [] e ep in
      let o = none_left q.number in
      rw o.1 (Proves.¬⊤ (node_is e ep o.0) (q.needs _ (here refl)))

  at_34 : rd n 0 ≡ 34 → Proves rd Γ n (suc k)
  unfolding row if_eq
  at_34 e = let s = forms_1 rd formula (parts rd n) (known 34 _ e refl).shapes in done (tree rd s.0) s.1 (of_class_lem 5 _ s.2)
    where
      done : (P : Tree) → parts_of rd n ≡ P ∷ [] → IsFormula P → Proves rd Γ n (suc k)
      done P ep f =
          let q = known 34 (P ∷ []) e ep in
          let o = none_left q.number in
          rw o.1
          (Proves.Ax (node_is e ep o.0) f (all_closed _ q.fits _ (here refl)) (q.needs _ (here refl)) (q.needs _ (there (here refl))))

  at_35 : rd n 0 ≡ 35 → Proves rd Γ n (suc k)
  unfolding row if_eq first_of second_of
  at_35 e =
      let s = forms_1 rd (negated equation) (parts rd n) (known 35 _ e refl).shapes in
      let a = of_negated rd equation s.0 s.2 in
      let b = equal_made rd _ (of_kind_lem 20 _ a.1) in
      done _ _ (s.1 ∙ cons_same (a.0 ∙ ap (λ (t : Tree). ¬ᵗ t) b) refl)
    where
      done : (t u : Tree) → parts_of rd n ≡ ¬ᵗ (t =ᵗ u) ∷ [] → Proves rd Γ n (suc k)
      done t u eq =
          let f = (known 35 (¬ᵗ (t =ᵗ u) ∷ []) e eq).fits in
          let one : u ≡ t = sym (same_equal t u (both_parts _ _ f).1) in
          let ep : parts_of rd n ≡ ¬ᵗ (t =ᵗ t) ∷ [] = eq ∙ ap (λ (v : Tree). ¬ᵗ (t =ᵗ v) ∷ []) one in
          let q = known 35 (¬ᵗ (t =ᵗ t) ∷ []) e ep in
          let o = none_left q.number in
          rw o.1 (Proves.≠ (node_is e ep o.0) (all_closed _ (both_parts _ _ q.fits).0 _ (here refl)) (q.needs _ (here refl)))

  at_36 : rd n 0 ≡ 36 → Proves rd Γ n (suc k)
  unfolding row if_eq first_of second_of
  at_36 e =
      let s = forms_1 rd equation (parts rd n) (known 36 _ e refl).shapes in
      done _ _ (s.1 ∙ cons_same (equal_made rd s.0 (of_kind_lem 20 _ s.2)) refl)
    where
      done : (t u : Tree) → parts_of rd n ≡ (t =ᵗ u) ∷ [] → Proves rd Γ n (suc k)
      done t u ep =
          let q = known 36 ((t =ᵗ u) ∷ []) e ep in
          let o = none_left q.number in
          rw o.1
          (Proves.Sym (node_is e ep o.0) (all_closed _ q.fits _ (here refl)) (q.needs _ (here refl)) (q.needs _ (there (here refl))))

  at_37 : rd n 0 ≡ 37 → Proves rd Γ n (suc k)
  unfolding row if_eq
  at_37 e = let s = forms_1 rd formula (parts rd n) (known 37 _ e refl).shapes in done (tree rd s.0) s.1 (of_class_lem 5 _ s.2)
    where
      done : (P : Tree) → parts_of rd n ≡ P ∷ [] → IsFormula P → Proves rd Γ n (suc k)
      done P ep f =
          let q = known 37 (P ∷ []) e ep in
          let o = two_left 37 (P ∷ []) (P ∷ []) (¬ᵗ P ∷ []) e ep q.number refl refl in
          rw o.7
          (Proves.Cut (node_is e ep o.4) f (all_closed _ q.fits _ (here refl)) (q.room _ (here refl)) o.5 (q.room _ (there (here refl))) o.6)

  at_38 : rd n 0 ≡ 38 → Proves rd Γ n (suc k)
  unfolding row if_eq first_of
  at_38 e =
      let s = forms_1 rd (negated (negated formula)) (parts rd n) (known 38 _ e refl).shapes in
      let a = of_negated rd (negated formula) s.0 s.2 in
      let b = of_negated rd formula _ a.1 in
      done _ (s.1 ∙ cons_same (a.0 ∙ ap (λ (t : Tree). ¬ᵗ t) b.0) refl) (of_class_lem 5 _ b.1)
    where
      done : (P : Tree) → parts_of rd n ≡ ¬ᵗ (¬ᵗ P) ∷ [] → IsFormula P → Proves rd Γ n (suc k)
      done P ep f =
          let q = known 38 (¬ᵗ (¬ᵗ P) ∷ []) e ep in
          let o = one_left 38 (¬ᵗ (¬ᵗ P) ∷ []) (P ∷ []) e ep q.number refl in
          Proves.¬¬ (node_is e ep o.1) f (all_closed _ q.fits _ (here refl)) (q.needs _ (here refl)) (q.room _ (here refl)) o.2

  at_39 : rd n 0 ≡ 39 → Proves rd Γ n (suc k)
  unfolding row if_eq first_of second_of
  at_39 e =
      let s = forms_1 rd conjunction (parts rd n) (known 39 _ e refl).shapes in
      done _ _ (s.1 ∙ cons_same (and_made rd s.0 (of_kind_lem 16 _ s.2)) refl)
    where
      done : (P Q : Tree) → parts_of rd n ≡ (P ∧ᵗ Q) ∷ [] → Proves rd Γ n (suc k)
      done P Q ep =
          let q = known 39 ((P ∧ᵗ Q) ∷ []) e ep in
          let o = one_left 39 ((P ∧ᵗ Q) ∷ []) (P ∷ Q ∷ []) e ep q.number refl in
          let two = sym (two_added Γ P Q) in
          let rest = subst (λ (Δ : List Tree). Proves rd Δ o.0 k) two o.2 in
          Proves.∧ᴸ (node_is e ep o.1) (all_closed _ q.fits _ (here refl)) (q.needs _ (here refl)) (subst Fits two (q.room _ (here refl))) rest

  at_40 : rd n 0 ≡ 40 → Proves rd Γ n (suc k)
  unfolding row if_eq first_of second_of
  at_40 e =
      let s = forms_1 rd (negated implication) (parts rd n) (known 40 _ e refl).shapes in
      let a = of_negated rd implication s.0 s.2 in
      let b = implies_made rd _ (of_kind_lem 17 _ a.1) in
      done _ _ (s.1 ∙ cons_same (a.0 ∙ ap (λ (t : Tree). ¬ᵗ t) b) refl)
    where
      done : (P Q : Tree) → parts_of rd n ≡ ¬ᵗ (P ⇒ᵗ Q) ∷ [] → Proves rd Γ n (suc k)
      done P Q ep =
          let q = known 40 (¬ᵗ (P ⇒ᵗ Q) ∷ []) e ep in
          let o = one_left 40 (¬ᵗ (P ⇒ᵗ Q) ∷ []) (P ∷ ¬ᵗ Q ∷ []) e ep q.number refl in
          let two = sym (two_added Γ P (¬ᵗ Q)) in
          let rest = subst (λ (Δ : List Tree). Proves rd Δ o.0 k) two o.2 in
          Proves.¬⇒ (node_is e ep o.1) (all_closed _ q.fits _ (here refl)) (q.needs _ (here refl)) (subst Fits two (q.room _ (here refl))) rest

  at_41 : rd n 0 ≡ 41 → Proves rd Γ n (suc k)
  unfolding row if_eq first_of second_of
  at_41 e =
      let s = forms_1 rd implication (parts rd n) (known 41 _ e refl).shapes in
      done _ _ (s.1 ∙ cons_same (implies_made rd s.0 (of_kind_lem 17 _ s.2)) refl)
    where
      done : (P Q : Tree) → parts_of rd n ≡ (P ⇒ᵗ Q) ∷ [] → Proves rd Γ n (suc k)
      done P Q ep =
          let q = known 41 ((P ⇒ᵗ Q) ∷ []) e ep in
          let o = two_left 41 ((P ⇒ᵗ Q) ∷ []) (¬ᵗ P ∷ []) (Q ∷ []) e ep q.number refl refl in
          rw o.7
          (Proves.⇒ (node_is e ep o.4) (all_closed _ q.fits _ (here refl)) (q.needs _ (here refl))
          (q.room _ (here refl)) o.5 (q.room _ (there (here refl))) o.6)

  at_42 : rd n 0 ≡ 42 → Proves rd Γ n (suc k)
  unfolding row if_eq first_of second_of
  at_42 e =
      let s = forms_1 rd (negated conjunction) (parts rd n) (known 42 _ e refl).shapes in
      let a = of_negated rd conjunction s.0 s.2 in
      let b = and_made rd _ (of_kind_lem 16 _ a.1) in
      done _ _ (s.1 ∙ cons_same (a.0 ∙ ap (λ (t : Tree). ¬ᵗ t) b) refl)
    where
      done : (P Q : Tree) → parts_of rd n ≡ ¬ᵗ (P ∧ᵗ Q) ∷ [] → Proves rd Γ n (suc k)
      done P Q ep =
          let q = known 42 (¬ᵗ (P ∧ᵗ Q) ∷ []) e ep in
          let o = two_left 42 (¬ᵗ (P ∧ᵗ Q) ∷ []) (¬ᵗ P ∷ []) (¬ᵗ Q ∷ []) e ep q.number refl refl in
          rw o.7
          (Proves.¬∧ (node_is e ep o.4) (all_closed _ q.fits _ (here refl)) (q.needs _ (here refl))
          (q.room _ (here refl)) o.5 (q.room _ (there (here refl))) o.6)

  at_43 : rd n 0 ≡ 43 → Proves rd Γ n (suc k)
  unfolding row if_eq first_of second_of atom_of type_of
  at_43 e =
      let s = forms_3 rd (negated universal) constant formula (parts rd n) (known 43 _ e refl).shapes in
      let a = of_negated rd universal s.0 s.4 in
      let b = for_all_made rd _ (of_kind_lem 19 _ a.1) in
      let c = constant_made rd s.1 (of_kind_lem 7 _ s.5) in
      fit _ _ _ _ _ (s.3 ∙ cons_same (a.0 ∙ ap (λ (t : Tree). ¬ᵗ t) b) (cons_same c refl)) (of_class_lem 5 _ s.6)
    where
      done : (τ B : Tree) (c : ℕ) → parts_of rd n ≡ ¬ᵗ (∀ᵗ τ B) ∷ constantᵗ c τ ∷ replaced 0 (constantᵗ c τ) B ∷ [] →
          IsFormula (replaced 0 (constantᵗ c τ) B) → Proves rd Γ n (suc k)
      done τ B c ep f =
          let q = known 43 (¬ᵗ (∀ᵗ τ B) ∷ constantᵗ c τ ∷ replaced 0 (constantᵗ c τ) B ∷ []) e ep in
          let o = one_left 43 _ (¬ᵗ (replaced 0 (constantᵗ c τ) B) ∷ []) e ep q.number refl in
          let closed = all_closed _ (both_parts _ _ q.fits).0 in
          Proves.¬∀ (node_is e ep o.1) f (closed _ (here refl)) (closed _ (there (here refl))) (closed _ (there (there (here refl))))
          (q.needs _ (here refl)) (q.fresh c (here refl)) (q.room _ (here refl)) o.2

      fit : (τ B υ R : Tree) (c : ℕ) → parts_of rd n ≡ ¬ᵗ (∀ᵗ τ B) ∷ constantᵗ c υ ∷ R ∷ [] → IsFormula R → Proves rd Γ n (suc k)
      fit τ B υ R c eq f =
          let h = both_parts _ _ (both_parts _ _ (known 43 (¬ᵗ (∀ᵗ τ B) ∷ constantᵗ c υ ∷ R ∷ []) e eq).fits).1 in
          let one : υ ≡ τ = same_equal υ τ h.0 in
          let body : R ≡ replaced 0 (constantᵗ c τ) B = same_equal R _ h.1 ∙ ap (λ (t : Tree). replaced 0 (constantᵗ c t) B) one in
          done τ B c (eq ∙ cons_same refl (cons_same (ap (constantᵗ c) one) (cons_same body refl))) (subst IsFormula body f)

  at_44 : rd n 0 ≡ 44 → Proves rd Γ n (suc k)
  unfolding row if_eq first_of second_of
  at_44 e =
      let s = forms_3 rd universal term formula (parts rd n) (known 44 _ e refl).shapes in
      let b = for_all_made rd s.0 (of_kind_lem 19 _ s.4) in
      fit _ _ _ _ (s.3 ∙ cons_same b refl) (of_class_lem 4 _ s.5) (of_class_lem 5 _ s.6)
    where
      done : (τ B t : Tree) → parts_of rd n ≡ ∀ᵗ τ B ∷ t ∷ replaced 0 t B ∷ [] → IsTerm t → IsFormula (replaced 0 t B) → Proves rd Γ n (suc k)
      done τ B t ep i f =
          let q = known 44 (∀ᵗ τ B ∷ t ∷ replaced 0 t B ∷ []) e ep in
          let o = one_left 44 _ (replaced 0 t B ∷ []) e ep q.number refl in
          let h = both_parts _ _ q.fits in
          let closed = all_closed _ h.0 in
          Proves.∀ᴸ (node_is e ep o.1) i (same_equal (type_of t) τ (both_parts _ _ h.1).0) f
          (closed _ (here refl)) (closed _ (there (here refl))) (closed _ (there (there (here refl))))
          (q.needs _ (here refl)) (q.room _ (here refl)) o.2

      fit : (τ B t R : Tree) → parts_of rd n ≡ ∀ᵗ τ B ∷ t ∷ R ∷ [] → IsTerm t → IsFormula R → Proves rd Γ n (suc k)
      fit τ B t R eq i f =
          let h = both_parts _ _ (both_parts _ _ (known 44 (∀ᵗ τ B ∷ t ∷ R ∷ []) e eq).fits).1 in
          let body : R ≡ replaced 0 t B = same_equal R _ h.1 in
          done τ B t (eq ∙ cons_same refl (cons_same refl (cons_same body refl))) i (subst IsFormula body f)

  at_45 : rd n 0 ≡ 45 → Proves rd Γ n (suc k)
  unfolding row if_eq second_of atom_of
  at_45 e = let s = forms_45 rd _ (parts rd n) (known 45 _ e refl).shapes in fit s.0 s.1 s.2 s.3 s.4
    where
      done : (P : Tree) (τs : List Tree) → parts_of rd n ≡ for_typesᵗ (length τs) P ∷ instance τs P ∷ τs →
          Every IsType τs → IsFormula (instance τs P) → Proves rd Γ n (suc k)
      done P τs ep ts f =
          let q = known 45 (for_typesᵗ (length τs) P ∷ instance τs P ∷ τs) e ep in
          let o = one_left 45 _ (instance τs P ∷ []) e ep q.number refl in
          let closed = all_closed _ (both_parts _ _ q.fits).0 in
          Proves.∀type (node_is e ep o.1) ts f (λ τ m. closed τ (there m)) (closed _ (here refl))
          (q.needs _ (here refl)) (q.room _ (here refl)) o.2

      fit : (m : ℕ) (P R : Tree) (τs : List Tree) → parts_of rd n ≡ for_typesᵗ m P ∷ R ∷ τs → Proves rd Γ n (suc k)
      fit m P R τs eq =
          let q = known 45 (for_typesᵗ m P ∷ R ∷ τs) e eq in
          let s = forms_head formula _ R τs (forms_head for_all_types _ _ _ q.shapes).1 in
          let ts = forms_types m τs s.1 in
          let body : R ≡ instance τs P = same_equal R _ (both_parts _ _ q.fits).1 in
          let count : m ≡ length τs = sym ts.0 in
          done P τs (eq ∙ cons_same (ap (λ (i : ℕ). for_typesᵗ i P) count) (cons_same body refl)) ts.1 (subst IsFormula body (of_class_lem 5 R s.0))

  at_46 : rd n 0 ≡ 46 → Proves rd Γ n (suc k)
  unfolding row if_eq
  at_46 e =
      let s = forms_5 rd formula term term formula formula (parts rd n) (known 46 _ e refl).shapes in
      fit _ _ _ _ _ s.5 (of_class_lem 5 _ s.6) (of_class_lem 4 _ s.7) (of_class_lem 4 _ s.8) (of_class_lem 5 _ s.9) (of_class_lem 5 _ s.10)
    where
      done : (B t u : Tree) → parts_of rd n ≡ B ∷ t ∷ u ∷ replaced 0 t B ∷ replaced 0 u B ∷ [] → IsFormula B → IsTerm t → IsTerm u →
          IsFormula (replaced 0 t B) → IsFormula (replaced 0 u B) → Proves rd Γ n (suc k)
      done B t u ep fB it iu ft fu =
          let q = known 46 (B ∷ t ∷ u ∷ replaced 0 t B ∷ replaced 0 u B ∷ []) e ep in
          let o = two_left 46 _ (¬ᵗ (t =ᵗ u) ∷ []) (replaced 0 u B ∷ []) e ep q.number refl refl in
          let h = both_parts _ _ q.fits in
          let i = both_parts _ _ h.1 in
          let j = both_parts _ _ i.1 in
          let closed = all_closed _ i.0 in
          rw o.7
          (Proves.Subst (node_is e ep o.4) fB (indices_in 1 B h.0) it iu (same_equal _ _ j.0)
          (bears_in _ 0 B (both_parts _ _ j.1).0) (closed t (here refl)) (closed u (there (here refl)))
          ft (closed _ (there (there (here refl)))) fu (closed _ (there (there (there (here refl)))))
          (q.needs _ (here refl)) (q.room _ (here refl)) o.5 (q.room _ (there (here refl))) o.6)

      fit : (B t u R S : Tree) → parts_of rd n ≡ B ∷ t ∷ u ∷ R ∷ S ∷ [] → IsFormula B → IsTerm t → IsTerm u → IsFormula R → IsFormula S → Proves rd Γ n (suc k)
      fit B t u R S eq fB it iu fR fS =
          let h = (known 46 (B ∷ t ∷ u ∷ R ∷ S ∷ []) e eq).fits in
          let g = both_parts _ _ (both_parts _ _ (both_parts _ _ (both_parts _ _ (both_parts _ _ h).1).1).1).1 in
          let first : R ≡ replaced 0 t B = same_equal R _ g.0 in
          let second : S ≡ replaced 0 u B = same_equal S _ g.1 in
          let ep = eq ∙ ap (λ (ts : List Tree). B ∷ t ∷ u ∷ ts) (cons_same first (cons_same second refl)) in
          done B t u ep fB it iu (subst IsFormula first fR) (subst IsFormula second fS)

  rule : Proves rd Γ n (suc k)
  rule = by_kind (rd n 0) (parts_of rd n) p.fits at_32 at_33 at_34 at_35 at_36 at_37 at_38 at_39 at_40 at_41 at_42 at_43 at_44 at_45 at_46

-- `Proves` holds of a node without a fault, where it holds of the premises
pub proves_closed : (rd : Reader) → Inherited rd (node_fault rd) (premise_sequent rd) (Proves rd)
proves_closed rd Γ n k pos h each = rule rd Γ n k (passed_in rd Γ n h) each

-- a node of a proof is of a rule's kind
rule_of : {rd : Reader} {Γ : List Tree} {n k : ℕ} → Proves rd Γ n k → is_rule 1 (rd n 0) ≡ true
unfolding is_rule between if_eq if_lt
rule_of (Proves.⊥ o m) = ap (is_rule 1) o.kind
rule_of (Proves.¬⊤ o m) = ap (is_rule 1) o.kind
rule_of (Proves.Ax o f c m l) = ap (is_rule 1) o.kind
rule_of (Proves.≠ o c m) = ap (is_rule 1) o.kind
rule_of (Proves.Sym o c m l) = ap (is_rule 1) o.kind
rule_of (Proves.Cut o f c r d s e) = ap (is_rule 1) o.kind
rule_of (Proves.¬¬ o f c m r d) = ap (is_rule 1) o.kind
rule_of (Proves.∧ᴸ o c m r d) = ap (is_rule 1) o.kind
rule_of (Proves.¬⇒ o c m r d) = ap (is_rule 1) o.kind
rule_of (Proves.⇒ o c m r d s e) = ap (is_rule 1) o.kind
rule_of (Proves.¬∧ o c m r d s e) = ap (is_rule 1) o.kind
rule_of (Proves.¬∀ o f c i b m w r d) = ap (is_rule 1) o.kind
rule_of (Proves.∀ᴸ o i y f c t b m r d) = ap (is_rule 1) o.kind
rule_of (Proves.∀type o ts f cs c m r d) = ap (is_rule 1) o.kind
rule_of (Proves.Subst o f i t u y b ct cu ft bt fu bu m r d s e) = ap (is_rule 1) o.kind

-- Second way: from the facts of a rule to a node that passes. Record 0, a header, is no node.
module _ (rd : Reader) (head : rd 0 0 ≡ 1) where
  -- the walk from node n accepts the sequent Γ, with k nodes
  abbrev Walked : List Tree → ℕ → ℕ → Type 0
  Walked = Passes rd (node_fault rd) (premise_sequent rd)

  real : (n k : ℕ) → rd n 0 ≡ k → 32 ≤ k → 0 < n
  real zero k e h = absurd (omega arith)
  real (suc n) k e h = omega arith

  -- A node of kind j with parts ps that meets its row.
  module _ (Γ : List Tree) (n j : ℕ) (ps : List Tree) (low : 32 ≤ j) (forms : have_shapes (row j ps).shapes ps ≡ true)
      (needs : Every (λ t. t ∈ Γ) (row j ps).needs) (fits : (row j ps).fits ≡ true) (fresh : Every (λ c. Fresh c Γ) (row j ps).fresh)
      (room : Every (λ A. Fits (Γ ++ A)) (row j ps).adds) where
    faultless : (xs : List ℕ) → ProofNode rd n j ps xs → length xs ≡ length (row j ps).adds → every (λ x. is_rule 1 (rd x 0)) xs ≡ true → node_fault rd Γ n ≡ 0
    faultless xs o l rules =
        passed_out rd Γ n j ps o.kind o.parts_are
        (record {
          shapes = forms;
          number = ap length o.premises_are ∙ l;
          rules = ap (every (λ x. is_rule 1 (rd x 0))) o.premises_are ∙ rules;
          needs = needs;
          fits = fits;
          fresh = fresh;
          room = room;
        })

    pass_0 : ProofNode rd n j ps [] → (row j ps).adds ≡ [] → Walked Γ n 1
    unfolding every Each
    pass_0 o a =
        passes rd (node_fault rd) (premise_sequent rd) Γ n 0 (real n j o.kind low) (faultless [] o (sym (ap length a)) refl)
        (rw o.premises_are refl)

    pass_1 : (x k : ℕ) (A : List Tree) → ProofNode rd n j ps (x ∷ []) → (row j ps).adds ≡ A ∷ [] →
        is_rule 1 (rd x 0) ≡ true → Walked (Γ ++ A) x k → Walked Γ n (suc k)
    unfolding every
    pass_1 x k A o a r w =
        let next : premise_sequent rd Γ n 0 ≡ Γ ++ A = next_is rd Γ n j ps 0 o.kind o.parts_are ∙ ap (λ (adds : List (List Tree)). Γ ++ get_or adds 0 []) a in
        passes rd (node_fault rd) (premise_sequent rd) Γ n k (real n j o.kind low) (faultless (x ∷ []) o (sym (ap length a)) (simp (every, r)))
        (rw o.premises_are (one_each Walked (premise_sequent rd) Γ n x k (rw next w)))

    pass_2 : (x y k l : ℕ) (A B : List Tree) → ProofNode rd n j ps (x ∷ y ∷ []) → (row j ps).adds ≡ A ∷ B ∷ [] →
        is_rule 1 (rd x 0) ≡ true → is_rule 1 (rd y 0) ≡ true → Walked (Γ ++ A) x k → Walked (Γ ++ B) y l → Walked Γ n (suc (k + l))
    unfolding every
    pass_2 x y k l A B o a r s w v =
        let next : premise_sequent rd Γ n 0 ≡ Γ ++ A = next_is rd Γ n j ps 0 o.kind o.parts_are ∙ ap (λ (adds : List (List Tree)). Γ ++ get_or adds 0 []) a in
        let last : premise_sequent rd Γ n 1 ≡ Γ ++ B = next_is rd Γ n j ps 1 o.kind o.parts_are ∙ ap (λ (adds : List (List Tree)). Γ ++ get_or adds 1 []) a in
        passes rd (node_fault rd) (premise_sequent rd) Γ n (k + l) (real n j o.kind low)
        (faultless (x ∷ y ∷ []) o (sym (ap length a)) (simp (every, r, s)))
        (rw o.premises_are (two_each Walked (premise_sequent rd) Γ n x y k l (rw next w) (rw last v)))

  pub complete : {Γ : List Tree} {n k : ℕ} → Proves rd Γ n k → Walked Γ n k
  unfolding row if_eq first_of second_of atom_of type_of
  complete (Proves.⊥ {Γ = Γ} {n = n} o m) =
      pass_0 Γ n 32 [] (omega arith) no_forms (every_1 (λ t. t ∈ Γ) _ m) (closed_all [] (every_0 Closed)) (every_0 _) (every_0 _) o refl
  complete (Proves.¬⊤ {Γ = Γ} {n = n} o m) =
      pass_0 Γ n 33 [] (omega arith) no_forms (every_1 (λ t. t ∈ Γ) _ m) (closed_all [] (every_0 Closed)) (every_0 _) (every_0 _) o refl
  complete (Proves.Ax {Γ = Γ} {n = n} {P = P} o f c m l) =
      pass_0 Γ n 34 (P ∷ []) (omega arith) (one_form formula P (class_of 5 P f)) (every_2 (λ t. t ∈ Γ) _ _ m l) (closed_all (P ∷ []) (every_1 Closed P c))
      (every_0 _) (every_0 _) o refl
  complete (Proves.≠ {Γ = Γ} {n = n} {t = t} o c m) =
      pass_0 Γ n 35 (¬ᵗ (t =ᵗ t) ∷ []) (omega arith) (one_form (negated equation) (¬ᵗ (t =ᵗ t)) (negated_form equation (t =ᵗ t) (kind_form 20 0 t t leaf)))
      (every_1 (λ t. t ∈ Γ) _ m) (both_join _ _ (closed_all (¬ᵗ (t =ᵗ t) ∷ []) (every_1 Closed _ c)) (same_self t)) (every_0 _) (every_0 _) o refl
  complete (Proves.Sym {Γ = Γ} {n = n} {t = t} {u = u} o c m l) =
      pass_0 Γ n 36 ((t =ᵗ u) ∷ []) (omega arith) (one_form equation (t =ᵗ u) (kind_form 20 0 t u leaf))
      (every_2 (λ t. t ∈ Γ) _ _ m l) (closed_all ((t =ᵗ u) ∷ []) (every_1 Closed _ c)) (every_0 _) (every_0 _) o refl
  complete (Proves.Cut {Γ = Γ} {n = n} {x = x} {y = y} {k = k} {j = j} {P = P} o f c r d s e) =
      pass_2 Γ n 37 (P ∷ []) (omega arith) (one_form formula P (class_of 5 P f)) (every_0 _) (closed_all (P ∷ []) (every_1 Closed P c))
      (every_0 _) (every_2 (λ A. Fits (Γ ++ A)) _ _ r s) x y k j (P ∷ []) (¬ᵗ P ∷ []) o refl (rule_of d) (rule_of e) (complete d) (complete e)
  complete (Proves.¬¬ {Γ = Γ} {n = n} {x = x} {k = k} {P = P} o f c m r d) =
      pass_1 Γ n 38 (¬ᵗ (¬ᵗ P) ∷ []) (omega arith)
      (one_form (negated (negated formula)) (¬ᵗ (¬ᵗ P)) (negated_form (negated formula) (¬ᵗ P) (negated_form formula P (class_of 5 P f))))
      (every_1 (λ t. t ∈ Γ) _ m) (closed_all (¬ᵗ (¬ᵗ P) ∷ []) (every_1 Closed _ c))
      (every_0 _) (every_1 (λ A. Fits (Γ ++ A)) _ r) x k (P ∷ []) o refl (rule_of d) (complete d)
  complete (Proves.∧ᴸ {Γ = Γ} {n = n} {x = x} {k = k} {P = P} {Q = Q} o c m r d) =
      let two = two_added Γ P Q in
      pass_1 Γ n 39 ((P ∧ᵗ Q) ∷ []) (omega arith) (one_form conjunction (P ∧ᵗ Q) (kind_form 16 0 P Q leaf))
      (every_1 (λ t. t ∈ Γ) _ m) (closed_all ((P ∧ᵗ Q) ∷ []) (every_1 Closed _ c))
      (every_0 _) (every_1 (λ A. Fits (Γ ++ A)) _ (subst Fits two r)) x k (P ∷ Q ∷ []) o refl (rule_of d)
      (subst (λ (Δ : List Tree). Walked Δ x k) two (complete d))
  complete (Proves.¬⇒ {Γ = Γ} {n = n} {x = x} {k = k} {P = P} {Q = Q} o c m r d) =
      let two = two_added Γ P (¬ᵗ Q) in
      pass_1 Γ n 40 (¬ᵗ (P ⇒ᵗ Q) ∷ []) (omega arith)
      (one_form (negated implication) (¬ᵗ (P ⇒ᵗ Q)) (negated_form implication (P ⇒ᵗ Q) (kind_form 17 0 P Q leaf)))
      (every_1 (λ t. t ∈ Γ) _ m) (closed_all (¬ᵗ (P ⇒ᵗ Q) ∷ []) (every_1 Closed _ c))
      (every_0 _) (every_1 (λ A. Fits (Γ ++ A)) _ (subst Fits two r)) x k (P ∷ ¬ᵗ Q ∷ []) o refl (rule_of d)
      (subst (λ (Δ : List Tree). Walked Δ x k) two (complete d))
  complete (Proves.⇒ {Γ = Γ} {n = n} {x = x} {y = y} {k = k} {j = j} {P = P} {Q = Q} o c m r d s e) =
      pass_2 Γ n 41 ((P ⇒ᵗ Q) ∷ []) (omega arith) (one_form implication (P ⇒ᵗ Q) (kind_form 17 0 P Q leaf))
      (every_1 (λ t. t ∈ Γ) _ m) (closed_all ((P ⇒ᵗ Q) ∷ []) (every_1 Closed _ c))
      (every_0 _) (every_2 (λ A. Fits (Γ ++ A)) _ _ r s) x y k j (¬ᵗ P ∷ []) (Q ∷ []) o refl (rule_of d) (rule_of e) (complete d) (complete e)
  complete (Proves.¬∧ {Γ = Γ} {n = n} {x = x} {y = y} {k = k} {j = j} {P = P} {Q = Q} o c m r d s e) =
      pass_2 Γ n 42 (¬ᵗ (P ∧ᵗ Q) ∷ []) (omega arith)
      (one_form (negated conjunction) (¬ᵗ (P ∧ᵗ Q)) (negated_form conjunction (P ∧ᵗ Q) (kind_form 16 0 P Q leaf)))
      (every_1 (λ t. t ∈ Γ) _ m) (closed_all (¬ᵗ (P ∧ᵗ Q) ∷ []) (every_1 Closed _ c))
      (every_0 _) (every_2 (λ A. Fits (Γ ++ A)) _ _ r s) x y k j (¬ᵗ P ∷ []) (¬ᵗ Q ∷ []) o refl (rule_of d) (rule_of e) (complete d) (complete e)
  complete (Proves.¬∀ {Γ = Γ} {n = n} {x = x} {k = k} {c = c} {τ = τ} {B = B} o f h i b m w r d) =
      let R = replaced 0 (constantᵗ c τ) B in
      pass_1 Γ n 43 (¬ᵗ (∀ᵗ τ B) ∷ constantᵗ c τ ∷ R ∷ []) (omega arith)
      (more_forms (negated universal) _ _ _ (negated_form universal (∀ᵗ τ B) (kind_form 19 0 τ B leaf))
      (more_forms constant _ _ _ (kind_form 7 c τ leaf leaf) (one_form formula R (class_of 5 R f))))
      (every_1 (λ t. t ∈ Γ) _ m)
      (both_join _ _ (closed_all (¬ᵗ (∀ᵗ τ B) ∷ constantᵗ c τ ∷ R ∷ []) (every_more Closed _ _ h (every_2 Closed _ _ i b)))
      (both_join _ _ (same_self τ) (same_self R)))
      (every_1 (λ c. Fresh c Γ) c w) (every_1 (λ A. Fits (Γ ++ A)) _ r) x k (¬ᵗ R ∷ []) o refl (rule_of d) (complete d)
  complete (Proves.∀ᴸ {Γ = Γ} {n = n} {x = x} {k = k} {τ = τ} {B = B} {t = t} o i y f c h b m r d) =
      let R = replaced 0 t B in
      pass_1 Γ n 44 (∀ᵗ τ B ∷ t ∷ R ∷ []) (omega arith)
      (more_forms universal _ _ _ (kind_form 19 0 τ B leaf) (more_forms term _ _ _ (class_of 4 t i) (one_form formula R (class_of 5 R f))))
      (every_1 (λ t. t ∈ Γ) _ m)
      (both_join _ _ (closed_all (∀ᵗ τ B ∷ t ∷ R ∷ []) (every_more Closed _ _ c (every_2 Closed _ _ h b)))
      (both_join _ _ (rw y (same_self τ)) (same_self R)))
      (every_0 _) (every_1 (λ A. Fits (Γ ++ A)) _ r) x k (R ∷ []) o refl (rule_of d) (complete d)
  complete (Proves.∀type {Γ = Γ} {n = n} {x = x} {k = k} {P = P} {τs = τs} o ts f cs c m r d) =
      let R = instance τs P in
      pass_1 Γ n 45 (for_typesᵗ (length τs) P ∷ R ∷ τs) (omega arith)
      (more_forms for_all_types _ _ _ (kind_form 22 (length τs) leaf P leaf) (more_forms formula _ R τs (class_of 5 R f) (types_form τs ts)))
      (every_1 (λ t. t ∈ Γ) _ m)
      (both_join _ _ (closed_all (R ∷ τs) (every_more Closed R τs c cs)) (same_self R))
      (every_0 _) (every_1 (λ A. Fits (Γ ++ A)) _ r) x k (R ∷ []) o refl (rule_of d) (complete d)
  complete (Proves.Subst {Γ = Γ} {n = n} {x = x} {y = y} {k = k} {j = j} {B = B} {t = t} {u = u} o f i it iu ty b ct cu ft bt fu bu m r d s e) =
      let R = replaced 0 t B in
      let S = replaced 0 u B in
      pass_2 Γ n 46 (B ∷ t ∷ u ∷ R ∷ S ∷ []) (omega arith)
      (more_forms formula _ _ _ (class_of 5 B f) (more_forms term _ _ _ (class_of 4 t it) (more_forms term _ _ _ (class_of 4 u iu)
      (more_forms formula _ _ _ (class_of 5 R ft) (one_form formula S (class_of 5 S fu))))))
      (every_1 (λ t. t ∈ Γ) _ m)
      (both_join _ _ (indices_out i) (both_join _ _
      (closed_all (t ∷ u ∷ R ∷ S ∷ []) (every_more Closed _ _ ct (every_more Closed _ _ cu (every_2 Closed _ _ bt bu))))
      (both_join _ _ (rw ty (same_self (type_of u))) (both_join _ _ (bears_out b) (both_join _ _ (same_self R) (same_self S))))))
      (every_0 _) (every_2 (λ A. Fits (Γ ++ A)) _ _ r s) x y k j (¬ᵗ (t =ᵗ u) ∷ []) (S ∷ []) o refl (rule_of d) (rule_of e) (complete d) (complete e)
