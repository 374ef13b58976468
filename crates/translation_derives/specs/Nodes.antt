-- Every node of a proof that proves a sequent has a block whose concluding node derives ⊥ from that sequent, types removed: one clause for each rule.
use Rattle.std.specs.Prelude.{ℕ, suc, ◌+◌, ◌-◌, ◌*◌, ◌<◌, ◌≤◌, ◌≡◌, List, [], ◌∷◌, map, true, get_or, length}
use Rattle.std.proofs.Math.Path.{refl, sym, ap}
use Rattle.std.proofs.Common.{subst, ◌∙◌, length-append, arith, eq-eqb}
use Rattle.std.proofs.lemmas.List.{length-map}
use Rattle.reader.specs.Words.{Reader}
use Rattle.reader.specs.Tests.{if_eq, if_lt, between}
use Rattle.reader.specs.Kinds.{class, is_rule}
use Rattle.reader.specs.Trees.{Tree, tree, kind_of, ⊥ᵗ, ⊤ᵗ, ◌∧ᵗ◌, ◌⇒ᵗ◌, ¬ᵗ◌, ∀ᵗ, ◌=ᵗ◌}
use Rattle.reader.specs.Chains.{parts, premises}
use Rattle.reader.specs.Places.{times_in}
use Rattle.reader.specs.Members.{◌▹◌}
use Rattle.reader.specs.Notions.{◌∈◌, IsFormula, IsTerm, ◌⟨◌⟩, NoIndex, Closed, Fresh, Occurs, here, there}
use Rattle.reader.specs.Variables.{instance}
use Rattle.reader_laws.specs.Record.{Sound}
use Rattle.derivation_rules.specs.Erase.{⌊◌⌋, bare_tree, ∀ᵇ, constantᵇ}
use Rattle.derivation_meaning.specs.Formulas.{Formula, OfLanguage}
use Rattle.derivation_meaning.specs.Derives.{Derives}
use Rattle.derivation_meaning.proofs.Instances.{instance_formula}
use Rattle.derivation_meaning.proofs.EraseLaws.{erase_false, erase_true, erase_and, erase_implies, erase_not, erase_all, erase_equal, erase_constant}
use Rattle.derivation_meaning.proofs.EraseLaws.{erase_for_all_types, indices_erase, occurs_erase, replaced_erase, formula_erase, term_erase}
use Rattle.reader_meaning.specs.Signs.{constantᵗ, for_typesᵗ}
use Rattle.proof_meaning.specs.Proves.{ProofNode, Fits, Proves}
use Rattle.translation_rules.specs.Templates.{template}
use Rattle.translation_rules.specs.Output.{Block, size, base_of, end_of, letters_of, Translated}
use Rattle.translation_addresses.proofs.Addresses.{size_rule, base_after, end_is, end_below}
use Rattle.translation_reached.specs.Reached.{proves_rule, premise_below}
use Rattle.translation_copies.specs.Outputs.{output_bottom}
use Rattle.translation_blocks.specs.Build.{Room}
use Rattle.translation_blocks.specs.Indices.{under_not}
use Rattle.translation_blocks.specs.Blocks.{block32, block33, block34, block35, block36, block37, block38, block39, block40, block41}
use Rattle.translation_blocks.specs.Quantified.{block42, block43, block44, block45, block46}
use Rattle.translation_derives.specs.Wholes.{Whole, whole_of, under_not as not-whole, left_of_and, right_of_and, left_formula, right_formula}
use Rattle.translation_derives.specs.Wholes.{implied_formula, under_types, right_of_implies, left_of_equal, right_of_equal, whole_bare, part_tree}
use Rattle.translation_derives.specs.Wholes.{part_within}
use Rattle.translation_derives.specs.Members.{member_bare, one_more, two_more, fresh_bare}

-- the first and the second of a node's premises are named by it
counted : (x : ℕ) → ◌≡◌ {A = ℕ} (if_eq x x 1 0) 1
unfolding if_eq
counted x = simp (if_eq, eq-eqb x x refl)

first_named : (x : ℕ) (xs ys : List ℕ) → xs ≡ x ∷ ys → 0 < times_in x xs
unfolding times_in
first_named x xs ys e = rw e (omega (arith, counted x))

second_named : (x y : ℕ) (xs ys : List ℕ) → xs ≡ x ∷ y ∷ ys → 0 < times_in y xs
unfolding times_in
second_named x y xs ys e = rw e (omega (arith, counted y))

module _ (rd ro : Reader) (m n root : ℕ) (tr : Translated rd ro m n root) (sound : (i : ℕ) → 1 ≤ i → i ≤ m + n → Sound 1 rd i)
    (range : (i : ℕ) → is_rule 1 (rd i 0) ≡ true → (m < i) × (i ≤ m + n)) (formed : OfLanguage rd) where
  -- a record of the proof, types removed, in the derivation
  bare_is : {q : ℕ} {X : Tree} → Whole rd (m + n) q X → bare_tree ro q ≡ ⌊ X ⌋
  bare_is w = whole_bare rd (m + n) sound ro tr.copies w

  -- The block of node i, of kind k.
  module _ (i k : ℕ) (ek : rd i 0 ≡ k) (rule : is_rule 1 k ≡ true) where
    is_rule_lem : is_rule 1 (rd i 0) ≡ true
    is_rule_lem = ap (is_rule 1) ek ∙ rule

    block : Block rd ro (letters_of rd m n i) (template k)
    block = subst (λ (j : ℕ). Block rd ro (letters_of rd m n i) (template j)) ek (tr.blocks i (range i is_rule_lem).0 (range i is_rule_lem).1 is_rule_lem)

    -- records of the files stand below it
    below : (q : ℕ) → q ≤ m + n → q < base_of rd m n i
    below q h = omega (arith, base_after rd m n i)

    own_below : i < base_of rd m n i
    own_below = below i (range i is_rule_lem).1

    -- its concluding node
    end_at : (o : ℕ) → length (template k) ≡ suc o → end_of rd m n i ≡ base_of rd m n i + o
    end_at o e =
        let s : size rd i ≡ length (template (rd i 0)) = (size_rule rd i is_rule_lem).0 in
        let l : length (template (rd i 0)) ≡ length (template k) = ap (λ (j : ℕ). length (template j)) ek in
        omega (arith, end_is rd m n i is_rule_lem)

    -- its own record is ⊥
    bottom : bare_tree ro i ≡ ⊥ᵗ
    unfolding bare_tree
    bottom = ap ⌊◌⌋ (output_bottom rd (m + n) ro tr.copies i (omega (arith, (range i is_rule_lem).0)) (range i is_rule_lem).1 is_rule_lem) ∙ erase_false

    -- the concluding node of a premise stands below it
    premise_end : (x : ℕ) → is_rule 1 (rd x 0) ≡ true → 0 < times_in x (premises rd i) → end_of rd m n x < base_of rd m n i
    premise_end x r h = end_below rd m n x i (range x r).0 (premise_below rd i x h) (range i is_rule_lem).1 r

    -- part j of the node, with its tree
    part_whole : {ps : List Tree} {xs : List ℕ} → ProofNode rd i k ps xs → (j : ℕ) (X : Tree) → get_or ps j (tree rd 0) ≡ X → 3 ≤ class (kind_of X) →
        Whole rd (m + n) (get_or (parts rd i) j 0) X
    part_whole o j X e c = whole_of rd (m + n) _ X (omega (arith, part_within rd i j, (range i is_rule_lem).1)) (part_tree o j ∙ e) c

    -- what derives at the block's last record derives at the block's end
    ended : {Γ : List Tree} {d j : ℕ} (o : ℕ) → length (template k) ≡ suc o → Derives ro Γ ⊥ᵗ d (base_of rd m n i + o) j →
        (c : ℕ) × Derives ro Γ ⊥ᵗ d (end_of rd m n i) c
    ended {Γ} {d} {j} o e p = (j, subst (λ (x : ℕ). Derives ro Γ ⊥ᵗ d x j) (sym (end_at o e)) p)

  -- the room below a node: each member that may still come leaves three levels
  abbrev Left : List Tree → ℕ → Type 0
  Left Γ d = (length Γ ≤ 1024) × (d + 3 * (1024 - length Γ) + 4 ≤ 8192)

  room : (Γ : List Tree) (d : ℕ) → Left Γ d → Room (map ⌊◌⌋ Γ) d
  room Γ d h = record { members = omega (arith, length-map Γ ⌊◌⌋); depth = omega arith }

  -- at most three levels deeper, with one member more, or two
  left_1 : (Γ : List Tree) (P : Tree) (d e : ℕ) → Left Γ d → Fits (Γ ▹ P) → e ≤ 3 → Left (Γ ▹ P) (d + e)
  left_1 Γ P d e h f l = omega (arith, length-append Γ (P ∷ []))

  left_2 : (Γ : List Tree) (P Q : Tree) (d e : ℕ) → Left Γ d → Fits (Γ ▹ P ▹ Q) → e ≤ 3 → Left (Γ ▹ P ▹ Q) (d + e)
  left_2 Γ P Q d e h f l = omega (arith, length-append Γ (P ∷ []), length-append (Γ ▹ P) (Q ∷ []))

  -- a premise's derivation, as the block names its sequent and its concluding node
  moved : {Γ Δ : List Tree} {d a b j : ℕ} → Γ ≡ Δ → a ≡ b → Derives ro Γ ⊥ᵗ d a j → Derives ro Δ ⊥ᵗ d b j
  moved {Δ = Δ} {d = d} {a = a} {j = j} e f p =
      subst (λ (x : ℕ). Derives ro Δ ⊥ᵗ d x j) f (subst (λ (Θ : List Tree). Derives ro Θ ⊥ᵗ d a j) e p)

  closed_bare : (X : Tree) {Y : Tree} → ⌊ X ⌋ ≡ Y → Closed X → NoIndex Y
  closed_bare X e c = subst NoIndex e (indices_erase c.no_index)

  formula_3 : (X : Tree) → IsFormula X → 3 ≤ class (kind_of X)
  formula_3 X f = omega (arith, f)

  term_3 : (X : Tree) → IsTerm X → 3 ≤ class (kind_of X)
  term_3 X f = omega (arith, f)

  -- premise 0 and premise 1 of a node
  module _ {i k x : ℕ} {ps : List Tree} {ys : List ℕ} (o : ProofNode rd i k ps (x ∷ ys)) where
    first_is : end_of rd m n x ≡ end_of rd m n (get_or (premises rd i) 0 0)
    first_is = ap (end_of rd m n) (sym (ap (λ (l : List ℕ). get_or l 0 0) o.premises_are))

    first_counted : 0 < times_in x (premises rd i)
    first_counted = first_named x (premises rd i) ys o.premises_are

  module _ {i k x y : ℕ} {ps : List Tree} (o : ProofNode rd i k ps (x ∷ y ∷ [])) where
    second_is : end_of rd m n y ≡ end_of rd m n (get_or (premises rd i) 1 0)
    second_is = ap (end_of rd m n) (sym (ap (λ (l : List ℕ). get_or l 1 0) o.premises_are))

    second_counted : 0 < times_in y (premises rd i)
    second_counted = second_named x y (premises rd i) [] o.premises_are

  -- where the concluding nodes of the premises stand, as the block names them
  module _ (i k : ℕ) (ek : rd i 0 ≡ k) (rule : is_rule 1 k ≡ true) {ps : List Tree} where
    first_below : {x : ℕ} {ys : List ℕ} → ProofNode rd i k ps (x ∷ ys) → is_rule 1 (rd x 0) ≡ true →
        end_of rd m n (get_or (premises rd i) 0 0) < base_of rd m n i
    first_below {x = x} o r = rw (← first_is o) (premise_end i k ek rule x r (first_counted o))

    second_below : {x y : ℕ} → ProofNode rd i k ps (x ∷ y ∷ []) → is_rule 1 (rd y 0) ≡ true →
        end_of rd m n (get_or (premises rd i) 1 0) < base_of rd m n i
    second_below {y = y} o r = rw (← second_is o) (premise_end i k ek rule y r (second_counted o))

  -- a constant that is in no member is not in the universal formula under a member's ¬
  fresh_universal : (c : ℕ) (τ B : Tree) (Γ : List Tree) → (¬ᵗ (∀ᵗ τ B)) ∈ Γ → Fresh c Γ → Fresh c (∀ᵇ ⌊ B ⌋ ∷ map ⌊◌⌋ Γ)
  fresh_universal c τ B Γ g f t (here e) s =
      f (¬ᵗ (∀ᵗ τ B)) g (Occurs.first (occurs_erase c (∀ᵗ τ B) (subst (Occurs c) (e ∙ sym (erase_all τ B)) s)))
  fresh_universal c τ B Γ g f t (there k) s = fresh_bare c Γ f t k s

  -- an instance differs from its formula in types only
  same_bare : (q : ℕ) (τs : List Tree) (P : Tree) → (tree rd q ≡ P) × IsFormula P → ⌊ instance τs P ⌋ ≡ ⌊ P ⌋
  unfolding bare_tree
  same_bare q τs P h =
      let is : bare_tree rd q ≡ ⌊ P ⌋ = ap ⌊◌⌋ h.0 in
      instance_formula τs P (subst (Formula rd) is (formed.formulas q (subst IsFormula (sym is) (formula_erase P h.1))))

  -- Node i proves Γ by k nodes: so the concluding node of its block derives ⊥ from Γ, types removed.
  pub derives : {Γ : List Tree} {i k : ℕ} → Proves rd Γ i k → (d : ℕ) → Left Γ d → (c : ℕ) × Derives ro (map ⌊◌⌋ Γ) ⊥ᵗ d (end_of rd m n i) c
  unfolding is_rule between if_eq if_lt template class kind_of
  derives {Γ} {i} (Proves.⊥ o g) d h =
      let l = letters_of rd m n i in
      ended i 32 o.kind refl 0 refl
      (block32 rd ro l (map ⌊◌⌋ Γ) d (block i 32 o.kind refl) (room Γ d h) (omega (arith, own_below i 32 o.kind refl)) (member_bare ⊥ᵗ erase_false g))
  derives {Γ} {i} (Proves.¬⊤ o g) d h =
      let l = letters_of rd m n i in
      ended i 33 o.kind refl 6 refl
      (block33 rd ro l (map ⌊◌⌋ Γ) d (block i 33 o.kind refl) (room Γ d h) (own_below i 33 o.kind refl) (bottom i 33 o.kind refl)
      (member_bare (¬ᵗ ⊤ᵗ) (erase_not ⊤ᵗ ∙ ap ¬ᵗ◌ erase_true) g))
  derives {Γ} {i} (Proves.Ax {P = P} o f c g e) d h =
      let l = letters_of rd m n i in
      let w = part_whole i 34 o.kind refl o 0 P refl (formula_3 P f) in
      ended i 34 o.kind refl 5 refl
      (block34 rd ro l (map ⌊◌⌋ Γ) d ⌊ P ⌋ (block i 34 o.kind refl) (room Γ d h) (below i 34 o.kind refl _ w.within) (bare_is w)
      (formula_erase P f) (closed_bare P refl c) (member_bare P refl g) (member_bare (¬ᵗ P) (erase_not P) e))
  derives {Γ} {i} (Proves.≠ {t = t} o c g) d h =
      let l = letters_of rd m n i in
      let it : ⌊ ¬ᵗ (t =ᵗ t) ⌋ ≡ ¬ᵗ (⌊ t ⌋ =ᵗ ⌊ t ⌋) = erase_not (t =ᵗ t) ∙ ap ¬ᵗ◌ (erase_equal t t) in
      let w = part_whole i 35 o.kind refl o 0 (¬ᵗ (t =ᵗ t)) refl (formula_3 (¬ᵗ (t =ᵗ t)) refl) in
      let v = not-whole rd (m + n) sound w in
      ended i 35 o.kind refl 5 refl
      (block35 rd ro l (map ⌊◌⌋ Γ) d ⌊ t ⌋ (block i 35 o.kind refl) (room Γ d h) (below i 35 o.kind refl _ v.within) (bare_is v ∙ erase_equal t t)
      (under_not (closed_bare (¬ᵗ (t =ᵗ t)) it c)) (member_bare (¬ᵗ (t =ᵗ t)) it g))
  derives {Γ} {i} (Proves.Sym {t = t} {u = u} o c g e) d h =
      let l = letters_of rd m n i in
      let w = part_whole i 36 o.kind refl o 0 (t =ᵗ u) refl (formula_3 (t =ᵗ u) refl) in
      let v = left_of_equal rd (m + n) sound w in
      let z = right_of_equal rd (m + n) sound w in
      let under = below i 36 o.kind refl in
      ended i 36 o.kind refl 16 refl
      (block36 rd ro l (map ⌊◌⌋ Γ) d ⌊ t ⌋ ⌊ u ⌋ (block i 36 o.kind refl) (room Γ d h)
      (under _ w.within, under _ v.within, under _ z.within) (bare_is w ∙ erase_equal t u) (bare_is v) (bare_is z)
      (closed_bare (t =ᵗ u) (erase_equal t u) c) (member_bare (t =ᵗ u) (erase_equal t u) g)
      (member_bare (¬ᵗ (u =ᵗ t)) (erase_not (u =ᵗ t) ∙ ap ¬ᵗ◌ (erase_equal u t)) e))
  derives {Γ} {i} (Proves.Cut {P = P} o f c r p s q) d h =
      let l = letters_of rd m n i in
      let w = part_whole i 37 o.kind refl o 0 P refl (formula_3 P f) in
      let a = derives p (d + 2) (left_1 Γ P d 2 h r (omega arith)) in
      let b = derives q (d + 1) (left_1 Γ (¬ᵗ P) d 1 h s (omega arith)) in
      ended i 37 o.kind refl 9 refl
      (block37 rd ro l (map ⌊◌⌋ Γ) d ⌊ P ⌋ a.0 b.0 (block i 37 o.kind refl) (room Γ d h)
      (own_below i 37 o.kind refl, below i 37 o.kind refl _ w.within, first_below i 37 o.kind refl o (proves_rule p), second_below i 37 o.kind refl o (proves_rule q))
      (bottom i 37 o.kind refl) (bare_is w) (closed_bare P refl c)
      (moved (one_more Γ P refl) (first_is o) a.1) (moved (one_more Γ (¬ᵗ P) (erase_not P)) (second_is o) b.1))
  derives {Γ} {i} (Proves.¬¬ {P = P} o f c g r p) d h =
      let l = letters_of rd m n i in
      let it : ⌊ ¬ᵗ (¬ᵗ P) ⌋ ≡ ¬ᵗ (¬ᵗ ⌊ P ⌋) = erase_not (¬ᵗ P) ∙ ap ¬ᵗ◌ (erase_not P) in
      let w = part_whole i 38 o.kind refl o 0 (¬ᵗ (¬ᵗ P)) refl (formula_3 (¬ᵗ (¬ᵗ P)) refl) in
      let v = not-whole rd (m + n) sound w in
      let z = not-whole rd (m + n) sound v in
      let a = derives p (d + 1) (left_1 Γ P d 1 h r (omega arith)) in
      let under = below i 38 o.kind refl in
      ended i 38 o.kind refl 9 refl
      (block38 rd ro l (map ⌊◌⌋ Γ) d ⌊ P ⌋ a.0 (block i 38 o.kind refl) (room Γ d h)
      (under _ v.within, under _ z.within, first_below i 38 o.kind refl o (proves_rule p)) (bare_is v ∙ erase_not P) (bare_is z)
      (formula_erase P f) (under_not (under_not (closed_bare (¬ᵗ (¬ᵗ P)) it c))) (member_bare (¬ᵗ (¬ᵗ P)) it g)
      (moved (one_more Γ P refl) (first_is o) a.1))
  derives {Γ} {i} (Proves.∧ᴸ {P = P} {Q = Q} o c g r p) d h =
      let l = letters_of rd m n i in
      let w = part_whole i 39 o.kind refl o 0 (P ∧ᵗ Q) refl (formula_3 (P ∧ᵗ Q) refl) in
      let v = left_of_and rd (m + n) sound w in
      let z = right_of_and rd (m + n) sound w in
      let a = derives p (d + 2) (left_2 Γ P Q d 2 h r (omega arith)) in
      let under = below i 39 o.kind refl in
      ended i 39 o.kind refl 14 refl
      (block39 rd ro l (map ⌊◌⌋ Γ) d ⌊ P ⌋ ⌊ Q ⌋ a.0 (block i 39 o.kind refl) (room Γ d h)
      (under _ w.within, under _ v.within, under _ z.within, first_below i 39 o.kind refl o (proves_rule p))
      (bare_is w ∙ erase_and P Q) (bare_is v) (bare_is z)
      (formula_erase P (left_formula rd (m + n) sound w)) (formula_erase Q (right_formula rd (m + n) sound w))
      (closed_bare (P ∧ᵗ Q) (erase_and P Q) c) (member_bare (P ∧ᵗ Q) (erase_and P Q) g) (moved (two_more Γ P Q refl refl) (first_is o) a.1))
  derives {Γ} {i} (Proves.¬⇒ {P = P} {Q = Q} o c g r p) d h =
      let l = letters_of rd m n i in
      let it : ⌊ ¬ᵗ (P ⇒ᵗ Q) ⌋ ≡ ¬ᵗ (⌊ P ⌋ ⇒ᵗ ⌊ Q ⌋) = erase_not (P ⇒ᵗ Q) ∙ ap ¬ᵗ◌ (erase_implies P Q) in
      let w = part_whole i 40 o.kind refl o 0 (¬ᵗ (P ⇒ᵗ Q)) refl (formula_3 (¬ᵗ (P ⇒ᵗ Q)) refl) in
      let v = not-whole rd (m + n) sound w in
      let a = derives p (d + 3) (left_2 Γ P (¬ᵗ Q) d 3 h r (omega arith)) in
      ended i 40 o.kind refl 15 refl
      (block40 rd ro l (map ⌊◌⌋ Γ) d ⌊ P ⌋ ⌊ Q ⌋ a.0 (block i 40 o.kind refl) (room Γ d h)
      (own_below i 40 o.kind refl, below i 40 o.kind refl _ v.within, first_below i 40 o.kind refl o (proves_rule p))
      (bottom i 40 o.kind refl) (bare_is v ∙ erase_implies P Q) (under_not (closed_bare (¬ᵗ (P ⇒ᵗ Q)) it c)) (member_bare (¬ᵗ (P ⇒ᵗ Q)) it g)
      (moved (two_more Γ P (¬ᵗ Q) refl (erase_not Q)) (first_is o) a.1))
  derives {Γ} {i} (Proves.⇒ {P = P} {Q = Q} o c g r p s q) d h =
      let l = letters_of rd m n i in
      let w = part_whole i 41 o.kind refl o 0 (P ⇒ᵗ Q) refl (formula_3 (P ⇒ᵗ Q) refl) in
      let z = right_of_implies rd (m + n) sound w in
      let a = derives p (d + 3) (left_1 Γ (¬ᵗ P) d 3 h r (omega arith)) in
      let b = derives q (d + 1) (left_1 Γ Q d 1 h s (omega arith)) in
      let under = below i 41 o.kind refl in
      ended i 41 o.kind refl 13 refl
      (block41 rd ro l (map ⌊◌⌋ Γ) d ⌊ P ⌋ ⌊ Q ⌋ a.0 b.0 (block i 41 o.kind refl) (room Γ d h) (
        own_below i 41 o.kind refl,
        under _ w.within,
        under _ z.within,
        first_below i 41 o.kind refl o (proves_rule p),
        second_below i 41 o.kind refl o (proves_rule q),
      )
      (bottom i 41 o.kind refl) (bare_is w ∙ erase_implies P Q) (bare_is z) (formula_erase Q (implied_formula rd (m + n) sound w))
      (closed_bare (P ⇒ᵗ Q) (erase_implies P Q) c) (member_bare (P ⇒ᵗ Q) (erase_implies P Q) g)
      (moved (one_more Γ (¬ᵗ P) (erase_not P)) (first_is o) a.1) (moved (one_more Γ Q refl) (second_is o) b.1))
  derives {Γ} {i} (Proves.¬∧ {P = P} {Q = Q} o c g r p s q) d h =
      let l = letters_of rd m n i in
      let it : ⌊ ¬ᵗ (P ∧ᵗ Q) ⌋ ≡ ¬ᵗ (⌊ P ⌋ ∧ᵗ ⌊ Q ⌋) = erase_not (P ∧ᵗ Q) ∙ ap ¬ᵗ◌ (erase_and P Q) in
      let w = part_whole i 42 o.kind refl o 0 (¬ᵗ (P ∧ᵗ Q)) refl (formula_3 (¬ᵗ (P ∧ᵗ Q)) refl) in
      let v = not-whole rd (m + n) sound w in
      let a = derives p (d + 3) (left_1 Γ (¬ᵗ P) d 3 h r (omega arith)) in
      let b = derives q (d + 3) (left_1 Γ (¬ᵗ Q) d 3 h s (omega arith)) in
      ended i 42 o.kind refl 20 refl
      (block42 rd ro l (map ⌊◌⌋ Γ) d ⌊ P ⌋ ⌊ Q ⌋ (block i 42 o.kind refl) (room Γ d h) (
        own_below i 42 o.kind refl,
        below i 42 o.kind refl _ v.within,
        first_below i 42 o.kind refl o (proves_rule p),
        second_below i 42 o.kind refl o (proves_rule q),
      )
      (bottom i 42 o.kind refl) (bare_is v ∙ erase_and P Q) (under_not (closed_bare (¬ᵗ (P ∧ᵗ Q)) it c)) (member_bare (¬ᵗ (P ∧ᵗ Q)) it g)
      (moved (one_more Γ (¬ᵗ P) (erase_not P)) (first_is o) a.1) (moved (one_more Γ (¬ᵗ Q) (erase_not Q)) (second_is o) b.1))
  derives {Γ} {i} (Proves.¬∀ {c = c} {τ = τ} {B = B} o f e s b g w r p) d h =
      let l = letters_of rd m n i in
      let C : Tree = constantᵗ c τ in
      let it : ⌊ ¬ᵗ (∀ᵗ τ B) ⌋ ≡ ¬ᵗ (∀ᵇ ⌊ B ⌋) = erase_not (∀ᵗ τ B) ∙ ap ¬ᵗ◌ (erase_all τ B) in
      let at : ⌊ B ⟨ C ⟩ ⌋ ≡ ⌊ B ⌋ ⟨ constantᵇ c ⟩ = replaced_erase 0 C B ∙ ap (λ (u : Tree). ⌊ B ⌋ ⟨ u ⟩) (erase_constant c τ) in
      let first = part_whole i 43 o.kind refl o 0 (¬ᵗ (∀ᵗ τ B)) refl (formula_3 (¬ᵗ (∀ᵗ τ B)) refl) in
      let v = not-whole rd (m + n) sound first in
      let x = part_whole i 43 o.kind refl o 1 C refl (term_3 C refl) in
      let z = part_whole i 43 o.kind refl o 2 (B ⟨ C ⟩) refl (formula_3 (B ⟨ C ⟩) f) in
      let a = derives p (d + 3) (left_1 Γ (¬ᵗ (B ⟨ C ⟩)) d 3 h r (omega arith)) in
      let under = below i 43 o.kind refl in
      ended i 43 o.kind refl 17 refl
      (block43 rd ro l (map ⌊◌⌋ Γ) d ⌊ B ⌋ c (block i 43 o.kind refl) (room Γ d h) (
        own_below i 43 o.kind refl,
        under _ v.within,
        under _ x.within,
        under _ z.within,
        first_below i 43 o.kind refl o (proves_rule p),
      )
      (bottom i 43 o.kind refl) (bare_is v ∙ erase_all τ B) (bare_is x ∙ erase_constant c τ) (bare_is z ∙ at)
      (under_not (closed_bare (¬ᵗ (∀ᵗ τ B)) it e)) (subst IsFormula at (formula_erase (B ⟨ C ⟩) f)) (closed_bare (B ⟨ C ⟩) at b)
      (fresh_universal c τ B Γ g w) (member_bare (¬ᵗ (∀ᵗ τ B)) it g)
      (moved (one_more Γ (¬ᵗ (B ⟨ C ⟩)) (erase_not (B ⟨ C ⟩) ∙ ap ¬ᵗ◌ at)) (first_is o) a.1))
  derives {Γ} {i} (Proves.∀ᴸ {τ = τ} {B = B} {t = t} o u y f c s b g r p) d h =
      let l = letters_of rd m n i in
      let at : ⌊ B ⟨ t ⟩ ⌋ ≡ ⌊ B ⌋ ⟨ ⌊ t ⌋ ⟩ = replaced_erase 0 t B in
      let v = part_whole i 44 o.kind refl o 0 (∀ᵗ τ B) refl (formula_3 (∀ᵗ τ B) refl) in
      let x = part_whole i 44 o.kind refl o 1 t refl (term_3 t u) in
      let z = part_whole i 44 o.kind refl o 2 (B ⟨ t ⟩) refl (formula_3 (B ⟨ t ⟩) f) in
      let a = derives p (d + 1) (left_1 Γ (B ⟨ t ⟩) d 1 h r (omega arith)) in
      let under = below i 44 o.kind refl in
      ended i 44 o.kind refl 8 refl
      (block44 rd ro l (map ⌊◌⌋ Γ) d ⌊ B ⌋ ⌊ t ⌋ (block i 44 o.kind refl) (room Γ d h)
      (under _ v.within, under _ x.within, under _ z.within, first_below i 44 o.kind refl o (proves_rule p))
      (bare_is v ∙ erase_all τ B) (bare_is x) (bare_is z ∙ at) (term_erase t u) (closed_bare (∀ᵗ τ B) (erase_all τ B) c) (closed_bare t refl s)
      (subst IsFormula at (formula_erase (B ⟨ t ⟩) f)) (closed_bare (B ⟨ t ⟩) at b) (member_bare (∀ᵗ τ B) (erase_all τ B) g)
      (moved (one_more Γ (B ⟨ t ⟩) at) (first_is o) a.1))
  derives {Γ} {i} (Proves.∀type {P = P} {τs = τs} o ts f cs c g r p) d h =
      let l = letters_of rd m n i in
      let H : Tree = for_typesᵗ (length τs) P in
      let J : Tree = instance τs P in
      let v = part_whole i 45 o.kind refl o 0 H refl (omega arith) in
      let x = part_whole i 45 o.kind refl o 1 J refl (formula_3 J f) in
      let it : ⌊ H ⌋ ≡ ⌊ J ⌋ = erase_for_all_types (length τs) P ∙ sym (same_bare _ τs P (under_types rd (m + n) sound v)) in
      let a = derives p (d + 1) (left_1 Γ J d 1 h r (omega arith)) in
      ended i 45 o.kind refl 4 refl
      (block45 rd ro l (map ⌊◌⌋ Γ) d ⌊ J ⌋ (block i 45 o.kind refl) (room Γ d h)
      (below i 45 o.kind refl _ x.within, first_below i 45 o.kind refl o (proves_rule p)) (bare_is x) (formula_erase J f) (closed_bare J refl c)
      (member_bare H it g) (moved (one_more Γ J refl) (first_is o) a.1))
  derives {Γ} {i} (Proves.Subst {B = B} {t = t} {u = u} o f z t-term u-term y b ct cu ft bt fu bu g r p s q) d h =
      let l = letters_of rd m n i in
      let at_t : ⌊ B ⟨ t ⟩ ⌋ ≡ ⌊ B ⌋ ⟨ ⌊ t ⌋ ⟩ = replaced_erase 0 t B in
      let at_u : ⌊ B ⟨ u ⟩ ⌋ ≡ ⌊ B ⌋ ⟨ ⌊ u ⌋ ⟩ = replaced_erase 0 u B in
      let w0 = part_whole i 46 o.kind refl o 0 B refl (formula_3 B f) in
      let w1 = part_whole i 46 o.kind refl o 1 t refl (term_3 t t-term) in
      let w2 = part_whole i 46 o.kind refl o 2 u refl (term_3 u u-term) in
      let w3 = part_whole i 46 o.kind refl o 3 (B ⟨ t ⟩) refl (formula_3 (B ⟨ t ⟩) ft) in
      let w4 = part_whole i 46 o.kind refl o 4 (B ⟨ u ⟩) refl (formula_3 (B ⟨ u ⟩) fu) in
      let a = derives p (d + 3) (left_1 Γ (¬ᵗ (t =ᵗ u)) d 3 h r (omega arith)) in
      let e = derives q (d + 1) (left_1 Γ (B ⟨ u ⟩) d 1 h s (omega arith)) in
      let under = below i 46 o.kind refl in
      ended i 46 o.kind refl 16 refl
      (block46 rd ro l (map ⌊◌⌋ Γ) d ⌊ B ⌋ ⌊ t ⌋ ⌊ u ⌋ (block i 46 o.kind refl) (room Γ d h) (
        own_below i 46 o.kind refl,
        under _ w0.within,
        under _ w1.within,
        under _ w2.within,
        under _ w3.within,
        under _ w4.within,
        first_below i 46 o.kind refl o (proves_rule p),
        second_below i 46 o.kind refl o (proves_rule q),
      )
      (bottom i 46 o.kind refl) (bare_is w0) (bare_is w1) (bare_is w2) (bare_is w3 ∙ at_t) (bare_is w4 ∙ at_u)
      (formula_erase B f) (indices_erase z) (closed_bare t refl ct) (closed_bare u refl cu)
      (subst IsFormula at_t (formula_erase (B ⟨ t ⟩) ft)) (closed_bare (B ⟨ t ⟩) at_t bt)
      (subst IsFormula at_u (formula_erase (B ⟨ u ⟩) fu)) (closed_bare (B ⟨ u ⟩) at_u bu) (member_bare (B ⟨ t ⟩) at_t g)
      (moved (one_more Γ (¬ᵗ (t =ᵗ u)) (erase_not (t =ᵗ u) ∙ ap ¬ᵗ◌ (erase_equal t u))) (first_is o) a.1)
      (moved (one_more Γ (B ⟨ u ⟩) at_u) (second_is o) e.1))
