-- Every record of the blocks that the translation writes is without a fault.
use Rattle.std.specs.Prelude.{ℕ, zero, suc, ◌+◌, ◌<◌, ◌≤◌, ◌≡◌, List, [], ◌∷◌, true, get_or, length}
use Rattle.std.proofs.Math.Path.{refl}
use Rattle.std.proofs.Common.{sym, ap, subst, ◌∙◌, arith}
use Rattle.reader.specs.Words.{Reader}
use Rattle.reader.specs.Tests.{between, if_eq, if_lt}
use Rattle.reader.specs.Kinds.{class, is_rule}
use Rattle.reader.specs.Trees.{Tree, leaf, tree, kind_of, first_of, ⊥ᵗ}
use Rattle.reader_laws.specs.Record.{Sound}
use Rattle.proof_meaning.specs.Proves.{ProofNode, Proves}
use Rattle.translation_rules.specs.Templates.{Line, lines_of_start, template}
use Rattle.translation_rules.specs.Output.{Letters, Block, letters_of, letters_of_start, end_of, start_of}
use Rattle.translation_reached.specs.Reached.{proves_rule}
use Rattle.translation_records.specs.Fits.{Known, anyᶜ, lines_fit}
use Rattle.translation_records.specs.Pass.{known_of_start, known32, known34, known35, known36, known37, known38, known39, known40, known41, known42}
use Rattle.translation_records.specs.Pass.{known43, known44, known45, known46}
use Rattle.translation_records.specs.Pass.{pass_start, pass_32, pass_33, pass_34, pass_35, pass_36, pass_37, pass_38, pass_39, pass_40, pass_41, pass_42}
use Rattle.translation_records.specs.Pass.{pass_43, pass_44, pass_45, pass_46}
use Rattle.translation_records.specs.Lines.{Named, Stands, named_any, line_sound}
use Rattle.translation_records.specs.Addresses.{Addresses}
use Rattle.translation_records.specs.Letters.{Classes, Rules, bottom_named, stands}
use Rattle.translation_records.specs.Kept.{no_word}

-- a kind that no line of the template needs
unused : {A : Type 0} → 1 ≤ 0 → A
unused h = absurd (omega arith)

-- The lines of a block pass the test, and its letters stand for what is known of them.
pub record Passed (rd ro : Reader) (l : Letters) (lines : List Line) : Type 0 where
  pub known : Known
  pub stands : Stands rd ro l known
  pub pass : lines_fit known lines ≡ true

-- The blocks of the rule nodes of an accepted proof, and the start's block.
module _ (rd ro : Reader) (m n root : ℕ) (sound : (i : ℕ) → 1 ≤ i → i ≤ m + n → Sound 1 rd i)
    (kept : (i : ℕ) → i ≤ m + n → 3 ≤ class (rd i 0) → tree ro i ≡ tree rd i)
    (kept-class : (i : ℕ) → i ≤ m + n → 1 ≤ class (rd i 0) → class (ro i 0) ≡ class (rd i 0))
    (bottoms : (i : ℕ) → 1 ≤ i → i ≤ m + n → is_rule 1 (rd i 0) ≡ true → tree ro i ≡ ⊥ᵗ)
    (range : (i : ℕ) → is_rule 1 (rd i 0) ≡ true → (m < i) × (i ≤ m + n)) (root_rule : is_rule 1 (rd root 0) ≡ true)
    (addresses : Addresses rd m n) where
  -- a rule node's block, where the lines of its template pass and its letters stand for what is known of them
  rule_block : (u : Known) {i k : ℕ} {ts : List Tree} {xs : List ℕ} → ProofNode rd i k ts xs → is_rule 1 k ≡ true → lines_fit u (template k) ≡ true →
      Classes u.classes ts → (1 ≤ u.outer → kind_of (get_or ts 0 leaf) ≡ u.outer) →
      (1 ≤ u.inner → (u.outer ≡ 18) × (kind_of (first_of (get_or ts 0 leaf)) ≡ u.inner)) →
      u.premise_count ≡ length xs → Rules rd xs → Passed rd ro (letters_of rd m n i) (template (rd i 0))
  rule_block u {i} {k} {ts} {xs} node is pass classes outer inner count rules =
      let rule : is_rule 1 (rd i 0) ≡ true = ap (is_rule 1) node.kind ∙ is in
      let low : m < i = (range i rule).0 in
      let high : i ≤ m + n = (range i rule).1 in
      let bottom : tree ro i ≡ ⊥ᵗ = bottoms i (omega arith) high rule in
      record {
        known = u;
        stands = stands rd ro m n sound kept kept-class range addresses i low high bottom u
            ts node.parts_are classes outer inner xs node.premises_are count rules;
        pass = ap (λ (k : ℕ). lines_fit u (template k)) node.kind ∙ pass;
      }

  -- by the rule that the node is an instance of
  pub block_passed : {Γ : List Tree} {i j : ℕ} → Proves rd Γ i j → Passed rd ro (letters_of rd m n i) (template (rd i 0))
  unfolding template class kind_of first_of is_rule between if_eq if_lt
  block_passed (Proves.⊥ o m) = rule_block known32 o refl pass_32 tt unused unused refl tt
  block_passed (Proves.¬⊤ o m) = rule_block known32 o refl pass_33 tt unused unused refl tt
  block_passed (Proves.Ax o f c m l) = rule_block known34 o refl pass_34 (f, tt) unused unused refl tt
  block_passed (Proves.≠ o c m) = rule_block known35 o refl pass_35 (refl, tt) (λ _. refl) unused refl tt
  block_passed (Proves.Sym o c m l) = rule_block known36 o refl pass_36 (refl, tt) (λ _. refl) unused refl tt
  block_passed (Proves.Cut o f c r d s e) = rule_block known37 o refl pass_37 (f, tt) unused unused refl (proves_rule d, (proves_rule e, tt))
  block_passed (Proves.¬¬ o f c m r d) = rule_block known38 o refl pass_38 (refl, tt) (λ _. refl) (λ _. (refl, refl)) refl (proves_rule d, tt)
  block_passed (Proves.∧ᴸ o c m r d) = rule_block known39 o refl pass_39 (refl, tt) (λ _. refl) unused refl (proves_rule d, tt)
  block_passed (Proves.¬⇒ o c m r d) = rule_block known40 o refl pass_40 (refl, tt) (λ _. refl) unused refl (proves_rule d, tt)
  block_passed (Proves.⇒ o c m r d s e) = rule_block known41 o refl pass_41 (refl, tt) (λ _. refl) unused refl (proves_rule d, (proves_rule e, tt))
  block_passed (Proves.¬∧ o c m r d s e) = rule_block known42 o refl pass_42 (refl, tt) (λ _. refl) unused refl (proves_rule d, (proves_rule e, tt))
  block_passed (Proves.¬∀ o f c i b m w r d) = rule_block known43 o refl pass_43 (refl, (refl, (f, tt))) (λ _. refl) unused refl (proves_rule d, tt)
  block_passed (Proves.∀ᴸ o i y f c t b m r d) = rule_block known44 o refl pass_44 (refl, (i, (f, tt))) unused unused refl (proves_rule d, tt)
  block_passed (Proves.∀type o ts f cs c m r d) = rule_block known45 o refl pass_45 (refl, (f, tt)) unused unused refl (proves_rule d, tt)
  block_passed (Proves.Subst o f i t u y b ct cu ft bt fu bu m r d s e) =
      rule_block known46 o refl pass_46 (f, (t, (u, (ft, (fu, tt))))) unused unused refl (proves_rule d, (proves_rule e, tt))

  -- The start's block: its letters are the root and the root's concluding node.
  start_stands : Stands rd ro (letters_of_start rd m n root) known_of_start
  start_stands =
      let low : m < root = (range root root_rule).0 in
      let high : root ≤ m + n = (range root root_rule).1 in
      let past : m + n < end_of rd m n root = addresses.end_past root root_rule in
      let before : end_of rd m n root < start_of rd m n = addresses.end_start root low high root_rule in
      record {
        base = omega arith;
        of_part = λ j c e h. absurd (omega arith);
        of_inside = λ w c e h. absurd (omega (arith, no_word w));
        of_deeper = λ c e h. absurd (omega (arith, no_word 1));
        of_type = λ e. absurd (omega arith);
        of_bottom = bottom_named ro (start_of rd m n) root (omega arith) (omega arith) (bottoms root (omega arith) high root_rule);
        of_conclusion = λ j h.
            subst (λ (x : ℕ). Named ro (start_of rd m n) anyᶜ (end_of rd m n x)) (sym (only_premise j h))
            (named_any ro (start_of rd m n) (end_of rd m n root) (omega arith) before);
      }
    where
      only_premise : (j : ℕ) → j < 1 → get_or (root ∷ []) j 0 ≡ root
      only_premise zero h = refl
      only_premise (suc j) h = absurd (omega arith)

  pub start_passed : Passed rd ro (letters_of_start rd m n root) lines_of_start
  start_passed = record { known = known_of_start; stands = start_stands; pass = pass_start }

-- a block that passes has no fault
pub passed_sound : (rd ro : Reader) (l : Letters) (lines : List Line) → Passed rd ro l lines → Block rd ro l lines → (o : ℕ) → o < length lines →
    Sound 2 ro (l.base + o)
passed_sound rd ro l lines p block o less = line_sound rd ro l p.known p.stands lines block p.pass o less
