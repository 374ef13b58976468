-- A pair of files that passed places 1 to 12: its formulas and terms, and the start of a derivation, are of the language without types.
use Prim.Native.Nat.{ℕ, ◌<◌}
use Rattle.std.specs.Prelude.{◌≡◌, true}
use Rattle.std.proofs.Math.Path.{sym, ap, subst}
use Rattle.std.proofs.Common.{◌∙◌}
use mathlib.Core.List.{List, [], ◌∷◌, map}
use Rattle.reader.specs.Words.{Reader}
use Rattle.reader.specs.Tests.{every}
use Rattle.reader.specs.Kinds.{class}
use Rattle.reader.specs.Trees.{Tree, tree, kind_of, first_of, ¬ᵗ◌}
use Rattle.reader.specs.Chains.{items, item_trees}
use Rattle.reader.specs.Places.{hypothesis_chain, hypotheses, negated_goal, goal, hypothesis_fits}
use Rattle.reader.specs.Notions.{Every, IndicesBelow, NoIndex}
use Rattle.reader_laws.specs.Scan.{every_head}
use Rattle.reader_laws.specs.Parts.{not_first}
use Rattle.reader_laws.specs.Classes.{class_of_kind}
use Rattle.reader_laws.specs.NotionLaws.{every_0, every_more, indices_in}
use Rattle.reader_laws.specs.File.{alone, beside, last_of, ReadObligation, ReadSecond, closed_parts, hypothesis_parts}
use Rattle.reader_laws.specs.Pair.{header_kind, beside_past, pair_sound, obligation_sound, obligation_tree, obligation_goal, goal_range}
use Rattle.reader_laws.specs.Pair.{pair_goal_range, pair_goal_kind, pair_goal_closed, pair_goal_tree, pair_hypotheses, pair_hypotheses_same}
use Rattle.derivation_rules.specs.Erase.{⌊◌⌋, bare_tree}
use Rattle.derivation_rules.specs.Check.{bare_hypotheses, bare_goal}
use Rattle.derivation_rules.specs.StartLaws.{bare_hypotheses_lem}
use Rattle.derivation_meaning.specs.Formulas.{Formula, OfLanguage}
use Rattle.derivation_meaning.specs.Derivable.{ClosedFormula}
use Rattle.derivation_meaning.proofs.EraseLaws.{indices_erase}
use Rattle.derivation_meaning.proofs.Formed.{tree_kind, of_language, formula_record, hypothesis_of}

-- the tree under a ¬ has no unbound index where the ¬ has none
under_not : {P : Tree} → NoIndex (¬ᵗ P) → NoIndex P
under_not (IndicesBelow.inside own p q r) = p

module _ (mode : ℕ) (ob second : List ℕ) (r : ReadObligation ob) (s : ReadSecond mode ob second) where
  abbrev rd : Reader
  rd = beside ob second

  past : (i : ℕ) → last_of ob second < i → rd i 0 ≡ 0
  past i h = beside_past mode ob second s i 0 h

  -- each formula and each term is one of the language
  pub files_formed : OfLanguage (beside ob second)
  files_formed = of_language mode rd (header_kind ob second r) (last_of ob second) (pair_sound mode ob second r s) past

  -- each hypothesis is a closed formula
  each_formed : (is : List ℕ) → every hypothesis_fits (map (tree rd) is) ≡ true → Every (ClosedFormula rd) (map (bare_tree rd) is)
  unfolding bare_tree
  each_formed [] h = every_0 (ClosedFormula rd)
  each_formed (i ∷ is) h =
      let head = every_head hypothesis_fits (tree rd i) (map (tree rd) is) h in
      let p = hypothesis_parts (tree rd i) head.0 in
      let f = hypothesis_of mode rd (header_kind ob second r) (last_of ob second) (pair_sound mode ob second r s) past i p.0 in
      every_more (ClosedFormula rd) (bare_tree rd i) (map (bare_tree rd) is)
      (record { formula = f; closed = indices_erase (indices_in 0 (tree rd i) p.1) }) (each_formed is head.1)

  pub hypotheses_formed : Every (ClosedFormula (beside ob second)) (bare_hypotheses (beside ob second))
  unfolding item_trees
  hypotheses_formed = rw (bare_hypotheses_lem rd) (each_formed (items rd (hypothesis_chain rd)) (pair_hypotheses mode ob second r s))

  -- and so is the goal
  pub goal_formed : ClosedFormula (beside ob second) (bare_goal (beside ob second))
  unfolding bare_goal first_of bare_tree
  goal_formed =
      let g : ℕ = negated_goal rd in
      let range = pair_goal_range mode ob second r s in
      let e : tree rd g ≡ ¬ᵗ (tree rd (rd g 1)) = pair_goal_tree mode ob second r s in
      let part = not_first 0 rd g (obligation_sound ob second r g range.0 range.1) (pair_goal_kind mode ob second r s) in
      let own : kind_of (tree rd (rd g 1)) ≡ rd (rd g 1) 0 = tree_kind rd (rd g 1) part.given in
      let class_5 : class (kind_of (tree rd (rd g 1))) ≡ 5 = ap class own ∙ sym (class_of_kind rd (rd g 1)) ∙ part.class in
      let f = formula_record mode rd (header_kind ob second r) (last_of ob second) (pair_sound mode ob second r s) past (rd g 1) class_5 in
      let closed : NoIndex (tree rd g) = indices_in 0 (tree rd g) (closed_parts (tree rd g) (pair_goal_closed mode ob second r s)).0 in
      let is : bare_goal rd ≡ ⌊ tree rd (rd g 1) ⌋ = ap (λ (t : Tree). ⌊ first_of t ⌋) e in
      record { formula = subst (Formula rd) (sym is) f; closed = subst NoIndex (sym is) (indices_erase (under_not (subst NoIndex e closed))) }

  -- The start of a derivation beside its obligation is that of the obligation by itself.

  pub hypotheses_alone : bare_hypotheses (beside ob second) ≡ map ⌊◌⌋ (hypotheses (alone ob))
  unfolding bare_hypotheses
  hypotheses_alone = ap (map ⌊◌⌋) (sym (pair_hypotheses_same mode ob second r s))

  pub goal_alone : bare_goal (beside ob second) ≡ ⌊ goal (alone ob) ⌋
  unfolding bare_goal
  goal_alone =
      let own = obligation_tree ob second (negated_goal (alone ob)) (goal_range ob r).1 in
      let named = ap (tree rd) (obligation_goal ob second) in
      ap (λ (t : Tree). ⌊ first_of t ⌋) (sym (own ∙ named))
