-- The words of a block that passes are addresses below their own record: they fit 32 bits where the file's addresses do.
use Rattle.std.specs.Prelude.{ℕ, ◌+◌, ◌<◌, ◌≤◌, ◌≡◌, refl, List, Bool, true, false, ◌⊎◌, eqb, get_or, length}
use Rattle.std.proofs.Math.Logic.{inl, inr, ⊎_elim}
use Rattle.std.proofs.Common.{arith, eqb-true, ltb-true}
use Rattle.reader.specs.Words.{Reader}
use Rattle.reader.specs.Tests.{if_eq, between}
use Rattle.reader.specs.Kinds.{kinds}
use Rattle.reader.specs.Records.{wanted_class}
use Rattle.reader_laws.specs.Scan.{both_parts, either_parts}
use Rattle.reader_laws.specs.Classes.{all_below_lem}
use Rattle.translation_rules.specs.Templates.{Cell, none, part, inside, deeper, type_inside, bottom, own, conclusion, Line}
use Rattle.translation_rules.specs.Output.{Letters, value, no_line}
use Rattle.translation_records.specs.Fits.{Known, cell_class, is_none, is_chain, cell_fits, line_fits, lines_fit}
use Rattle.translation_records.specs.Lines.{Stands, chosen_less, chosen_equal, none_zero, sort_roles}
use Rattle.translation_records.specs.Blocks.{Passed}

-- a test selected by another holds: one of the two holds
chosen : (a b : ℕ) (x y : Bool) → if_eq a b x y ≡ true → (x ≡ true) ⊎ (y ≡ true)
unfolding if_eq
chosen a b x y h = go (eqb a b) h
  where
    go : (t : Bool) → ◌≡◌ {A = Bool} (elim t [ true ↦ x | false ↦ y ]) true → (x ≡ true) ⊎ (y ≡ true)
    go true e = inl e
    go false e = inr e

module _ (u : Known) (lines : List Line) (r : ℕ) (c : Cell) where
  abbrev Cases : Type 0
  Cases = (is_none c ≡ true) ⊎ (1 ≤ cell_class u lines r c)

  of_class_lem : (k : ℕ) → 1 ≤ k → eqb (cell_class u lines r c) k ≡ true → Cases
  of_class_lem k p e = let is : cell_class u lines r c ≡ k = eqb-true _ _ e in inr (omega arith)

  of_chain : is_chain u lines r c ≡ true → Cases
  unfolding is_chain
  of_chain h = either_parts (is_none c) _ h (λ e. inl e) (λ e. of_class_lem 1 (omega arith) e)

  wanted : (k : ℕ) → between 12 14 k ≡ true → 1 ≤ wanted_class k
  unfolding wanted_class
  wanted k h = sort_roles k h (λ e. rw e (omega arith)) (λ e. rw e (omega arith)) (λ e. rw e (omega arith))

  -- a cell that fits its role is none, or names something
  fits_cases : (k : ℕ) → cell_fits u lines r k c ≡ true → Cases
  unfolding cell_fits
  fits_cases k h =
      ⊎_elim (λ e. inl e)
      (λ h. ⊎_elim (λ e. inl e)
      (λ h. ⊎_elim of_chain
      (λ h. ⊎_elim (λ e. inr (ltb-true 0 _ e))
      (λ h. ⊎_elim of_chain (λ h. let p = both_parts _ _ h in of_class_lem (wanted_class k) (wanted k p.0) p.1) (chosen _ _ _ _ h)) (chosen _ _ _ _ h))
      (chosen _ _ _ _ h)) (chosen _ _ _ _ h)) (chosen _ _ _ _ h)

-- what it names stands below its own record
module _ (rd ro : Reader) (l : Letters) (u : Known) (stands : Stands rd ro l u) (lines : List Line) where
  class_below : (r : ℕ) (c : Cell) (k : ℕ) → cell_class u lines r c ≡ k → 1 ≤ k → value rd l c < l.base + r
  unfolding cell_class value
  class_below r none k e p = absurd (omega arith)
  class_below r (part j) k e p = omega (arith, (stands.of_part j k e p).smaller)
  class_below r (inside w) k e p = omega (arith, (stands.of_inside w k e p).smaller)
  class_below r deeper k e p = omega (arith, (stands.of_deeper k e p).smaller)
  class_below r type_inside k e p = omega (arith, (stands.of_type (chosen_equal u.outer kinds.equal 3 k e p).0).smaller)
  class_below r bottom k e p = omega (arith, stands.of_bottom.smaller)
  class_below r (own s) k e p = omega (arith, (chosen_less s r _ k e p).0)
  class_below r (conclusion j) k e p = omega (arith, (stands.of_conclusion j (chosen_less j u.premise_count 8 k e p).0).smaller)

  cell_below : (r k : ℕ) (c : Cell) → cell_fits u lines r k c ≡ true → value rd l c < l.base + r + 1
  cell_below r k c h =
      ⊎_elim (λ e. omega (arith, none_zero rd l c e)) (λ p. omega (arith, class_below r c _ refl p)) (fits_cases u lines r c k h)

-- the three words of a line
pub record WordsBelow (rd : Reader) (l : Letters) (x : Line) (most : ℕ) : Type 0 where
  pub first : value rd l x.first < most
  pub second : value rd l x.second < most
  pub third : value rd l x.third < most

pub passed_below : (rd ro : Reader) (l : Letters) (lines : List Line) → Passed rd ro l lines → (r : ℕ) → r < length lines →
    WordsBelow rd l (get_or lines r no_line) (l.base + r + 1)
unfolding lines_fit line_fits
passed_below rd ro l lines p r h =
    let own = all_below_lem (λ (o : ℕ). line_fits p.known lines o (get_or lines o no_line)) (length lines) p.pass r h in
    let a = both_parts _ _ (both_parts _ _ own).1 in
    let b = both_parts _ _ a.1 in
    let at = cell_below rd ro l p.known p.stands lines r in
    record { first = at _ _ a.0; second = at _ _ b.0; third = at _ _ b.1 }
