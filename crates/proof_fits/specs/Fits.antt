-- What the rows say of the parts that fit, in the order in which the code tests it, and the ways out of that code.
use Rattle.std.specs.Prelude.{ℕ, ◌<◌, ◌≤◌, ◌≡◌, List, [], ◌∷◌, Bool, true, false, not, drop}
use Rattle.std.proofs.Math.Path.{refl}
use Rattle.std.proofs.Common.{◌∙◌, arith}
use borrow.Author.Tests.{not-true, not-false}
use Rattle.reader.specs.Words.{Reader}
use Rattle.reader.specs.Tests.{both, every, if_eq, if_lt}
use Rattle.reader.specs.Trees.{Tree, lower, child, tree, first_of, second_of, same}
use Rattle.reader.specs.Chains.{item_trees}
use Rattle.reader.specs.Variables.{replaced, bears, indices_below, is_closed, instance}
use Rattle.reader.specs.Typing.{type_of}
use Rattle.proof_rules.specs.Rules.{row}
use Rattle.reader.specs.Members.{part}
use Rattle.proof_rules.specs.RowLaws.{row_none, by_rule}
use Rattle.reader_chains.specs.Shapes.{first_tree, second_tree}
use Rattle.reader_chains.specs.Chains.{item_at, trees_zero, trees_step, trees_drop}
use Rattle.reader_types.specs.Types.{type_at, type_tree}
use Rattle.proof_references.specs.declared.References.{References}
use Rattle.proof_references.specs.References.{ReferencesAre}
use Rattle.proof_rows.specs.Paths.{step_tree, path_tree, path_record, part_tree, path_tree_lem}

-- ¬(t=t)
unfoldable pub equation : List Tree → Bool
equation ps = same (path_tree ps 5) (path_tree ps 6)

-- 43 and 44, with the ∀ as q
unfoldable pub quantified : List Tree → Tree → Bool
quantified ps q = both (same (type_of (part ps 1)) (first_of q)) (same (part ps 2) (replaced 0 (part ps 1) (second_of q)))

-- 45
unfoldable pub types_put : List Tree → Bool
types_put ps = same (part ps 1) (instance (drop 2 ps) (path_tree ps 8))

-- 46, in three steps
unfoldable pub replaced_parts : Reader → ℕ → ℕ → ℕ → ℕ → Bool
replaced_parts rd c body t u =
    both (same (tree rd (item_at rd c 3)) (replaced 0 (tree rd t) (tree rd body))) (same (tree rd (item_at rd c 4)) (replaced 0 (tree rd u) (tree rd body)))

unfoldable pub places : List Tree → Bool
places ps =
    both (same (type_of (part ps 1)) (type_of (part ps 2)))
    (both (bears 0 (type_of (part ps 1)) (part ps 0))
    (both (same (part ps 3) (replaced 0 (part ps 1) (part ps 0))) (same (part ps 4) (replaced 0 (part ps 2) (part ps 0)))))

unfoldable pub equality : List Tree → Bool
equality ps = both (indices_below 1 (part ps 0)) (places ps)

-- what a rule asks besides closedness
unfoldable pub further : ℕ → List Tree → Bool
further k ps =
    if_eq k 35 (equation ps)
    (if_lt k 43 true (if_eq k 43 (quantified ps (path_tree ps 4)) (if_eq k 44 (quantified ps (path_tree ps 0)) (if_eq k 45 (types_put ps) (equality ps)))))

-- the chain of the parts that rule k asks to be closed: all, or all but the first of 45 and 46
unfoldable pub closed_from : Reader → ℕ → ℕ → ℕ
closed_from rd k c = if_lt k 45 c (lower rd c 3)

closed_cons : (t : Tree) (ts : List Tree) → every is_closed (t ∷ ts) ≡ both (is_closed t) (every is_closed ts)
unfolding every both
closed_cons t ts = refl

-- The ways out of `are_closed`: what is left of the chain gives the answer.
module _ (rd : Reader) (c l : ℕ) (inv : every is_closed (item_trees rd c) ≡ every is_closed (item_trees rd l)) where
  pub closed_end : l ≡ 0 → true ≡ every is_closed (item_trees rd c)
  unfolding every
  closed_end h = rw (inv, h, trees_zero rd) refl

  module _ (given : l ≡ 0 → ⊥) (link : References) (is : ReferencesAre rd l link) (r : Bool) (er : r ≡ is_closed (tree rd link.first)) where
    pub closed_stop : not r ≡ true → false ≡ every is_closed (item_trees rd c)
    unfolding both
    closed_stop h = rw (inv, trees_step rd l (omega arith), closed_cons, ← is.first_is, ← er, not-true r h) refl

    pub closed_more : not r ≡ false → every is_closed (item_trees rd c) ≡ every is_closed (item_trees rd link.third)
    unfolding both
    closed_more h = rw (inv, trees_step rd l (omega arith), closed_cons, ← is.first_is, ← is.third_is, ← er, not-false r h) refl

drop_more : (l : List Tree) → drop 1 (drop 1 l) ≡ drop 2 l
drop_more [] = refl
drop_more (x ∷ []) = refl
drop_more (x ∷ y ∷ l) = refl

module _ (rd : Reader) (c : ℕ) (r : Bool) where
  pub equation_fits : (t u : ℕ) → t ≡ path_record rd c 5 → u ≡ path_record rd c 6 → r ≡ same (tree rd t) (tree rd u) → r ≡ equation (item_trees rd c)
  unfolding equation
  equation_fits t u et eu e = rw (path_tree_lem rd c 5, path_tree_lem rd c 6, ← et, ← eu) e

  pub quantified_fits : (p q t x wanted body own : ℕ) → q ≡ path_record rd c p → t ≡ item_at rd c 1 → x ≡ item_at rd c 2 →
      wanted ≡ child rd q 1 → body ≡ child rd q 2 → own ≡ type_at rd t →
      r ≡ both (same (tree rd own) (tree rd wanted)) (same (tree rd x) (replaced 0 (tree rd t) (tree rd body))) →
      r ≡ quantified (item_trees rd c) (path_tree (item_trees rd c) p)
  unfolding quantified
  quantified_fits p q t x wanted body own eq et ex ew eb eo e =
      rw (path_tree_lem rd c p, ← eq, first_tree rd q, second_tree rd q, part_tree rd c 1, part_tree rd c 2, ← et, ← ex, ← type_tree rd t, ← ew, ← eb, ← eo) e

  pub instance_fits : (rest formula x : ℕ) → rest ≡ lower rd c 3 → formula ≡ path_record rd c 8 → x ≡ item_at rd c 1 →
      r ≡ same (tree rd x) (instance (drop 1 (item_trees rd rest)) (tree rd formula)) → r ≡ types_put (item_trees rd c)
  unfolding types_put
  instance_fits rest formula x er ef ex e =
      rw (path_tree_lem rd c 8, part_tree rd c 1, ← ef, ← ex, ← drop_more (item_trees rd c), trees_drop rd c, ← er) e

  pub replaced_fits : (body t u a b : ℕ) → a ≡ item_at rd c 3 → b ≡ item_at rd c 4 →
      r ≡ both (same (tree rd a) (replaced 0 (tree rd t) (tree rd body))) (same (tree rd b) (replaced 0 (tree rd u) (tree rd body))) →
      r ≡ replaced_parts rd c body t u
  unfolding replaced_parts
  replaced_fits body t u a b ea eb e = rw (← ea, ← eb) e

  pub places_fit : (body t u p q : ℕ) → body ≡ item_at rd c 0 → t ≡ item_at rd c 1 → u ≡ item_at rd c 2 → p ≡ type_at rd t → q ≡ type_at rd u →
      r ≡ both (same (tree rd p) (tree rd q)) (both (bears 0 (tree rd p) (tree rd body)) (replaced_parts rd c body t u)) → r ≡ places (item_trees rd c)
  unfolding places replaced_parts
  places_fit body t u p q eb et eu ep eq e =
      rw (part_tree rd c 0, part_tree rd c 1, part_tree rd c 2, part_tree rd c 3, part_tree rd c 4, ← eb, ← et, ← eu, ← type_tree rd t, ← type_tree rd u, ← ep, ← eq) e

  pub equality_fits : (body : ℕ) → body ≡ item_at rd c 0 → r ≡ both (indices_below 1 (tree rd body)) (places (item_trees rd c)) → r ≡ equality (item_trees rd c)
  unfolding equality
  equality_fits body eb e = rw (part_tree rd c 0, ← eb) e

-- both of two tests, in either order, and with one that asks nothing
both_true : (b : Bool) → b ≡ both b true
unfolding both
both_true true = refl
both_true false = refl

both_turned : (a b d : Bool) → both a (both b d) ≡ both b (both a d)
unfolding both
both_turned true true d = refl
both_turned true false d = refl
both_turned false true d = refl
both_turned false false d = refl

-- closedness first, whatever the rule: none of those below 32 or past 46 fits
module _ (rd : Reader) (c : ℕ) where
  closed_rest : every is_closed (drop 1 (item_trees rd c)) ≡ every is_closed (item_trees rd (lower rd c 3))
  closed_rest = rw (trees_drop rd c) refl

  plain : every is_closed (item_trees rd c) ≡ both (every is_closed (item_trees rd c)) true
  plain = both_true (every is_closed (item_trees rd c))

  fits_are : (k : ℕ) → 32 ≤ k → k ≤ 46 → (row k (item_trees rd c)).fits ≡ both (every is_closed (item_trees rd (closed_from rd k c))) (further k (item_trees rd c))
  unfolding row if_eq if_lt further equation quantified types_put equality places path_tree step_tree closed_from
  fits_are =
      by_rule (λ k. 32 ≤ k → k ≤ 46 → (row k (item_trees rd c)).fits ≡ both (every is_closed (item_trees rd (closed_from rd k c))) (further k (item_trees rd c)))
      (λ l h. plain) (λ l h. plain) (λ l h. plain) (λ l h. refl) (λ l h. plain)
      (λ l h. plain) (λ l h. plain) (λ l h. plain) (λ l h. plain) (λ l h. plain)
      (λ l h. plain) (λ l h. refl) (λ l h. refl)
      (λ l h. rw closed_rest refl)
      (λ l h. both_turned (indices_below 1 (part (item_trees rd c) 0)) (every is_closed (drop 1 (item_trees rd c))) (places (item_trees rd c)) ∙ rw closed_rest refl)
      (λ k other l h. absurd (other k l h refl))

-- The ways out of `fits`.
module _ (rd : Reader) (k c : ℕ) where
  pub fits_low : k < 32 → false ≡ (row k (item_trees rd c)).fits
  fits_low h = rw (row_none k (item_trees rd c) (λ j low high e. omega arith)) refl

  module _ (low : 32 ≤ k) where
    pub fits_high : 46 < k → false ≡ (row k (item_trees rd c)).fits
    fits_high h = rw (row_none k (item_trees rd c) (λ j low high e. omega arith)) refl

    module _ (high : k ≤ 46) (d : ℕ) (ed : d ≡ closed_from rd k c) (r : Bool) (er : r ≡ every is_closed (item_trees rd d)) where
      pub fits_open : not r ≡ true → false ≡ (row k (item_trees rd c)).fits
      unfolding both
      fits_open h = rw (fits_are rd c k low high, ← ed, ← er, not-true r h) refl

      pub fits_more : not r ≡ false → (q : Bool) → q ≡ further k (item_trees rd c) → q ≡ (row k (item_trees rd c)).fits
      unfolding both
      fits_more h q e = rw (fits_are rd c k low high, ← ed, ← er, not-false r h) e
