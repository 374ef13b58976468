-- What the rule nodes of a block name: some of the block's own records, and the concluding nodes of its premises.
use Prim.Native.Nat.{ℕ, zero, suc, ◌+◌, ◌<◌, ◌≤◌}
use Rattle.std.specs.Prelude.{◌≡◌, Bool, get_or}
use Rattle.std.proofs.Math.Path.{refl, ap}
use Rattle.std.proofs.Common.{◌∙◌}
use mathlib.Core.List.{List, [], ◌∷◌, ◌++◌, map, map-append}
use Rattle.std.proofs.Math.Bool.{true, false}
use Rattle.std.proofs.lemmas.Bool.{false≢true}
use Rattle.std.proofs.Math.Dec.{ltb}
use Rattle.std.proofs.Math.ListN.{length}
use native.Mathlib.Omega.{arith}
use borrow.Author.Tests.{ltb-true}
use Rattle.reader.specs.Words.{Reader}
use Rattle.reader.specs.Tests.{both, every, if_eq, if_true}
use Rattle.reader.specs.Kinds.{is_rule}
use Rattle.reader.specs.Trees.{lower}
use Rattle.reader.specs.Chains.{items, premises}
use Rattle.reader.specs.Places.{times_in, namings}
use Rattle.reader.specs.TreeLaws.{items_zero, items_step}
use Rattle.reader_laws.specs.Scan.{both_parts, every_head, when_less}
use Rattle.reader_laws.specs.Named.{names_of, names_rule}
use Rattle.translation_rules.specs.Templates.{Cell, Line}
use Rattle.translation_rules.specs.Output.{Letters, value, line_word, Block}
use Rattle.translation_named.specs.Cells.{line_at, choose, chain_from, node_cells, cells_to, cells_of, owns_in, premises_in, counting}
use Rattle.translation_named.specs.Cells.{fits_item, fits_chain, is_inner, Sound, choose_cases}

-- how often the rule nodes among the c records from `base` on name r
unfoldable pub span : Reader → ℕ → ℕ → ℕ → ℕ
span ro r base zero = 0
span ro r base (suc c) = span ro r base c + names_of 2 ro (base + c) r

-- how often a block with these lines at `base` names r as one of its own records
abbrev pub owned : List Line → ℕ → ℕ → ℕ
owned lines base r = times_in r (map (λ s. base + s) (owns_in (cells_of lines)))

-- the names by records 1 to b + c are those by records 1 to b and by the c records after them
pub names_split : (ro : Reader) (r b c : ℕ) → namings 2 ro r (b + c) ≡ namings 2 ro r b + span ro r (b + 1) c
unfolding namings names_of span
names_split ro r b zero = let same : b + 0 ≡ b = omega arith in rw same (omega arith)
names_split ro r b (suc c) =
    let same : b + suc c ≡ suc (b + c) = omega arith in
    let here : b + 1 + c ≡ suc (b + c) = omega arith in
    let rest = names_split ro r b c in
    rw (same, here) (omega arith)

-- Counts in lists.
pub times_append : (r : ℕ) (xs ys : List ℕ) → times_in r (xs ++ ys) ≡ times_in r xs + times_in r ys
unfolding times_in
times_append r [] ys = omega arith
times_append r (x ∷ xs) ys = let rest = times_append r xs ys in omega arith

counting_shift : (g : ℕ → ℕ) (at n : ℕ) → map g (counting (suc at) n) ≡ map (λ j. g (suc j)) (counting at n)
unfolding counting
counting_shift g at zero = refl
counting_shift g at (suc n) = ap {B = List ℕ} (λ xs. g (suc at) ∷ xs) (counting_shift g (suc at) n)

-- the elements of a list by their places
by_places : (f : ℕ → ℕ) (xs : List ℕ) → map (λ j. f (get_or xs j 0)) (counting 0 (length xs)) ≡ map f xs
unfolding counting
by_places f [] = refl
by_places f (x ∷ xs) =
    ap {B = List ℕ} (λ ys. f x ∷ ys) (counting_shift (λ j. f (get_or (x ∷ xs) j 0)) 0 (length xs) ∙ by_places f xs)

-- word w of a record, where it refers to a smaller one
lower_is : (ro : Reader) (i w v : ℕ) → ro i w ≡ v → v < i → lower ro i w ≡ v
unfolding lower
lower_is ro i w v e h = when_less (ro i w) 0 (ro i w) i (omega arith) ∙ e

-- A block stands where its letters say, and the concluding nodes of its premises stand before it.
pub record Placed (rd ro : Reader) (l : Letters) (lines : List Line) : Type 0 where
  pub holds : Block rd ro l lines
  pub sound : Sound lines (length l.premises_of)
  pub given : 0 < l.base
  pub below : (j : ℕ) → j < length l.premises_of → l.ends (get_or l.premises_of j 0) < l.base

module _ (rd ro : Reader) (l : Letters) (lines : List Line) (p : Placed rd ro l lines) where
  abbrev arity : ℕ
  arity = length l.premises_of

  abbrev line : ℕ → Line
  line r = line_at lines r

  -- the words of a record of the block
  pub kind_is : (r : ℕ) → r < length lines → ro (l.base + r) 0 ≡ (line_at lines r).kind
  unfolding line_word if_eq
  kind_is r h = p.holds r 0 h

  first_is : (r : ℕ) → r < length lines → ro (l.base + r) 1 ≡ value rd l (line r).first
  unfolding line_word if_eq
  first_is r h = p.holds r 1 h

  second_is : (r : ℕ) → r < length lines → ro (l.base + r) 2 ≡ value rd l (line r).second
  unfolding line_word if_eq
  second_is r h = p.holds r 2 h

  third_is : (r : ℕ) → r < length lines → ro (l.base + r) 3 ≡ value rd l (line r).third
  unfolding line_word if_eq
  third_is r h = p.holds r 3 h

  item_below : (r : ℕ) (c : Cell) → fits_item arity r c ≡ true → value rd l c < l.base + r
  unfolding fits_item value
  item_below r c h =
      choose_cases (λ c. value rd l c < l.base + r) c (λ s. ltb s r) (λ j. ltb j arity) false h
      (λ s e. let less = ltb-true s r e in omega arith)
      (λ j e. let less = p.below j (ltb-true j arity e) in omega arith)
      (λ e. absurd (false≢true e))

  -- the items of a chain that record `top` names by its word w
  chain_is : (fuel top w : ℕ) (c : Cell) → top < length lines → ro (l.base + top) w ≡ value rd l c → fits_chain lines arity fuel top c ≡ true →
      items ro (lower ro (l.base + top) w) ≡ map (value rd l) (chain_from lines fuel c)
  unfolding fits_chain chain_from value choose
  chain_is zero top w c t e h = absurd (false≢true h)
  chain_is (suc fuel) top w c t e h =
      choose_cases (λ c. ro (l.base + top) w ≡ value rd l c → items ro (lower ro (l.base + top) w) ≡ map (value rd l) (chain_from lines (suc fuel) c)) c
      (λ r. both (ltb r top) (both (fits_item arity r (line r).first) (fits_chain lines arity fuel r (line r).third))) (λ j. false) true h
      (λ r f e. linked r f e (λ u q v. chain_is fuel r 3 (line r).third u q v))
      (λ j f. absurd (false≢true f))
      (λ f e. let given = p.given in ap (items ro) (lower_is ro (l.base + top) w 0 e (omega arith)) ∙ items_zero ro) e
    where
      -- the first link, and the chain after it
      linked : (r : ℕ) → both (ltb r top) (both (fits_item arity r (line r).first) (fits_chain lines arity fuel r (line r).third)) ≡ true →
          ro (l.base + top) w ≡ l.base + r →
          (r < length lines → ro (l.base + r) 3 ≡ value rd l (line r).third → fits_chain lines arity fuel r (line r).third ≡ true →
          items ro (lower ro (l.base + r) 3) ≡ map (value rd l) (chain_from lines fuel (line r).third)) →
          items ro (lower ro (l.base + top) w) ≡ value rd l (line r).first ∷ map (value rd l) (chain_from lines fuel (line r).third)
      linked r f e rest =
          let a = both_parts (ltb r top) _ f in
          let b = both_parts (fits_item arity r (line r).first) _ a.1 in
          let less : r < top = ltb-true r top a.0 in
          let given = p.given in
          let inside : r < length lines = omega arith in
          ap (items ro) (lower_is ro (l.base + top) w (l.base + r) e (omega arith))
          ∙ items_step ro (l.base + r) (omega arith)
          ∙ ap (λ x. x ∷ items ro (lower ro (l.base + r) 3))
          (lower_is ro (l.base + r) 1 (value rd l (line r).first) (first_is r inside) (item_below r (line r).first b.0))
          ∙ ap {B = List ℕ} (λ xs. value rd l (line r).first ∷ xs) (rest inside (third_is r inside) b.1)

  -- how often cells stand for r
  abbrev times : ℕ → List Cell → ℕ
  times r cs = times_in r (map (value rd l) cs)

  -- what record o of the block names
  node_names : (r o : ℕ) → o < length lines → names_of 2 ro (l.base + o) r ≡ times r (node_cells lines o)
  unfolding node_cells names_of premises times_in if_true
  node_names r o h = go (is_rule 2 (line o).kind) refl
    where
      kind : (b : Bool) → is_rule 2 (line o).kind ≡ b → is_rule 2 (ro (l.base + o) 0) ≡ b
      kind b e = ap (is_rule 2) (kind_is o h) ∙ e

      go : (b : Bool) → is_rule 2 (line o).kind ≡ b →
          names_of 2 ro (l.base + o) r ≡ times r (if_true b (chain_from lines (length lines) (line o).second) [])
      go true e =
          names_rule 2 ro (l.base + o) r (kind true e)
          ∙ ap (times_in r) (chain_is (length lines) o 2 (line o).second h (second_is o h) (p.sound.fits o h e))
      go false e = simp (names_of, kind false e)

  -- what its first c records name
  part_names : (r c : ℕ) → c ≤ length lines → span ro r l.base c ≡ times r (cells_to lines c)
  unfolding span cells_to times_in
  part_names r zero h = refl
  part_names r (suc c) h =
      let rest : span ro r l.base c ≡ times r (cells_to lines c) = part_names r c (omega arith) in
      let here : names_of 2 ro (l.base + c) r ≡ times r (node_cells lines c) = node_names r c h in
      let both : times r (cells_to lines c ++ node_cells lines c) ≡ times r (cells_to lines c) + times r (node_cells lines c) =
      ap (times_in r) (map-append (value rd l) (cells_to lines c) (node_cells lines c))
      ∙ times_append r (map (value rd l) (cells_to lines c)) (map (value rd l) (node_cells lines c)) in
      omega arith

  -- the block's own records and its premises, counted each for themselves
  counted_apart : (r size : ℕ) (cs : List Cell) → every (is_inner size) cs ≡ true →
      times r cs ≡ times_in r (map (λ s. l.base + s) (owns_in cs)) + times_in r (map (λ j. l.ends (get_or l.premises_of j 0)) (premises_in cs))
  unfolding times_in owns_in premises_in is_inner choose value
  counted_apart r size [] h = refl
  counted_apart r size (c ∷ cs) h =
      let test = every_head (is_inner size) c cs h in
      let rest = counted_apart r size cs test.1 in
      choose_cases
      (λ c. times r (c ∷ cs)
      ≡ times_in r (map (λ s. l.base + s) (owns_in (c ∷ cs))) + times_in r (map (λ j. l.ends (get_or l.premises_of j 0)) (premises_in (c ∷ cs)))) c
      (λ s. ltb (s + 1) size) (λ j. true) false test.0 (λ s e. omega arith) (λ j e. omega arith) (λ e. absurd (false≢true e))

  -- what the whole block names
  pub block_names : (r : ℕ) → span ro r l.base (length lines) ≡ owned lines l.base r + times_in r (map l.ends l.premises_of)
  block_names r =
      part_names r (length lines) (omega arith) ∙ counted_apart r (length lines) (cells_of lines) p.sound.inner
      ∙ ap (λ ys. owned lines l.base r + times_in r ys)
      (ap (map (λ j. l.ends (get_or l.premises_of j 0))) p.sound.premised ∙ by_places l.ends l.premises_of)
