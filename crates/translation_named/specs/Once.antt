-- Each rule node of the written derivation is named exactly once, where each of the proof's is. A concluding node is named as often as the proof's node,
-- by the blocks of the nodes that name it and by the start; any other rule node is named by its own block alone.
use Prim.Native.Nat.{ℕ, zero, suc, ◌+◌, ◌-◌, ◌<◌, ◌≤◌}
use Rattle.std.specs.Prelude.{◌≡◌, refl, [], ◌∷◌, map, Bool, true, false, ◌⊎◌, eqb, ltb, get_or, length}
use Rattle.std.proofs.Common.{sym, ◌∙◌, subst, inl, inr, eqb-true, ltb-true, ltb-false}
use Rattle.std.proofs.Math.Path.{ap}
use Rattle.std.proofs.lemmas.Bool.{false≢true, eqb-false}
use native.Mathlib.Omega.{arith}
use Rattle.reader.specs.Words.{Reader}
use Rattle.reader.specs.Tests.{if_eq}
use Rattle.reader.specs.Kinds.{is_rule}
use Rattle.reader.specs.Chains.{premises}
use Rattle.reader.specs.Places.{times_in, namings}
use Rattle.reader_laws.specs.Scan.{when_equal, when_different}
use Rattle.reader_laws.specs.Named.{names_of, names_rule}
use Rattle.reader_laws.specs.Sums.{sum_to, sum_same, sum_none}
use Rattle.translation_rules.specs.Templates.{template, lines_of_start}
use Rattle.translation_rules.specs.Output.{size, before, base_of, end_of, start_of, written, letters_of, letters_of_start, Translated}
use Rattle.translation_named.specs.Cells.{arity_of, line_at, cells_of, owns_in, Sound, template_sound, start_sound}
use Rattle.translation_named.specs.Blocks.{span, owned, names_split, Placed, kind_is, block_names}
use Rattle.translation_named.specs.Addresses.{InBlock, InStart, size_rule, size_none, size_some}
use Rattle.translation_named.specs.Addresses.{base_is, base_after, base_grows, base_start, end_is, locate}
use Rattle.translation_named.specs.Counts.{same_test, times_image, times_none, owns_none, times_shift, sum_only, names_none, names_of_none, names_sum}

module _ (rd ro : Reader) (m n root : ℕ) (tr : Translated rd ro m n root)
    -- copied records are no rule nodes of a derivation
    (rule_free : (i : ℕ) → i ≤ m + n → is_rule 2 (ro i 0) ≡ false)
    -- the proof's rule nodes stand after the obligation, and its root is one
    (range : (i : ℕ) → is_rule 1 (rd i 0) ≡ true → (m < i) × (i ≤ m + n))
    (root_rule : is_rule 1 (rd root 0) ≡ true)
    -- each has the premises that its rule asks, which are smaller rule nodes
    (arity : (i : ℕ) → is_rule 1 (rd i 0) ≡ true → length (premises rd i) ≡ arity_of (rd i 0))
    (premise-rules : (i a : ℕ) → is_rule 1 (rd i 0) ≡ true → a < length (premises rd i) →
    (is_rule 1 (rd (get_or (premises rd i) a 0) 0) ≡ true) × (get_or (premises rd i) a 0 < i)) where
  -- how often the block of record i names r
  abbrev by_block : ℕ → ℕ → ℕ
  by_block r i = span ro r (base_of rd m n i) (size rd i)

  -- how often the start's block names r as one of its own records
  abbrev by_start : ℕ → ℕ
  by_start r = owned lines_of_start (start_of rd m n) r

  -- Addresses.

  -- the concluding node of a smaller rule node stands before a block
  end_below : (x i : ℕ) → is_rule 1 (rd x 0) ≡ true → x < i → end_of rd m n x < base_of rd m n i
  end_below x i rule h = omega (arith, base_grows rd m n x i (range x rule).0 h, end_is rd m n x rule)

  end_start : (x : ℕ) → is_rule 1 (rd x 0) ≡ true → end_of rd m n x < start_of rd m n
  end_start x rule = omega (arith, base_start rd m n x (range x rule).0 (range x rule).1, end_is rd m n x rule)

  -- a record stands at one place of one block
  one_place : (i j o s : ℕ) → is_rule 1 (rd i 0) ≡ true → is_rule 1 (rd j 0) ≡ true → o < size rd i → s < size rd j →
      base_of rd m n i + o ≡ base_of rd m n j + s → (i ≡ j) × (o ≡ s)
  one_place i j o s ri rj p q e = go (eqb i j) refl (ltb i j) refl
    where
      go : (t : Bool) → eqb i j ≡ t → (u : Bool) → ltb i j ≡ u → (i ≡ j) × (o ≡ s)
      go true h u l =
          let same : i ≡ j = eqb-true i j h in
          let base : base_of rd m n i ≡ base_of rd m n j = ap (base_of rd m n) same in
          (same, omega arith)
      go false h true l = absurd (omega (arith, base_grows rd m n i j (range i ri).0 (ltb-true i j l)))
      go false h false l =
          let other = eqb-false i j h in
          let most = ltb-false i j l in
          absurd (omega (arith, base_grows rd m n j i (range j rj).0 (omega arith)))

  -- the place of a concluding node
  end_place : (i : ℕ) → is_rule 1 (rd i 0) ≡ true → end_of rd m n i ≡ base_of rd m n i + (size rd i - 1)
  end_place i rule = let some = size_some rd i rule in let e = end_is rd m n i rule in omega arith

  -- a record of a block that is some concluding node is the block's last
  end_inside : (i x o : ℕ) → is_rule 1 (rd i 0) ≡ true → is_rule 1 (rd x 0) ≡ true → o < size rd i → base_of rd m n i + o ≡ end_of rd m n x →
      (i ≡ x) × (o ≡ size rd x - 1)
  end_inside i x o ri rx p e =
      let some = size_some rd x rx in one_place i x o (size rd x - 1) ri rx p (omega arith) (e ∙ end_place x rx)

  -- Blocks.

  placed : (i : ℕ) → is_rule 1 (rd i 0) ≡ true → Placed rd ro (letters_of rd m n i) (template (rd i 0))
  placed i rule = record {
    holds = tr.blocks i (range i rule).0 (range i rule).1 rule;
    sound = subst (Sound (template (rd i 0))) (sym (arity i rule)) (template_sound (rd i 0) rule);
    given = omega (arith, base_after rd m n i);
    below = λ a h. let x = premise-rules i a rule h in end_below (get_or (premises rd i) a 0) i x.0 x.1;
  }

  start_placed : Placed rd ro (letters_of_start rd m n root) lines_of_start
  start_placed = record {
    holds = tr.start;
    sound = start_sound;
    given = omega (arith, end_start root root_rule);
    below = at;
  }
    where
      at : (a : ℕ) → a < 1 → end_of rd m n (get_or (root ∷ []) a 0) < start_of rd m n
      at zero h = end_start root root_rule
      at (suc a) h = absurd (omega arith)

  -- what the block of record i names
  block_count : (r i : ℕ) → is_rule 1 (rd i 0) ≡ true →
      by_block r i ≡ owned (template (rd i 0)) (base_of rd m n i) r + times_in r (map (end_of rd m n) (premises rd i))
  block_count r i rule =
      ap (span ro r (base_of rd m n i)) (size_rule rd i rule) ∙ block_names rd ro (letters_of rd m n i) (template (rd i 0)) (placed i rule) r

  -- what the start's block names
  start_count : (r : ℕ) → span ro r (start_of rd m n) 5 ≡ by_start r + if_eq (end_of rd m n root) r 1 0
  unfolding times_in
  start_count r = block_names rd ro (letters_of_start rd m n root) lines_of_start start_placed r ∙ omega arith

  -- Sums.

  -- the names by copied records, which are none, and by the blocks of records m + 1 to m + c
  blocks_sum : (r c : ℕ) → namings 2 ro r (m + n + before rd m c) ≡ sum_to (λ k. by_block r (m + k)) c
  unfolding before sum_to
  blocks_sum r zero = let same : m + n + 0 ≡ m + n = omega arith in rw same (names_none 2 ro r (m + n) rule_free)
  blocks_sum r (suc c) =
      let same : m + n + (before rd m c + size rd (m + suc c)) ≡ m + n + before rd m c + size rd (m + suc c) = omega arith in
      let at : m + n + before rd m c + 1 ≡ base_of rd m n (m + suc c) = omega (arith, base_is rd m n c) in
      let here : span ro r (m + n + before rd m c + 1) (size rd (m + suc c)) ≡ span ro r (base_of rd m n (m + suc c)) (size rd (m + suc c)) =
      ap (λ (b : ℕ). span ro r b (size rd (m + suc c))) at in
      let rest = blocks_sum r c in
      rw same (names_split ro r (m + n + before rd m c) (size rd (m + suc c)) ∙ omega arith)

  -- all names by blocks, and those by the start
  pub all_names : (r : ℕ) → namings 2 ro r (m + written rd m n) ≡ sum_to (λ k. by_block r (m + k)) n + span ro r (start_of rd m n) 5
  unfolding written start_of
  all_names r =
      let same : m + (n + before rd m n + 5) ≡ m + n + before rd m n + 5 = omega arith in
      let at : m + n + before rd m n + 1 ≡ m + n + 1 + before rd m n = omega arith in
      let here : span ro r (m + n + before rd m n + 1) 5 ≡ span ro r (m + n + 1 + before rd m n) 5 = ap (λ (b : ℕ). span ro r b 5) at in
      let rest = blocks_sum r n in
      ap (namings 2 ro r) same ∙ names_split ro r (m + n + before rd m n) 5 ∙ omega arith

  -- a record that is no rule node has no block
  block_empty : (r j : ℕ) → is_rule 1 (rd j 0) ≡ false → by_block r j ≡ 0
  unfolding span
  block_empty r j none = ap (span ro r (base_of rd m n j)) (size_none rd j none)

  -- Concluding nodes.

  -- two concluding nodes are one only if their proof nodes are
  end_injective : (x i : ℕ) → is_rule 1 (rd x 0) ≡ true → is_rule 1 (rd i 0) ≡ true → end_of rd m n x ≡ end_of rd m n i → x ≡ i
  end_injective x i rx ri e = let some = size_some rd x rx in (end_inside x i (size rd x - 1) rx ri (omega arith) (sym (end_place x rx) ∙ e)).0

  -- the block of record j names a concluding node where record j names its proof node
  end_block : (i j : ℕ) → is_rule 1 (rd i 0) ≡ true → by_block (end_of rd m n i) j ≡ names_of 1 rd j i
  end_block i j ri = go (is_rule 1 (rd j 0)) refl
    where
      go : (b : Bool) → is_rule 1 (rd j 0) ≡ b → by_block (end_of rd m n i) j ≡ names_of 1 rd j i
      go false rj = block_empty (end_of rd m n i) j rj ∙ sym (names_of_none 1 rd j i rj)
      go true rj =
          let length_is : size rd j ≡ length (template (rd j 0)) = size_rule rd j rj in
          let owns : owned (template (rd j 0)) (base_of rd m n j) (end_of rd m n i) ≡ 0 =
          owns_none (λ s. base_of rd m n j + s) (end_of rd m n i) (length (template (rd j 0))) (cells_of (template (rd j 0))) (template_sound (rd j 0) rj).inner
          (λ s h e.
          let z = end_inside j i s rj ri (omega arith) e in
          let same : size rd j ≡ size rd i = ap (size rd) z.0 in
          let last : s ≡ size rd i - 1 = z.1 in
          absurd (omega arith)) in
          let named : times_in (end_of rd m n i) (map (end_of rd m n) (premises rd j)) ≡ times_in i (premises rd j) =
          times_image (end_of rd m n) (end_of rd m n i) i (premises rd j)
          (λ a p e. end_injective (get_or (premises rd j) a 0) i (premise-rules j a rj p).0 ri e) refl in
          let input : names_of 1 rd j i ≡ times_in i (premises rd j) = names_rule 1 rd j i rj in
          block_count (end_of rd m n i) j rj ∙ omega arith

  -- the start's own records, its concluding node among them, stand in no block
  start_owns : (r : ℕ) → r < start_of rd m n → by_start r ≡ 0
  start_owns r h = owns_none (λ s. start_of rd m n + s) r 5 (cells_of lines_of_start) start_sound.inner (λ s p e. absurd (omega arith))

  start_other : (r : ℕ) → r < start_of rd m n → if_eq {A = ℕ} (start_of rd m n + 4) r 1 0 ≡ 0
  start_other r h = when_different 1 0 (start_of rd m n + 4) r (λ e. absurd (omega arith))

  -- the names of the proof's rule nodes, which stand after the obligation
  input_names : (i : ℕ) → namings 1 rd i (m + n) ≡ sum_to (λ k. names_of 1 rd (m + k) i) n
  input_names i =
      let none : namings 1 rd i m ≡ 0 = names_none 1 rd i m (λ j p. no_rule j p (is_rule 1 (rd j 0)) refl) in
      names_sum 1 rd i m n ∙ omega arith
    where
      no_rule : (j : ℕ) → j ≤ m → (b : Bool) → is_rule 1 (rd j 0) ≡ b → is_rule 1 (rd j 0) ≡ false
      no_rule j p true e = absurd (omega (arith, (range j e).0))
      no_rule j p false e = e

  -- a concluding node is named as often as its proof node
  pub end_named : (i : ℕ) → is_rule 1 (rd i 0) ≡ true →
      if_eq (start_of rd m n + 4) (end_of rd m n i) 1 0 + namings 2 ro (end_of rd m n i) (m + written rd m n) ≡ if_eq root i 1 0 + namings 1 rd i (m + n)
  end_named i rule =
      let header : if_eq {A = ℕ} (start_of rd m n + 4) (end_of rd m n i) 1 0 ≡ 0 = start_other (end_of rd m n i) (end_start i rule) in
      let owns : by_start (end_of rd m n i) ≡ 0 = start_owns (end_of rd m n i) (end_start i rule) in
      let top : if_eq {A = ℕ} (end_of rd m n root) (end_of rd m n i) 1 0 ≡ if_eq root i 1 0 =
      same_test (end_of rd m n root) (end_of rd m n i) root i (end_injective root i root_rule rule) (ap (end_of rd m n)) in
      let blocks : sum_to (λ k. by_block (end_of rd m n i) (m + k)) n ≡ sum_to (λ k. names_of 1 rd (m + k) i) n =
      sum_same (λ k. by_block (end_of rd m n i) (m + k)) (λ k. names_of 1 rd (m + k) i) n (λ k p q. end_block i (m + k) rule) in
      omega (arith, all_names (end_of rd m n i), start_count (end_of rd m n i), input_names i)

  -- Rule nodes inside a block.
  module _ (i o : ℕ) (ri : is_rule 1 (rd i 0) ≡ true) (h : o < size rd i - 1) (node : is_rule 2 (ro (base_of rd m n i + o) 0) ≡ true) where
    -- such a node is no concluding node
    no_end : (x : ℕ) → is_rule 1 (rd x 0) ≡ true → end_of rd m n x ≡ base_of rd m n i + o → ⊥
    no_end x rx e =
        let z = end_inside i x o ri rx (omega arith) (sym e) in
        let same : size rd i ≡ size rd x = ap (size rd) z.0 in
        let last : o ≡ size rd x - 1 = z.1 in
        omega arith

    -- and no premise of any block
    no_premise : (j : ℕ) → is_rule 1 (rd j 0) ≡ true → times_in (base_of rd m n i + o) (map (end_of rd m n) (premises rd j)) ≡ 0
    no_premise j rj =
        times_none (end_of rd m n) (base_of rd m n i + o) (premises rd j) (λ a p e. no_end (get_or (premises rd j) a 0) (premise-rules j a rj p).0 e)

    -- no other block names it
    far : (j : ℕ) → (j ≡ i → ⊥) → by_block (base_of rd m n i + o) j ≡ 0
    far j other = go (is_rule 1 (rd j 0)) refl
      where
        go : (b : Bool) → is_rule 1 (rd j 0) ≡ b → by_block (base_of rd m n i + o) j ≡ 0
        go false rj = block_empty (base_of rd m n i + o) j rj
        go true rj =
            let length_is : size rd j ≡ length (template (rd j 0)) = size_rule rd j rj in
            let owns : owned (template (rd j 0)) (base_of rd m n j) (base_of rd m n i + o) ≡ 0 =
            owns_none (λ s. base_of rd m n j + s) (base_of rd m n i + o) (length (template (rd j 0))) (cells_of (template (rd j 0)))
            (template_sound (rd j 0) rj).inner
            (λ s p e. other (one_place j i s o rj ri (omega arith) (omega arith) e).0) in
            let rest = no_premise j rj in
            block_count (base_of rd m n i + o) j rj ∙ omega arith

    -- its own does, once
    near : by_block (base_of rd m n i + o) i ≡ 1
    near =
        let length_is : size rd i ≡ length (template (rd i 0)) = size_rule rd i ri in
        let kind : is_rule 2 (line_at (template (rd i 0)) o).kind ≡ true =
        ap (is_rule 2) (sym (kind_is rd ro (letters_of rd m n i) (template (rd i 0)) (placed i ri) o (omega arith))) ∙ node in
        let one : times_in o (owns_in (cells_of (template (rd i 0)))) ≡ 1 = (template_sound (rd i 0) ri).once o (omega arith) kind in
        let owns : owned (template (rd i 0)) (base_of rd m n i) (base_of rd m n i + o) ≡ times_in o (owns_in (cells_of (template (rd i 0)))) =
        times_shift (base_of rd m n i) o (owns_in (cells_of (template (rd i 0)))) in
        let rest = no_premise i ri in
        block_count (base_of rd m n i + o) i ri ∙ omega arith

    pub inner_named : if_eq (start_of rd m n + 4) (base_of rd m n i + o) 1 0 + namings 2 ro (base_of rd m n i + o) (m + written rd m n) ≡ 1
    inner_named =
        let b = range i ri in
        let before_start : base_of rd m n i + o < start_of rd m n = omega (arith, base_start rd m n i b.0 b.1) in
        let same : m + (i - m) ≡ i = omega arith in
        let here : by_block (base_of rd m n i + o) (m + (i - m)) ≡ 1 = rw same near in
        let blocks : sum_to (λ k. by_block (base_of rd m n i + o) (m + k)) n ≡ by_block (base_of rd m n i + o) (m + (i - m)) =
        sum_only (λ k. by_block (base_of rd m n i + o) (m + k)) (i - m) n (omega arith) (omega arith)
        (λ k p q other. far (m + k) (λ e. other (omega arith))) in
        let top : if_eq {A = ℕ} (end_of rd m n root) (base_of rd m n i + o) 1 0 ≡ 0 =
        when_different 1 0 (end_of rd m n root) (base_of rd m n i + o) (no_end root root_rule) in
        omega (
          arith,
          all_names (base_of rd m n i + o),
          start_count (base_of rd m n i + o),
          start_owns (base_of rd m n i + o) before_start,
          start_other (base_of rd m n i + o) before_start,
        )

  -- Rule nodes of the start.
  module _ (o : ℕ) (h : o < 5) (node : is_rule 2 (ro (start_of rd m n + o) 0) ≡ true) where
    -- no block names them
    block_past : (j : ℕ) → by_block (start_of rd m n + o) j ≡ 0
    block_past j = go (is_rule 1 (rd j 0)) refl
      where
        go : (b : Bool) → is_rule 1 (rd j 0) ≡ b → by_block (start_of rd m n + o) j ≡ 0
        go false rj = block_empty (start_of rd m n + o) j rj
        go true rj =
            let length_is : size rd j ≡ length (template (rd j 0)) = size_rule rd j rj in
            let ends : base_of rd m n j + size rd j ≤ start_of rd m n = base_start rd m n j (range j rj).0 (range j rj).1 in
            let owns : owned (template (rd j 0)) (base_of rd m n j) (start_of rd m n + o) ≡ 0 =
            owns_none (λ s. base_of rd m n j + s) (start_of rd m n + o) (length (template (rd j 0))) (cells_of (template (rd j 0)))
            (template_sound (rd j 0) rj).inner (λ s p e. absurd (omega arith)) in
            let rest : times_in (start_of rd m n + o) (map (end_of rd m n) (premises rd j)) ≡ 0 =
            times_none (end_of rd m n) (start_of rd m n + o) (premises rd j)
            (λ a p e. absurd (omega (arith, end_start (get_or (premises rd j) a 0) (premise-rules j a rj p).0))) in
            block_count (start_of rd m n + o) j rj ∙ omega arith

    -- the header names the last, and the start's chain the others
    by_start_lem : if_eq {A = ℕ} (start_of rd m n + 4) (start_of rd m n + o) 1 0 + by_start (start_of rd m n + o) ≡ 1
    by_start_lem = go (eqb o 4) refl
      where
        go : (b : Bool) → eqb o 4 ≡ b → if_eq {A = ℕ} (start_of rd m n + 4) (start_of rd m n + o) 1 0 + by_start (start_of rd m n + o) ≡ 1
        go true e =
            let last : o ≡ 4 = eqb-true o 4 e in
            let header : if_eq {A = ℕ} (start_of rd m n + 4) (start_of rd m n + o) 1 0 ≡ 1 =
            when_equal 1 0 (start_of rd m n + 4) (start_of rd m n + o) (omega arith) in
            let owns : by_start (start_of rd m n + o) ≡ 0 =
            owns_none (λ s. start_of rd m n + s) (start_of rd m n + o) 5 (cells_of lines_of_start) start_sound.inner (λ s p q. absurd (omega arith)) in
            omega arith
        go false e =
            let other : o ≡ 4 → ⊥ = eqb-false o 4 e in
            let header : if_eq {A = ℕ} (start_of rd m n + 4) (start_of rd m n + o) 1 0 ≡ 0 =
            when_different 1 0 (start_of rd m n + 4) (start_of rd m n + o) (λ q. other (omega arith)) in
            let kind : is_rule 2 (line_at lines_of_start o).kind ≡ true =
            ap (is_rule 2) (sym (kind_is rd ro (letters_of_start rd m n root) lines_of_start start_placed o h)) ∙ node in
            let one : times_in o (owns_in (cells_of lines_of_start)) ≡ 1 = start_sound.once o (omega arith) kind in
            let owns : by_start (start_of rd m n + o) ≡ times_in o (owns_in (cells_of lines_of_start)) =
            times_shift (start_of rd m n) o (owns_in (cells_of lines_of_start)) in
            omega arith

    pub start_named : if_eq (start_of rd m n + 4) (start_of rd m n + o) 1 0 + namings 2 ro (start_of rd m n + o) (m + written rd m n) ≡ 1
    start_named =
        let blocks : sum_to (λ k. by_block (start_of rd m n + o) (m + k)) n ≡ 0 =
        sum_none (λ k. by_block (start_of rd m n + o) (m + k)) n (λ k p q. block_past (m + k)) in
        let top : if_eq {A = ℕ} (end_of rd m n root) (start_of rd m n + o) 1 0 ≡ 0 =
        when_different 1 0 (end_of rd m n root) (start_of rd m n + o) (λ e. absurd (omega (arith, end_start root root_rule))) in
        omega (arith, all_names (start_of rd m n + o), start_count (start_of rd m n + o), by_start_lem)

  -- where each rule node of the proof is named exactly once, each of the derivation is
  pub named_once : ((i : ℕ) → is_rule 1 (rd i 0) ≡ true → if_eq root i 1 0 + namings 1 rd i (m + n) ≡ 1) →
      (r : ℕ) → m < r → r ≤ m + written rd m n → is_rule 2 (ro r 0) ≡ true → if_eq (start_of rd m n + 4) r 1 0 + namings 2 ro r (m + written rd m n) ≡ 1
  named_once once r p q node = go (ltb (m + n) r) refl
    where
      Named : ℕ → Type 0
      Named x = if_eq {A = ℕ} (start_of rd m n + 4) x 1 0 + namings 2 ro x (m + written rd m n) ≡ 1

      in_block : (b : InBlock rd m n r) → (t : Bool) → eqb b.place (size rd b.node - 1) ≡ t → Named r
      in_block b true e =
          let last : r ≡ end_of rd m n b.node =
          b.at ∙ ap (λ (k : ℕ). base_of rd m n b.node + k) (eqb-true b.place (size rd b.node - 1) e) ∙ sym (end_place b.node b.rule) in
          subst Named (sym last) (end_named b.node b.rule ∙ once b.node b.rule)
      in_block b false e =
          let other = eqb-false b.place (size rd b.node - 1) e in
          let inner : b.place < size rd b.node - 1 = omega (arith, b.inside) in
          subst Named (sym b.at) (inner_named b.node b.place b.rule inner (subst (λ (x : ℕ). is_rule 2 (ro x 0) ≡ true) b.at node))

      at : InBlock rd m n r ⊎ InStart rd m n r → Named r
      at (inl b) = in_block b (eqb b.place (size rd b.node - 1)) refl
      at (inr s) = subst Named (sym s.at) (start_named s.place s.inside (subst (λ (x : ℕ). is_rule 2 (ro x 0) ≡ true) s.at node))

      go : (t : Bool) → ltb (m + n) r ≡ t → Named r
      go true e = at (locate rd m n r (ltb-true (m + n) r e) q)
      go false e = absurd (false≢true (sym (rule_free r (ltb-false (m + n) r e)) ∙ node))
