-- A block whose lines pass the test has no fault, where its letters stand for what is known of them.
use Prim.Native.Nat.{ℕ, zero, suc, ◌+◌, ◌<◌, ◌≤◌}
use Rattle.std.specs.Prelude.{◌≡◌, List, false, eqb, ltb, get_or, length}
use Rattle.std.proofs.Math.Path.{refl, ap, subst}
use Rattle.std.proofs.Common.{sym, ◌∙◌}
use Rattle.std.proofs.Math.Bool.{Bool, true}
use Rattle.std.proofs.lemmas.Bool.{false≢true}
use native.Mathlib.Omega.{arith}
use borrow.Author.Tests.{eqb-true, ltb-true}
use Rattle.reader.specs.Words.{Reader}
use Rattle.reader.specs.Tests.{both, between, if_eq, if_lt}
use Rattle.reader.specs.Kinds.{kinds, noᶜ, termᶜ, class, role}
use Rattle.reader.specs.KindLaws.{class_none}
use Rattle.reader.specs.Trees.{tree, child}
use Rattle.reader.specs.Weight.{is_weighed, weight}
use Rattle.reader.specs.Records.{in_range, may_be_zero, wanted_class, item_class, refers, has_class}
use Rattle.reader_laws.specs.Scan.{both_parts, either_parts, between_parts}
use Rattle.reader_laws.specs.Record.{Sound, role_known}
use Rattle.reader_laws.specs.Classes.{all_below_lem}
use Rattle.translation_rules.specs.Templates.{Cell, none, part, inside, deeper, type_inside, bottom, own, conclusion, Line}
use Rattle.translation_rules.specs.Output.{type_record, Letters, value, line_word, no_line, Block}
use Rattle.translation_records.specs.Choices.{choose_equal, choose_less}
use Rattle.translation_records.specs.Fits.{Known, anyᶜ, word_class, own_class, kind_in, cell_class, is_none, is_chain, cell_fits, is_written, line_fits, lines_fit}
use Rattle.translation_records.specs.Words.{written_cases, written_sound, refers_none, refers_to, has_class_lem, child_weight, no_weight, record_weight}

-- The most that a record of class c weighs: 4,096 as in a proof, and 1 more for a term, which may be a bound variable that the block writes.
unfoldable pub most_of : ℕ → ℕ
most_of c = if_eq c termᶜ 4097 4096

-- v is a record below r, of class c, unless that is `anyᶜ`
pub record Named (ro : Reader) (r c v : ℕ) : Type 0 where
  pub given : 1 ≤ v
  pub smaller : v < r
  pub has : (c ≡ anyᶜ → ⊥) → class (ro v 0) ≡ c
  pub weighs : 3 ≤ c → c ≤ 5 → weight (tree ro v) ≤ most_of c

-- it is also below any later record
pub named_later : {ro : Reader} {r c v : ℕ} (s : ℕ) → r ≤ s → Named ro r c v → Named ro s c v
named_later s h n = let less = n.smaller in record { given = n.given; smaller = omega arith; has = n.has; weighs = n.weighs }

-- a record that only a link names
pub named_any : (ro : Reader) (r v : ℕ) → 1 ≤ v → v < r → Named ro r anyᶜ v
named_any ro r v p q = record { given = p; smaller = q; has = λ no. absurd (no refl); weighs = λ a b. absurd (omega arith) }

-- The letters of a block that are no records of it stand for what is known of them.
pub record Stands (rd ro : Reader) (l : Letters) (u : Known) : Type 0 where
  pub base : 1 ≤ l.base
  pub of_part : (j c : ℕ) → get_or u.classes j noᶜ ≡ c → 1 ≤ c → Named ro l.base c (get_or l.parts_of j 0)
  pub of_inside : (w c : ℕ) → word_class u.outer w ≡ c → 1 ≤ c → Named ro l.base c (rd (get_or l.parts_of 0 0) w)
  pub of_deeper : (c : ℕ) → word_class u.inner 1 ≡ c → 1 ≤ c → Named ro l.base c (rd (rd (get_or l.parts_of 0 0) 1) 1)
  pub of_type : u.outer ≡ kinds.equal → Named ro l.base 3 (type_record rd (rd (get_or l.parts_of 0 0) 1))
  pub of_bottom : Named ro l.base 5 l.node
  pub of_conclusion : (j : ℕ) → j < u.premise_count → Named ro l.base anyᶜ (l.ends (get_or l.premises_of j 0))

-- a number chosen by a test, and else 0, that is not 0
pub chosen_less : (a b x c : ℕ) → if_lt a b x 0 ≡ c → 1 ≤ c → (a < b) × (x ≡ c)
chosen_less a b x c e p = choose_less (λ (n : ℕ). n ≡ c → (a < b) × (x ≡ c)) a b (λ h q. (h, q)) (λ h q. absurd (omega arith)) e

pub chosen_equal : (a b x c : ℕ) → if_eq a b x 0 ≡ c → 1 ≤ c → (a ≡ b) × (x ≡ c)
chosen_equal a b x c e p = choose_equal (λ (n : ℕ). n ≡ c → (a ≡ b) × (x ≡ c)) a b (λ h q. (h, q)) (λ h q. absurd (omega arith)) e

pub none_zero : (rd : Reader) (l : Letters) (c : Cell) → is_none c ≡ true → value rd l c ≡ 0
unfolding is_none value
none_zero rd l none h = refl
none_zero rd l (part j) h = absurd (false≢true h)
none_zero rd l (inside w) h = absurd (false≢true h)
none_zero rd l deeper h = absurd (false≢true h)
none_zero rd l type_inside h = absurd (false≢true h)
none_zero rd l bottom h = absurd (false≢true h)
none_zero rd l (own s) h = absurd (false≢true h)
none_zero rd l (conclusion j) h = absurd (false≢true h)

-- a rule node is not weighed
rule_weight : (k : ℕ) → 64 ≤ k → is_weighed k ≡ false
unfolding is_weighed if_eq
rule_weight k h = rw (← (class_none k (omega arith)))

-- what a line is to the lines after it
own_cases : {C : Type 0} (k c : ℕ) → own_class k ≡ c → (k ≡ 1 → 1 ≡ c → C) → (k ≡ 9 → 4 ≡ c → C) → (8 ≡ c → C) → C
unfolding own_class
own_cases {C} k c e link bound other =
    let Claim : ℕ → Type 0 = λ n. n ≡ c → C in choose_equal Claim k 1 link (λ _. choose_equal Claim k 9 bound (λ _. other)) e

-- one of the roles of references to types, terms and formulas
pub sort_roles : {C : Type 0} (r : ℕ) → between 12 14 r ≡ true → (r ≡ 12 → C) → (r ≡ 13 → C) → (r ≡ 14 → C) → C
sort_roles {C} r h f g k =
    let low : 12 ≤ r = (between_parts 12 14 r h).0 in
    let high : r ≤ 14 = (between_parts 12 14 r h).1 in
    let Claim : ℕ → Type 0 = λ _. C in
    choose_equal Claim {x = 0} {y = 0} r 12 f (λ a. choose_equal Claim {x = 0} {y = 0} r 13 g (λ b. k (omega arith)))

-- A block of lines that pass.
module _ (rd ro : Reader) (l : Letters) (u : Known) (stands : Stands rd ro l u)
    (lines : List Line) (block : Block rd ro l lines) (pass : lines_fit u lines ≡ true) where
  -- a line passes
  line_fits_lem : (r : ℕ) → r < length lines → line_fits u lines r (get_or lines r no_line) ≡ true
  unfolding lines_fit
  line_fits_lem r h = all_below_lem (λ r. line_fits u lines r (get_or lines r no_line)) (length lines) pass r h

  written_at : (r : ℕ) → r < length lines → is_written (kind_in lines r) ≡ true
  unfolding line_fits
  written_at r h = (both_parts _ _ (line_fits_lem r h)).0

  -- the words of a line
  kind_at : (r : ℕ) → r < length lines → ro (l.base + r) 0 ≡ kind_in lines r
  unfolding line_word if_eq
  kind_at r h = block r 0 h

  -- the cells of a line: its words 1 to 3 and that they fit their roles
  pub record Holds (r w : ℕ) : Type 0 where
    pub cell : Cell
    pub holds : ro (l.base + r) w ≡ value rd l cell
    pub fits : cell_fits u lines r (role (kind_in lines r) w) cell ≡ true

  holds_at : (r : ℕ) → r < length lines → (w : ℕ) → 1 ≤ w → w ≤ 3 → Holds r w
  unfolding line_fits line_word if_eq
  holds_at r h zero p q = absurd (omega arith)
  holds_at r h (suc zero) p q =
      let f = both_parts _ _ (both_parts _ _ (line_fits_lem r h)).1 in
      record { cell = (get_or lines r no_line).first; holds = block r 1 h; fits = f.0 }
  holds_at r h (suc (suc zero)) p q =
      let f = both_parts _ _ (both_parts _ _ (both_parts _ _ (line_fits_lem r h)).1).1 in
      record { cell = (get_or lines r no_line).second; holds = block r 2 h; fits = f.0 }
  holds_at r h (suc (suc (suc zero))) p q =
      let f = both_parts _ _ (both_parts _ _ (both_parts _ _ (line_fits_lem r h)).1).1 in
      record { cell = (get_or lines r no_line).third; holds = block r 3 h; fits = f.1 }
  holds_at r h (suc (suc (suc (suc w)))) p q = absurd (omega arith)

  -- what a cell names, where a record of the block is what it says
  named_of : (r : ℕ) (c : Cell) (k : ℕ) → cell_class u lines r c ≡ k → 1 ≤ k →
      ((s : ℕ) → s < r → own_class (kind_in lines s) ≡ k → Named ro (l.base + r) k (l.base + s)) → Named ro (l.base + r) k (value rd l c)
  unfolding cell_class value
  named_of r none k e p f = absurd (omega arith)
  named_of r (part j) k e p f = named_later (l.base + r) (omega arith) (stands.of_part j k e p)
  named_of r (inside w) k e p f = named_later (l.base + r) (omega arith) (stands.of_inside w k e p)
  named_of r deeper k e p f = named_later (l.base + r) (omega arith) (stands.of_deeper k e p)
  named_of r type_inside k e p f =
      let q = chosen_equal u.outer kinds.equal 3 k e p in
      subst (λ (k : ℕ). Named ro (l.base + r) k (value rd l type_inside)) q.1 (named_later (l.base + r) (omega arith) (stands.of_type q.0))
  named_of r bottom k e p f =
      subst (λ (k : ℕ). Named ro (l.base + r) k l.node) e (named_later (l.base + r) (omega arith) stands.of_bottom)
  named_of r (own s) k e p f = let q = chosen_less s r (own_class (kind_in lines s)) k e p in f s q.0 q.1
  named_of r (conclusion j) k e p f =
      let q = chosen_less j u.premise_count 8 k e p in
      subst (λ (k : ℕ). Named ro (l.base + r) k (value rd l (conclusion j))) q.1
      (named_later (l.base + r) (omega arith) (stands.of_conclusion j q.0))

  -- a type is never a record of the block
  named_type : (r : ℕ) (c : Cell) → cell_class u lines r c ≡ 3 → Named ro (l.base + r) 3 (value rd l c)
  named_type r c e =
      named_of r c 3 e (omega arith)
      (λ s q h. own_cases (kind_in lines s) 3 h (λ a b. absurd (omega arith)) (λ a b. absurd (omega arith)) (λ b. absurd (omega arith)))

  -- a cell in a role of types, terms or formulas
  sort_type : (r : ℕ) (c : Cell) → cell_fits u lines r 12 c ≡ true → cell_class u lines r c ≡ 3
  unfolding cell_fits if_eq if_lt both between wanted_class
  sort_type r c h = eqb-true (cell_class u lines r c) 3 h

  sort_term : (r : ℕ) (c : Cell) → cell_fits u lines r 13 c ≡ true → cell_class u lines r c ≡ 4
  unfolding cell_fits if_eq if_lt both between wanted_class
  sort_term r c h = eqb-true (cell_class u lines r c) 4 h

  sort_formula : (r : ℕ) (c : Cell) → cell_fits u lines r 14 c ≡ true → cell_class u lines r c ≡ 5
  unfolding cell_fits if_eq if_lt both between wanted_class
  sort_formula r c h = eqb-true (cell_class u lines r c) 5 h

  -- the weight of a bound variable of the block: 1 and its type's
  bound_weight : (s : ℕ) → s < length lines → kind_in lines s ≡ 9 → weight (tree ro (l.base + s)) ≤ 4097
  unfolding role if_eq if_lt most_of
  bound_weight s h e = go (holds_at s h 2 (omega arith) (omega arith))
    where
      own : ro (l.base + s) 0 ≡ 9
      own = kind_at s h ∙ e

      go : Holds s 2 → weight (tree ro (l.base + s)) ≤ 4097
      go word =
          let start = stands.base in
          let all = record_weight ro (l.base + s) (omega arith) in
          let first : weight (tree ro (child ro (l.base + s) 1)) ≡ 0 =
          no_weight ro (l.base + s) 1 (rw (role_known ro (l.base + s) 1 9 own) (omega arith)) in
          let third : weight (tree ro (child ro (l.base + s) 3)) ≡ 0 =
          no_weight ro (l.base + s) 3 (rw (role_known ro (l.base + s) 3 9 own) (omega arith)) in
          let second = child_weight ro (l.base + s) 2 in
          let fits : cell_fits u lines s 12 word.cell ≡ true = sym (ap (λ (k : ℕ). cell_fits u lines s (role k 2) word.cell) e) ∙ word.fits in
          let type : weight (tree ro (value rd l word.cell)) ≤ 4096 =
          (named_type s word.cell (sort_type s word.cell fits)).weighs (omega arith) (omega arith) in
          let same : weight (tree ro (ro (l.base + s) 2)) ≡ weight (tree ro (value rd l word.cell)) = ap (λ (x : ℕ). weight (tree ro x)) word.holds in
          omega arith

  -- a record of the block is what its line is to the lines after it
  own_named : (r s c : ℕ) → r < length lines → s < r → own_class (kind_in lines s) ≡ c → Named ro (l.base + r) c (l.base + s)
  unfolding class if_lt most_of if_eq
  own_named r s c p q e =
      let start = stands.base in
      own_cases (kind_in lines s) c e
      (λ k h. subst (λ (c : ℕ). Named ro (l.base + r) c (l.base + s)) h (record {
        given = omega arith;
        smaller = omega arith;
        has = λ no. ap class (kind_at s (omega arith) ∙ k);
        weighs = λ a b. absurd (omega arith);
      }))
      (λ k h. subst (λ (c : ℕ). Named ro (l.base + r) c (l.base + s)) h (record {
        given = omega arith;
        smaller = omega arith;
        has = λ no. ap class (kind_at s (omega arith) ∙ k);
        weighs = λ a b. bound_weight s (omega arith) k;
      }))
      (λ h. subst (λ (c : ℕ). Named ro (l.base + r) c (l.base + s)) h (named_any ro (l.base + r) (l.base + s) (omega arith) (omega arith)))

  named : (r : ℕ) → r < length lines → (c : Cell) (k : ℕ) → cell_class u lines r c ≡ k → 1 ≤ k → Named ro (l.base + r) k (value rd l c)
  named r p c k e h = named_of r c k e h (λ s q f. own_named r s k p q f)

  -- The words of line r fit their roles.
  module _ (r : ℕ) (p : r < length lines) where
    -- a word a in role q
    abbrev Word : ℕ → ℕ → Type 0
    Word q a = (in_range q a ≡ true) × (refers ro (l.base + r) q a ≡ true)

    -- a reference to a record of class k
    reference : (q : ℕ) (c : Cell) (k : ℕ) → cell_class u lines r c ≡ k → 1 ≤ k → k ≤ 5 → wanted_class q ≡ k → item_class q ≡ 0 →
        refers ro (l.base + r) q (value rd l c) ≡ true
    reference q c k e low high wanted items =
        let n = named r p c k e low in
        let has : has_class ro k (value rd l c) ≡ true = has_class_lem ro k (value rd l c) (n.has (λ z. absurd (omega arith))) in
        refers_to ro (l.base + r) q (value rd l c) n.given n.smaller (ap (λ (x : ℕ). has_class ro x (value rd l c)) wanted ∙ has) items

    -- to a link, or none
    chain : (q : ℕ) (c : Cell) → is_chain u lines r c ≡ true → may_be_zero q ≡ true → wanted_class q ≡ 1 → item_class q ≡ 0 →
        refers ro (l.base + r) q (value rd l c) ≡ true
    unfolding is_chain
    chain q c h may wanted items =
        either_parts (is_none c) (eqb (cell_class u lines r c) 1) h
        (λ e. ap (refers ro (l.base + r) q) (none_zero rd l c e) ∙ refers_none ro (l.base + r) q may)
        (λ e. reference q c 1 (eqb-true (cell_class u lines r c) 1 e) (omega arith) (omega arith) wanted items)

    -- to any record
    item : (c : Cell) → 1 ≤ cell_class u lines r c → refers ro (l.base + r) 10 (value rd l c) ≡ true
    unfolding wanted_class item_class has_class if_eq
    item c h = let n = named r p c (cell_class u lines r c) refl h in refers_to ro (l.base + r) 10 (value rd l c) n.given n.smaller refl refl

    -- by role
    word_0 : (c : Cell) → is_none c ≡ true → Word 0 (value rd l c)
    unfolding in_range refers if_eq if_lt
    word_0 c h = rw (none_zero rd l c h) (refl, refl)

    word_4 : (c : Cell) → is_none c ≡ true → Word 4 (value rd l c)
    unfolding in_range refers if_eq if_lt
    word_4 c h = rw (none_zero rd l c h) (refl, refl)

    word_8 : (c : Cell) → is_chain u lines r c ≡ true → Word 8 (value rd l c)
    unfolding in_range may_be_zero wanted_class item_class if_eq
    word_8 c h = (refl, chain 8 c h refl refl refl)

    word_10 : (c : Cell) → ltb 0 (cell_class u lines r c) ≡ true → Word 10 (value rd l c)
    unfolding in_range if_eq
    word_10 c h = (refl, item c (ltb-true 0 (cell_class u lines r c) h))

    word_11 : (c : Cell) → is_chain u lines r c ≡ true → Word 11 (value rd l c)
    unfolding in_range may_be_zero wanted_class item_class if_eq
    word_11 c h = (refl, chain 11 c h refl refl refl)

    word_12 : (c : Cell) → cell_class u lines r c ≡ 3 → Word 12 (value rd l c)
    unfolding in_range wanted_class item_class if_eq
    word_12 c h = (refl, reference 12 c 3 h (omega arith) (omega arith) refl refl)

    word_13 : (c : Cell) → cell_class u lines r c ≡ 4 → Word 13 (value rd l c)
    unfolding in_range wanted_class item_class if_eq
    word_13 c h = (refl, reference 13 c 4 h (omega arith) (omega arith) refl refl)

    word_14 : (c : Cell) → cell_class u lines r c ≡ 5 → Word 14 (value rd l c)
    unfolding in_range wanted_class item_class if_eq
    word_14 c h = (refl, reference 14 c 5 h (omega arith) (omega arith) refl refl)

    -- a word of types, terms or formulas
    sort_fits : (q : ℕ) (c : Cell) → both (between 12 14 q) (eqb (cell_class u lines r c) (wanted_class q)) ≡ true → Word q (value rd l c)
    unfolding wanted_class
    sort_fits q c h =
        let b = both_parts (between 12 14 q) (eqb (cell_class u lines r c) (wanted_class q)) h in
        let same : cell_class u lines r c ≡ wanted_class q = eqb-true (cell_class u lines r c) (wanted_class q) b.1 in
        sort_roles q b.0
        (λ e. rw e (word_12 c (same ∙ ap wanted_class e)))
        (λ e. rw e (word_13 c (same ∙ ap wanted_class e)))
        (λ e. rw e (word_14 c (same ∙ ap wanted_class e)))

    word_fits : (q : ℕ) (c : Cell) → cell_fits u lines r q c ≡ true → Word q (value rd l c)
    unfolding cell_fits
    word_fits q c h =
        let Claim : Bool → Type 0 = λ t. t ≡ true → Word q (value rd l c) in
        choose_equal Claim q 0 (λ e t. rw e (word_0 c t))
        (λ _. choose_equal Claim q 4 (λ e t. rw e (word_4 c t))
        (λ _. choose_equal Claim q 8 (λ e t. rw e (word_8 c t))
        (λ _. choose_equal Claim q 10 (λ e t. rw e (word_10 c t))
        (λ _. choose_equal Claim q 11 (λ e t. rw e (word_11 c t)) (λ _. sort_fits q c))))) h

    -- Weights of what the words of line r add to its tree.

    -- nothing
    weight_none : (k w : ℕ) → kind_in lines r ≡ k → role k w < 10 → weight (tree ro (child ro (l.base + r) w)) ≡ 0
    weight_none k w e h = no_weight ro (l.base + r) w (rw (role_known ro (l.base + r) w k (kind_at r p ∙ e)) h)

    -- a word whose cell is of class c
    weight_named : (w c : ℕ) → 3 ≤ c → c ≤ 5 → (x : Holds r w) → cell_class u lines r x.cell ≡ c → weight (tree ro (child ro (l.base + r) w)) ≤ 4097
    unfolding most_of
    weight_named w c low high x e =
        let most = child_weight ro (l.base + r) w in
        let same : weight (tree ro (ro (l.base + r) w)) ≡ weight (tree ro (value rd l x.cell)) = ap (λ (y : ℕ). weight (tree ro y)) x.holds in
        let own : weight (tree ro (value rd l x.cell)) ≤ most_of c = (named r p x.cell c e (omega arith)).weighs low high in
        let all : most_of c ≤ 4097 = choose_equal (λ (n : ℕ). n ≤ 4097) c 4 (λ _. omega arith) (λ _. omega arith) in
        omega arith

    -- a term
    weight_term : (k w : ℕ) → kind_in lines r ≡ k → role k w ≡ 13 → 1 ≤ w → w ≤ 3 → weight (tree ro (child ro (l.base + r) w)) ≤ 4097
    weight_term k w e h a b =
        let x = holds_at r p w a b in
        let fits : cell_fits u lines r 13 x.cell ≡ true = sym (ap (λ (q : ℕ). cell_fits u lines r q x.cell) (ap (λ (k : ℕ). role k w) e ∙ h)) ∙ x.fits in
        weight_named w 4 (omega arith) (omega arith) x (sort_term r x.cell fits)

    -- a formula
    weight_formula : (k w : ℕ) → kind_in lines r ≡ k → role k w ≡ 14 → 1 ≤ w → w ≤ 3 → weight (tree ro (child ro (l.base + r) w)) ≤ 4097
    weight_formula k w e h a b =
        let x = holds_at r p w a b in
        let fits : cell_fits u lines r 14 x.cell ≡ true = sym (ap (λ (q : ℕ). cell_fits u lines r q x.cell) (ap (λ (k : ℕ). role k w) e ∙ h)) ∙ x.fits in
        weight_named w 5 (omega arith) (omega arith) x (sort_formula r x.cell fits)

    -- the line itself: 1 and its parts
    line_parts : weight (tree ro (l.base + r)) ≤
        1 + weight (tree ro (child ro (l.base + r) 1)) + weight (tree ro (child ro (l.base + r) 2)) + weight (tree ro (child ro (l.base + r) 3))
    line_parts = let start = stands.base in record_weight ro (l.base + r) (omega arith)

    not_weight : kind_in lines r ≡ 18 → weight (tree ro (l.base + r)) ≤ 16384
    unfolding role if_eq if_lt
    not_weight e =
        omega (arith, line_parts, weight_formula 18 1 e refl (omega arith) (omega arith), weight_none 18 2 e (omega arith), weight_none 18 3 e (omega arith))

    equal_weight : kind_in lines r ≡ 20 → weight (tree ro (l.base + r)) ≤ 16384
    unfolding role if_eq if_lt
    equal_weight e =
        let first : weight (tree ro (child ro (l.base + r) 1)) ≤ 4097 = weight_term 20 1 e refl (omega arith) (omega arith) in
        let second : weight (tree ro (child ro (l.base + r) 2)) ≤ 4097 = weight_term 20 2 e refl (omega arith) (omega arith) in
        omega (arith, line_parts, weight_none 20 3 e (omega arith))

    -- No line is heavier than a derivation allows: a link and a rule node have no weight.
    line_weight : is_weighed (kind_in lines r) ≡ true → weight (tree ro (l.base + r)) ≤ 16384
    unfolding is_weighed class if_eq if_lt
    line_weight h =
        written_cases (kind_in lines r) (written_at r p)
        (λ e. absurd (false≢true (sym (ap is_weighed e) ∙ h)))
        (λ e. omega (arith, bound_weight r p e)) not_weight equal_weight
        (λ a b. absurd (false≢true (sym (rule_weight (kind_in lines r) a) ∙ h)))

    pub line_sound : Sound 2 ro (l.base + r)
    line_sound =
        written_sound ro (l.base + r) (kind_in lines r) (kind_at r p) (written_at r p)
        (λ w a b. let x = holds_at r p w a b in rw x.holds (word_fits (role (kind_in lines r) w) x.cell x.fits)) line_weight
