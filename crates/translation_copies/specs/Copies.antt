-- The copied records of a proof: which of them keep their words, and which keep their trees.
use Rattle.std.specs.Prelude.{ℕ, zero, suc, ◌<◌, ◌≤◌, ◌≡◌, refl, Bool, false, eqb, ltb}
use Rattle.std.proofs.Common.{sym, ◌∙◌, arith, eqb-true, ltb-true, ltb-false}
use Rattle.std.proofs.Math.Path.{ap}
use Rattle.std.proofs.Math.Bool.{true}
use Rattle.std.proofs.lemmas.Bool.{eqb-false}
use Rattle.reader.specs.Words.{Reader}
use Rattle.reader.specs.Tests.{both, either, between, every, if_eq, if_lt}
use Rattle.reader.specs.Kinds.{is_rule, class, class_at, role, role_at}
use Rattle.reader.specs.Trees.{tree, lower, child, atom}
use Rattle.reader.specs.TreeLaws.{below, tree_zero, tree_step_lem, lower_below, items_step}
use Rattle.reader.specs.Chains.{items}
use Rattle.reader.specs.Records.{wanted_class, item_class, has_class, items_have_class}
use Rattle.reader_laws.specs.Scan.{when_less, when_not_less, when_true, when_false, between_parts, both_parts, either_parts, every_head}
use Rattle.reader_laws.specs.Record.{Sound, role_known, reference_below, reference_class, reference_items, class_is, items_are}
use Rattle.reader_laws.specs.Parts.{Chain, link_third, reference_is}
use Rattle.reader_laws.specs.Classes.{all_below, all_below_lem, class_past, link_class, class_of_kind}
use Rattle.reader_laws.specs.Pair.{rule_kind}
use Rattle.translation_rules.specs.Output.{copied}

-- a kind that has a class is no rule
pub class_no_rule : (k : ℕ) → 1 ≤ class k → is_rule 1 k ≡ false
class_no_rule k h = go (is_rule 1 k) refl
  where
    go : (b : Bool) → is_rule 1 k ≡ b → b ≡ false
    go false e = refl
    go true e =
        let low : 32 ≤ k = (rule_kind 1 k e).0 in
        let none : class k ≡ 0 = class_past k (omega arith) in
        absurd (omega arith)

-- The words of the copied records.
module _ (rd : Reader) (i w : ℕ) where
  -- a record that is no rule node keeps its words
  pub copied_word : is_rule 1 (rd i 0) ≡ false → copied rd i w ≡ rd i w
  unfolding copied
  copied_word h = when_false (if_eq w 0 14 0) (rd i w) (is_rule 1 (rd i 0)) h

  -- a rule node's place has the words of ⊥
  pub copied_rule : is_rule 1 (rd i 0) ≡ true → copied rd i w ≡ if_eq w 0 14 0
  unfolding copied
  copied_rule h = when_true (if_eq w 0 14 0) (rd i w) (is_rule 1 (rd i 0)) h

-- a record that has a class keeps its words
pub copied_kept : (rd : Reader) (i : ℕ) → 1 ≤ class (rd i 0) → (w : ℕ) → copied rd i w ≡ rd i w
copied_kept rd i h w = copied_word rd i w (class_no_rule (rd i 0) h)

-- its kind is then its own, and so is its class
pub copied_class : (rd : Reader) (i : ℕ) → 1 ≤ class (rd i 0) → class (copied rd i 0) ≡ class (rd i 0)
copied_class rd i h = ap class (copied_kept rd i h 0)

-- what holds of words 1, 2 and 3
pub each_word : (P : ℕ → Type 0) → P 1 → P 2 → P 3 → (w : ℕ) → 1 ≤ w → w ≤ 3 → P w
each_word P a b c zero p q = absurd (omega arith)
each_word P a b c (suc zero) p q = a
each_word P a b c (suc (suc zero)) p q = b
each_word P a b c (suc (suc (suc zero))) p q = c
each_word P a b c (suc (suc (suc (suc w)))) p q = absurd (omega arith)

-- What word w of a record names of the record's tree: nothing by a role below 10, and else the record there.
module _ (rd : Reader) (i w : ℕ) where
  pub child_none : role_at rd i w < 10 → child rd i w ≡ 0
  unfolding child
  child_none l = when_less 0 (lower rd i w) (role_at rd i w) 10 l

  child_lower : 10 ≤ role_at rd i w → child rd i w ≡ lower rd i w
  unfolding child
  child_lower l = when_not_less 0 (lower rd i w) (role_at rd i w) 10 l

-- A record with the same words through two readers.
module _ (rd other : Reader) (i : ℕ) (same : (w : ℕ) → other i w ≡ rd i w) where
  pub role_same : (w : ℕ) → role_at other i w ≡ role_at rd i w
  unfolding role_at
  role_same w = ap (λ (k : ℕ). role k w) (same 0)

  pub lower_same : (w : ℕ) → lower other i w ≡ lower rd i w
  unfolding lower
  lower_same w = ap (λ (a : ℕ). if_lt a i a 0) (same w)

  pub child_same : (w : ℕ) → child other i w ≡ child rd i w
  unfolding child
  child_same w = rw (role_same w, lower_same w)

  pub atom_same : atom other i ≡ atom rd i
  unfolding atom
  atom_same = rw (same 0, role_same 1, same 1)

  -- its tree is the same where those of its parts are
  pub tree_same : 1 ≤ i → ((w : ℕ) → 1 ≤ w → w ≤ 3 → tree other (child rd i w) ≡ tree rd (child rd i w)) → tree other i ≡ tree rd i
  tree_same p parts =
      let part : (w : ℕ) → 1 ≤ w → w ≤ 3 → tree other (child other i w) ≡ tree rd (child rd i w) =
      λ w a b. ap (tree other) (child_same w) ∙ parts w a b in
      let first = part 1 (omega arith) (omega arith) in
      let second = part 2 (omega arith) (omega arith) in
      let third = part 3 (omega arith) (omega arith) in
      rw (tree_step_lem other i p, tree_step_lem rd i p, same 0, atom_same, first, second, third)

-- The table of records: what the parts of a record of class 3 to 7 are.

-- a word is no part of the tree, or in one of the roles 12 to 17
part_role : ℕ → ℕ → Bool
part_role w k = if_lt (class k) 3 true (either (ltb (role k w) 10) (between 12 17 (role k w)))

part_roles : (w : ℕ) → all_below (part_role w) 24 ≡ true → (k : ℕ) → 3 ≤ class k → either (ltb (role k w) 10) (between 12 17 (role k w)) ≡ true
unfolding part_role
part_roles w all k h = go (ltb k 24) refl
  where
    go : (b : Bool) → ltb k 24 ≡ b → either (ltb (role k w) 10) (between 12 17 (role k w)) ≡ true
    go true e = sym (when_not_less true _ (class k) 3 h) ∙ all_below_lem (part_role w) 24 all k (ltb-true k 24 e)
    go false e = let none : class k ≡ 0 = class_past k (ltb-false k 24 e) in absurd (omega arith)

part_role_lem : (k : ℕ) → 3 ≤ class k → (w : ℕ) → 1 ≤ w → w ≤ 3 → either (ltb (role k w) 10) (between 12 17 (role k w)) ≡ true
unfolding all_below part_role class role if_eq if_lt between both either
part_role_lem k h =
    each_word (λ w. either (ltb (role k w) 10) (between 12 17 (role k w)) ≡ true)
    (part_roles 1 refl k h) (part_roles 2 refl k h) (part_roles 3 refl k h)

-- the record there is of class 3 to 7, or starts a chain of items of such a class
part_class : ℕ → Bool
part_class r = if_lt r 12 true (either (ltb 2 (wanted_class r)) (both (eqb (wanted_class r) 1) (ltb 2 (item_class r))))

part_class_lem : (r : ℕ) → 12 ≤ r → r ≤ 17 → either (ltb 2 (wanted_class r)) (both (eqb (wanted_class r) 1) (ltb 2 (item_class r))) ≡ true
unfolding all_below part_class wanted_class item_class if_lt both either
part_class_lem r p q = sym (when_not_less true _ r 12 p) ∙ all_below_lem part_class 18 refl r (omega arith)

-- The trees of a proof's records of class 3 to 7. The proof's records 1 to `last` have no faults.
module _ (rd : Reader) (last : ℕ) (sound : (i : ℕ) → 1 ≤ i → i ≤ last → Sound 1 rd i) where
  -- A record of class 3 to 7 keeps its tree, and so does a link that starts a chain of items of one such class.
  record Keeps (i : ℕ) : Type 0 where
    record_keeps : i ≤ last → 3 ≤ class (rd i 0) → tree (copied rd) i ≡ tree rd i
    chain_keeps : i ≤ last → class_at rd i ≡ 1 → (c : ℕ) → 3 ≤ c → every (has_class rd c) (items rd i) ≡ true → tree (copied rd) i ≡ tree rd i

  zero_keeps : tree (copied rd) 0 ≡ tree rd 0
  zero_keeps = tree_zero (copied rd) ∙ sym (tree_zero rd)

  -- the record that a word names, where its number is known
  keeps_by : (i j : ℕ) → i ≡ j → tree (copied rd) j ≡ tree rd j → tree (copied rd) i ≡ tree rd i
  keeps_by i j e h = rw e h

  -- The parts of record i, where all that is claimed holds of smaller records.
  module _ (i : ℕ) (p : 1 ≤ i) (h : i ≤ last) (f : (j : ℕ) → j < i → Keeps j) where
    own : Sound 1 rd i
    own = sound i p h

    module _ (w : ℕ) (a : 1 ≤ w) (b : w ≤ 3) where
      -- word w names a record in one of the roles 12 to 17: its class is 3 to 7, or it starts a chain of items of such a class
      given_keeps : 12 ≤ role_at rd i w → role_at rd i w ≤ 17 → (rd i w ≡ 0 → ⊥) → tree (copied rd) (rd i w) ≡ tree rd (rd i w)
      given_keeps least most given =
          let fits = own.reference w a b in
          let is : 6 ≤ role_at rd i w = omega arith in
          let less : rd i w < i = reference_below rd i w fits is given in
          let wanted = reference_class rd i w fits is given in
          let wanted_items = reference_items rd i w fits is given in
          either_parts (ltb 2 (wanted_class (role_at rd i w))) (both (eqb (wanted_class (role_at rd i w)) 1) (ltb 2 (item_class (role_at rd i w))))
          (part_class_lem (role_at rd i w) least most) (one less wanted) (chain less wanted wanted_items)
        where
          one : rd i w < i → has_class rd (wanted_class (role_at rd i w)) (rd i w) ≡ true → ltb 2 (wanted_class (role_at rd i w)) ≡ true →
              tree (copied rd) (rd i w) ≡ tree rd (rd i w)
          one less wanted e =
              let high : 2 < wanted_class (role_at rd i w) = ltb-true 2 (wanted_class (role_at rd i w)) e in
              let is : class_at rd (rd i w) ≡ wanted_class (role_at rd i w) =
              class_is rd (wanted_class (role_at rd i w)) (rd i w) wanted (λ z. absurd (omega arith)) in
              let same : class_at rd (rd i w) ≡ class (rd (rd i w) 0) = class_of_kind rd (rd i w) in
              (f (rd i w) less).record_keeps (omega arith) (omega arith)

          chain : rd i w < i → has_class rd (wanted_class (role_at rd i w)) (rd i w) ≡ true → items_have_class rd (item_class (role_at rd i w)) (rd i w) ≡ true →
              both (eqb (wanted_class (role_at rd i w)) 1) (ltb 2 (item_class (role_at rd i w))) ≡ true → tree (copied rd) (rd i w) ≡ tree rd (rd i w)
          chain less wanted wanted_items e =
              let link : wanted_class (role_at rd i w) ≡ 1 = eqb-true (wanted_class (role_at rd i w)) 1 (both_parts _ _ e).0 in
              let high : 2 < item_class (role_at rd i w) = ltb-true 2 (item_class (role_at rd i w)) (both_parts _ _ e).1 in
              let is : class_at rd (rd i w) ≡ wanted_class (role_at rd i w) =
              class_is rd (wanted_class (role_at rd i w)) (rd i w) wanted (λ z. absurd (omega arith)) in
              (f (rd i w) less).chain_keeps (omega arith) (is ∙ link) (item_class (role_at rd i w)) high
              (items_are rd (item_class (role_at rd i w)) (rd i w) wanted_items (λ z. absurd (omega arith)))

      -- any part of a record of class 3 to 7
      part_keeps : 3 ≤ class (rd i 0) → tree (copied rd) (child rd i w) ≡ tree rd (child rd i w)
      unfolding role_at
      part_keeps k =
          either_parts (ltb (role_at rd i w) 10) (between 12 17 (role_at rd i w)) (part_role_lem (rd i 0) k w a b)
          (λ l. no (ltb-true (role_at rd i w) 10 l)) (λ l. yes (between_parts 12 17 (role_at rd i w) l).0 (between_parts 12 17 (role_at rd i w) l).1)
        where
          no : role_at rd i w < 10 → tree (copied rd) (child rd i w) ≡ tree rd (child rd i w)
          no l = keeps_by (child rd i w) 0 (child_none rd i w l) zero_keeps

          is : (x : Bool) → eqb (rd i w) 0 ≡ x → 12 ≤ role_at rd i w → role_at rd i w ≤ 17 → tree (copied rd) (rd i w) ≡ tree rd (rd i w)
          is true e least most = keeps_by (rd i w) 0 (eqb-true (rd i w) 0 e) zero_keeps
          is false e least most = given_keeps least most (eqb-false (rd i w) 0 e)

          yes : 12 ≤ role_at rd i w → role_at rd i w ≤ 17 → tree (copied rd) (child rd i w) ≡ tree rd (child rd i w)
          yes least most =
              let names : child rd i w ≡ rd i w = child_lower rd i w (omega arith) ∙ reference_is 1 rd i own (rd i 0) refl w a b (omega arith) in
              keeps_by (child rd i w) (rd i w) names (is (eqb (rd i w) 0) refl least most)

    -- the parts of a link: its item, and the link after it
    chain_parts : class_at rd i ≡ 1 → (c : ℕ) → 3 ≤ c → every (has_class rd c) (items rd i) ≡ true →
        (w : ℕ) → 1 ≤ w → w ≤ 3 → tree (copied rd) (child rd i w) ≡ tree rd (child rd i w)
    unfolding role if_eq if_lt
    chain_parts e c least all =
        let kind : rd i 0 ≡ 1 = link_class (rd i 0) (sym (class_of_kind rd i) ∙ e) in
        let split = every_head (has_class rd c) (lower rd i 1) (items rd (lower rd i 3)) (ap (every (has_class rd c)) (sym (items_step rd i p)) ∙ all) in
        each_word (λ w. tree (copied rd) (child rd i w) ≡ tree rd (child rd i w)) (first kind split.0) (second kind)
        (third kind split.1 (eqb (lower rd i 3) 0) refl)
      where
        first : rd i 0 ≡ 1 → has_class rd c (lower rd i 1) ≡ true → tree (copied rd) (child rd i 1) ≡ tree rd (child rd i 1)
        first kind has =
            let role : role_at rd i 1 ≡ 10 = role_known rd i 1 1 kind in
            let less : lower rd i 1 < i = lower_below rd i 1 p in
            let is : class_at rd (lower rd i 1) ≡ c = class_is rd c (lower rd i 1) has (λ z. absurd (omega arith)) in
            let same : class_at rd (lower rd i 1) ≡ class (rd (lower rd i 1) 0) = class_of_kind rd (lower rd i 1) in
            keeps_by (child rd i 1) (lower rd i 1) (child_lower rd i 1 (omega arith)) ((f (lower rd i 1) less).record_keeps (omega arith) (omega arith))

        second : rd i 0 ≡ 1 → tree (copied rd) (child rd i 2) ≡ tree rd (child rd i 2)
        second kind =
            let role : role_at rd i 2 ≡ 0 = role_known rd i 2 1 kind in
            keeps_by (child rd i 2) 0 (child_none rd i 2 (omega arith)) zero_keeps

        third : rd i 0 ≡ 1 → every (has_class rd c) (items rd (lower rd i 3)) ≡ true → (b : Bool) → eqb (lower rd i 3) 0 ≡ b →
            tree (copied rd) (child rd i 3) ≡ tree rd (child rd i 3)
        third kind rest true z =
            let role : role_at rd i 3 ≡ 11 = role_known rd i 3 1 kind in
            keeps_by (child rd i 3) 0 (child_lower rd i 3 (omega arith) ∙ eqb-true (lower rd i 3) 0 z) zero_keeps
        third kind rest false z =
            let role : role_at rd i 3 ≡ 11 = role_known rd i 3 1 kind in
            let less : lower rd i 3 < i = lower_below rd i 3 p in
            let link : Chain rd i 3 0 = link_third 1 rd i own kind in
            let is : class_at rd (lower rd i 3) ≡ 1 =
            ap (class_at rd) link.names ∙ link.class (λ y. eqb-false (lower rd i 3) 0 z (link.names ∙ y)) in
            keeps_by (child rd i 3) (lower rd i 3) (child_lower rd i 3 (omega arith))
            ((f (lower rd i 3) less).chain_keeps (omega arith) is c least rest)

  -- references are to smaller records, so the claim holds of all
  keeps : (i : ℕ) → Keeps i
  keeps = below Keeps step
    where
      step : (i : ℕ) → ((j : ℕ) → j < i → Keeps j) → Keeps i
      step zero f = record { record_keeps = λ h k. zero_keeps; chain_keeps = λ h e c k all. zero_keeps }
      step (suc i) f = record {
        record_keeps = λ h k. tree_same rd (copied rd) (suc i) (copied_kept rd (suc i) (omega arith)) (omega arith)
            (λ w a b. part_keeps (suc i) (omega arith) h f w a b k);
        chain_keeps = λ h e c k all.
            let one : class_at rd (suc i) ≡ class (rd (suc i) 0) = class_of_kind rd (suc i) in
            tree_same rd (copied rd) (suc i) (copied_kept rd (suc i) (omega arith)) (omega arith) (chain_parts (suc i) (omega arith) h f e c k all);
      }

  -- a record of class 3 to 7 keeps its tree
  pub copied_tree : (i : ℕ) → i ≤ last → 3 ≤ class (rd i 0) → tree (copied rd) i ≡ tree rd i
  copied_tree i h k = (keeps i).record_keeps h k

  -- and so does a link that starts a chain of items of one class, 3 to 7
  pub copied_chain_tree : (i : ℕ) → i ≤ last → class_at rd i ≡ 1 → (c : ℕ) → 3 ≤ c → every (has_class rd c) (items rd i) ≡ true →
      tree (copied rd) i ≡ tree rd i
  copied_chain_tree i h e c k all = (keeps i).chain_keeps h e c k all
