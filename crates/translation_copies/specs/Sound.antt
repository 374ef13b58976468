-- The copied records have no faults in a derivation.
use Rattle.std.specs.Prelude.{ℕ, zero, suc, ◌<◌, ◌≤◌, Bool, not, length}
use Rattle.std.proofs.Math.Path.{◌≡◌, refl, sym, ap}
use Rattle.std.proofs.Common.{◌∙◌, arith}
use Rattle.std.proofs.Math.Bool.{true, false}
use Rattle.std.proofs.lemmas.Bool.{false≢true}
use mathlib.Core.List.{List}
use Rattle.std.proofs.Math.Dec.{eqb, ltb, leb}
use Rattle.std.proofs.Math.ListN.{get_or-eq_default}
use borrow.Author.Tests.{eqb-true, eqb-false, ltb-true, ltb-false, le-leb}
use Rattle.reader.specs.Words.{Reader}
use Rattle.reader.specs.Tests.{both, between, every, if_eq, if_lt, if_true}
use Rattle.reader.specs.Kinds.{is_rule, is_kind, is_symbol, is_number, class, class_at, role, role_at}
use Rattle.reader.specs.Trees.{Tree, leaf, tree, lower, child, atom, ⊥ᵗ}
use Rattle.reader.specs.TreeLaws.{tree_zero, tree_step_lem, lower_below, linked_zero}
use Rattle.reader.specs.Chains.{linked, items}
use Rattle.reader.specs.Weight.{is_weighed, own_weight, weight}
use Rattle.reader.specs.Names.{name_of, is_name, name_taken}
use Rattle.reader.specs.Records.{Reference, references, any_record, in_range, range_at, may_be_zero, wanted_class, item_class, has_class, items_have_class}
use Rattle.reader.specs.Records.{refers, refers_at, name_length_fits, types_fit, arguments_fit, item_chains_fit, most_weight, weight_fits, name_spelled}
use Rattle.reader.specs.Records.{name_is_free, typing_fits}
use Rattle.reader_laws.specs.Scan.{both_parts, both_join, when_equal, when_different, when_less, when_not_less, when_true, when_false}
use Rattle.reader_laws.specs.Record.{Sound, role_known, class_is, items_are, weight_limit}
use Rattle.reader_laws.specs.Parts.{Part, Chain, function_first_given, application_second_given, application_third}
use Rattle.reader_laws.specs.Classes.{all_below, all_below_lem}
use Rattle.reader_laws.specs.Pair.{kind_or_rule, kind_of_all}
use Rattle.translation_rules.specs.Output.{copied}
use Rattle.translation_copies.specs.Copies.{copied_word, copied_rule, copied_class, each_word, role_same, child_none, copied_tree}
use Rattle.translation_copies.specs.Kept.{every_where, name_of_none, copied_name_of, chain_linked, chain_items, copied_name_records}
use Rattle.translation_copies.specs.Kept.{copied_is_name, copied_taken}

-- A record of ⊥, with words 1 to 3 all 0.
module _ (rd : Reader) (i : ℕ) (kind : rd i 0 ≡ 14) (zeros : (w : ℕ) → 1 ≤ w → w ≤ 3 → rd i w ≡ 0) where
  -- its words name nothing
  bottom_role : (w : ℕ) → 1 ≤ w → w ≤ 3 → role_at rd i w ≡ 0
  unfolding role if_eq if_lt
  bottom_role = each_word (λ w. role_at rd i w ≡ 0) (role_known rd i 1 14 kind) (role_known rd i 2 14 kind) (role_known rd i 3 14 kind)

  bottom_part : (w : ℕ) → 1 ≤ w → w ≤ 3 → tree rd (child rd i w) ≡ leaf
  bottom_part w a b =
      let role : role_at rd i w ≡ 0 = bottom_role w a b in
      ap (tree rd) (child_none rd i w (omega arith)) ∙ tree_zero rd

  bottom_atom : atom rd i ≡ 0
  unfolding atom is_symbol is_number if_eq if_lt
  bottom_atom =
      when_false i _ (is_symbol (rd i 0)) (ap is_symbol kind)
      ∙ when_false (rd i 1) 0 (is_number (role_at rd i 1)) (ap is_number (bottom_role 1 (omega arith) (omega arith)))

  -- its tree
  pub bottom_tree : 1 ≤ i → tree rd i ≡ ⊥ᵗ
  bottom_tree p =
      let first = bottom_part 1 (omega arith) (omega arith) in
      let second = bottom_part 2 (omega arith) (omega arith) in
      let third = bottom_part 3 (omega arith) (omega arith) in
      rw (tree_step_lem rd i p, kind, bottom_atom, first, second, third)

  -- it is no symbol
  bottom_name : name_of rd i ≡ 0
  bottom_name = name_of_none rd i (omega arith)

  bottom_weight : 1 ≤ i → weight_fits 2 rd i ≡ true
  unfolding weight_fits is_weighed weight own_weight most_weight class if_true if_eq if_lt
  bottom_weight p =
      when_true (leb (weight (tree rd i)) 16384) true (is_weighed (rd i 0)) (ap is_weighed kind) ∙ ap (λ (t : Tree). leb (weight t) 16384) (bottom_tree p)

  -- it has no fault
  pub bottom_sound : 1 ≤ i → Sound 2 rd i
  unfolding is_kind range_at in_range refers_at refers name_length_fits item_chains_fit name_spelled name_is_free typing_fits if_eq if_lt
  bottom_sound p = record {
    kind = ap (is_kind 2) kind;
    range = λ w a b. rw (bottom_role w a b, zeros w a b);
    reference = λ w a b. rw (bottom_role w a b);
    name_length = ap (λ (xs : List ℕ). leb (length xs) 4) (ap (linked rd) bottom_name ∙ linked_zero rd);
    chains = rw kind;
    weighs = bottom_weight p;
    named = when_equal true (is_name rd i) (name_of rd i) 0 bottom_name;
    free = when_equal true (not (name_taken rd i)) (name_of rd i) 0 bottom_name;
    typed = refl;
  }

-- a rule node's place is such a record
copied_bottom : (rd : Reader) (i : ℕ) → is_rule 1 (rd i 0) ≡ true →
    (copied rd i 0 ≡ 14) × ((w : ℕ) → 1 ≤ w → w ≤ 3 → copied rd i w ≡ 0)
unfolding if_eq
copied_bottom rd i e = (copied_rule rd i 0 e, λ w a b. copied_rule rd i w e ∙ when_different 14 0 w 0 (λ z. absurd (omega arith)))

-- and has the tree of ⊥
pub copied_bottom_tree : (rd : Reader) (i : ℕ) → 1 ≤ i → is_rule 1 (rd i 0) ≡ true → tree (copied rd) i ≡ ⊥ᵗ
copied_bottom_tree rd i p e = bottom_tree (copied rd) i (copied_bottom rd i e).0 (copied_bottom rd i e).1 p

-- the classes that are weighed
weighed_class : (k : ℕ) → is_weighed k ≡ true → 3 ≤ class k
unfolding is_weighed if_eq
weighed_class k h = go (class k) h
  where
    go : (c : ℕ) → if_eq c 3 true (if_eq c 4 true (if_eq c 5 true (if_eq c 7 true false))) ≡ true → 3 ≤ c
    go zero e = absurd (false≢true e)
    go (suc zero) e = absurd (false≢true e)
    go (suc (suc zero)) e = absurd (false≢true e)
    go (suc (suc (suc c))) e = omega arith

-- References. A record whose class is wanted is no rule node, and keeps its class.
has_class_kept : (rd : Reader) (c j : ℕ) → has_class rd c j ≡ true → has_class (copied rd) c j ≡ true
unfolding has_class class_at
has_class_kept rd c j h = go (eqb c 0) refl
  where
    go : (b : Bool) → eqb c 0 ≡ b → has_class (copied rd) c j ≡ true
    go true e = when_equal true _ c 0 (eqb-true c 0 e)
    go false e =
        let differ : c ≡ 0 → ⊥ = eqb-false c 0 e in
        let is : class (rd j 0) ≡ c = class_is rd c j h differ in
        ap (λ (x : ℕ). if_eq c 0 true (eqb x c)) (copied_class rd j (omega arith)) ∙ h

-- a role whose reference is to a chain of items of a class asks for a link
item_link : ℕ → Bool
item_link r = if_eq (item_class r) 0 true (eqb (wanted_class r) 1)

item_link_lem : (r : ℕ) → (item_class r ≡ 0 → ⊥) → wanted_class r ≡ 1
unfolding all_below item_link item_class wanted_class if_eq both
item_link_lem r differ = go (ltb r 18) refl
  where
    go : (b : Bool) → ltb r 18 ≡ b → wanted_class r ≡ 1
    go true e =
        eqb-true (wanted_class r) 1
        (sym (when_different true _ (item_class r) 0 differ) ∙ all_below_lem item_link 18 refl r (ltb-true r 18 e))
    go false e = absurd (differ (ap (λ (x : Reference). x.items) (get_or-eq_default references any_record (ltb-false r 18 e))))

-- The proof's records 1 to `last` have no faults.
module _ (rd : Reader) (last : ℕ) (sound : (i : ℕ) → 1 ≤ i → i ≤ last → Sound 1 rd i) where
  -- the items of a chain keep a class that is wanted
  items_class_kept : (c j : ℕ) → j ≤ last → ((c ≡ 0 → ⊥) → class_at rd j ≡ 1) → items_have_class rd c j ≡ true → items_have_class (copied rd) c j ≡ true
  unfolding items_have_class
  items_class_kept c j h link all = go (eqb c 0) refl
    where
      go : (b : Bool) → eqb c 0 ≡ b → items_have_class (copied rd) c j ≡ true
      go true e = when_equal true _ c 0 (eqb-true c 0 e)
      go false e =
          let differ : c ≡ 0 → ⊥ = eqb-false c 0 e in
          let has : every (has_class rd c) (items rd j) ≡ true = items_are rd c j all differ in
          when_different true _ c 0 differ ∙ ap (every (has_class (copied rd) c)) (chain_items rd last sound j h (λ given. link differ))
          ∙ every_where (has_class (copied rd) c) (has_class rd c) (has_class rd c) (λ x e. has_class_kept rd c x e ∙ sym e) (items rd j) has ∙ has

  -- a reference that fits does so among the copies
  refers_kept : (i r a : ℕ) → i ≤ last → refers rd i r a ≡ true → refers (copied rd) i r a ≡ true
  unfolding refers
  refers_kept i r a h fits = go (ltb r 6) refl (eqb a 0) refl
    where
      go : (x : Bool) → ltb r 6 ≡ x → (y : Bool) → eqb a 0 ≡ y → refers (copied rd) i r a ≡ true
      go true ex y ey = when_less true _ r 6 (ltb-true r 6 ex)
      go false ex true ey =
          let high : 6 ≤ r = ltb-false r 6 ex in
          let none : a ≡ 0 = eqb-true a 0 ey in
          when_not_less true _ r 6 high ∙ when_equal (may_be_zero r) _ a 0 none
          ∙ sym (when_equal (may_be_zero r) _ a 0 none) ∙ sym (when_not_less true _ r 6 high) ∙ fits
      go false ex false ey =
          let high : 6 ≤ r = ltb-false r 6 ex in
          let given : a ≡ 0 → ⊥ = eqb-false a 0 ey in
          let all : both (ltb a i) (both (has_class rd (wanted_class r) a) (items_have_class rd (item_class r) a)) ≡ true =
          sym (when_different (may_be_zero r) _ a 0 given) ∙ sym (when_not_less true _ r 6 high) ∙ fits in
          let first = both_parts _ _ all in
          let second = both_parts _ _ first.1 in
          let less : a < i = ltb-true a i first.0 in
          let link : (item_class r ≡ 0 → ⊥) → class_at rd a ≡ 1 =
          λ differ. class_is rd (wanted_class r) a second.0 (λ z. absurd (omega (arith, item_link_lem r differ))) ∙ item_link_lem r differ in
          let has = has_class_kept rd (wanted_class r) a second.0 in
          let have_items = items_class_kept (item_class r) a (omega arith) link second.1 in
          when_not_less true _ r 6 high ∙ when_different (may_be_zero r) _ a 0 given ∙ both_join _ _ first.0 (both_join _ _ has have_items)

  -- A record that is no rule node.
  module _ (i : ℕ) (p : 1 ≤ i) (h : i ≤ last) (plain : is_rule 1 (rd i 0) ≡ false) where
    own : Sound 1 rd i
    own = sound i p h

    same : (w : ℕ) → copied rd i w ≡ rd i w
    same w = copied_word rd i w plain

    kept_kind : is_kind 2 (copied rd i 0) ≡ true
    kept_kind =
        let k = kind_or_rule 1 (rd i 0) own.kind plain in
        ap (is_kind 2) (same 0) ∙ kind_of_all 2 (rd i 0) k.0 k.1

    kept_range : (w : ℕ) → range_at (copied rd) i w ≡ range_at rd i w
    unfolding range_at
    kept_range w = ap (λ (r : ℕ). in_range r (copied rd i w)) (role_same rd (copied rd) i same w) ∙ ap (in_range (role_at rd i w)) (same w)

    kept_reference : (w : ℕ) → 1 ≤ w → w ≤ 3 → refers_at (copied rd) i w ≡ true
    unfolding refers_at
    kept_reference w a b =
        ap (λ (r : ℕ). refers (copied rd) i r (copied rd i w)) (role_same rd (copied rd) i same w)
        ∙ ap (refers (copied rd) i (role_at rd i w)) (same w) ∙ refers_kept i (role_at rd i w) (rd i w) h (own.reference w a b)

    -- chains of types and of arguments
    kept_chain : (w : ℕ) → rd i w ≤ last → ((rd i w ≡ 0 → ⊥) → class_at rd (rd i w) ≡ 1) → linked (copied rd) (copied rd i w) ≡ linked rd (rd i w)
    kept_chain w l link = ap (linked (copied rd)) (same w) ∙ chain_linked rd last sound (rd i w) l link

    kept_types : (w : ℕ) → Part rd i w 1 → types_fit (copied rd) (copied rd i w) ≡ types_fit rd (rd i w)
    unfolding types_fit
    kept_types w part =
        let less : rd i w < i = part.smaller in
        ap (λ (xs : List ℕ). between 1 5 (length xs)) (kept_chain w (omega arith) (λ given. part.class))

    kept_arguments : (w : ℕ) → Chain rd i w 4 → arguments_fit (copied rd) (copied rd i w) ≡ arguments_fit rd (rd i w)
    unfolding arguments_fit
    kept_arguments w chain =
        let names : lower rd i w ≡ rd i w = chain.names in
        let less : lower rd i w < i = lower_below rd i w p in
        ap (λ (xs : List ℕ). leb (length xs) 4) (kept_chain w (omega arith) chain.class)

    kept_chains : item_chains_fit (copied rd) i ≡ item_chains_fit rd i
    unfolding item_chains_fit if_eq
    kept_chains =
        ap (λ (k : ℕ). if_eq k 8 (types_fit (copied rd) (copied rd i 1))
        (if_eq k 13 (both (types_fit (copied rd) (copied rd i 2)) (arguments_fit (copied rd) (copied rd i 3))) true)) (same 0)
        ∙ go (eqb (rd i 0) 8) refl (eqb (rd i 0) 13) refl
      where
        go : (a : Bool) → eqb (rd i 0) 8 ≡ a → (b : Bool) → eqb (rd i 0) 13 ≡ b →
            ◌≡◌ {A = Bool}
            (elim a [
              | true ↦ types_fit (copied rd) (copied rd i 1)
              | false ↦ elim b [ true ↦ both (types_fit (copied rd) (copied rd i 2)) (arguments_fit (copied rd) (copied rd i 3)) | false ↦ true ]
            ])
            (elim a [ true ↦ types_fit rd (rd i 1) | false ↦ elim b [ true ↦ both (types_fit rd (rd i 2)) (arguments_fit rd (rd i 3)) | false ↦ true ] ])
        go true ea b eb = kept_types 1 (function_first_given 1 rd i own (eqb-true (rd i 0) 8 ea))
        go false ea true eb =
            let e : rd i 0 ≡ 13 = eqb-true (rd i 0) 13 eb in
            rw (kept_types 2 (application_second_given 1 rd i own e), kept_arguments 3 (application_third 1 rd i own e))
        go false ea false eb = refl

    -- weight: the tree is kept, and a derivation allows more
    kept_weight : weight_fits 2 (copied rd) i ≡ true
    unfolding weight_fits most_weight if_true if_eq
    kept_weight =
        ap (λ (k : ℕ). if_true (is_weighed k) (leb (weight (tree (copied rd) i)) 16384) true) (same 0) ∙ go (is_weighed (rd i 0)) refl
      where
        go : (b : Bool) → is_weighed (rd i 0) ≡ b → ◌≡◌ {A = Bool} (elim b [ true ↦ leb (weight (tree (copied rd) i)) 16384 | false ↦ true ]) true
        go true e =
            let most : weight (tree rd i) ≤ 4096 = weight_limit 1 rd i own e in
            ap (λ (t : Tree). leb (weight t) 16384) (copied_tree rd last sound i h (weighed_class (rd i 0) e))
            ∙ le-leb (weight (tree rd i)) 16384 (omega arith)
        go false e = refl

    kept_spelled : name_spelled (copied rd) i ≡ name_spelled rd i
    unfolding name_spelled if_eq
    kept_spelled =
        ap (λ (n : ℕ). if_eq n 0 true (is_name (copied rd) i)) (copied_name_of rd i)
        ∙ ap (λ (b : Bool). if_eq (name_of rd i) 0 true b) (copied_is_name rd last sound i p h)

    kept_free : name_is_free (copied rd) i ≡ name_is_free rd i
    unfolding name_is_free if_eq
    kept_free =
        ap (λ (n : ℕ). if_eq n 0 true (not (name_taken (copied rd) i))) (copied_name_of rd i)
        ∙ ap (λ (b : Bool). if_eq (name_of rd i) 0 true (not b)) (copied_taken rd last sound i h)

    pub kept_sound : Sound 2 (copied rd) i
    unfolding name_length_fits typing_fits if_eq
    kept_sound = record {
      kind = kept_kind;
      range = λ w a b. kept_range w ∙ own.range w a b;
      reference = kept_reference;
      name_length = ap (λ (xs : List ℕ). leb (length xs) 4) (copied_name_records rd last sound i p h) ∙ own.name_length;
      chains = kept_chains ∙ own.chains;
      weighs = kept_weight;
      named = kept_spelled ∙ own.named;
      free = kept_free ∙ own.free;
      typed = refl;
    }

  -- no copied record has a fault in a derivation
  pub copied_sound : (i : ℕ) → 1 ≤ i → i ≤ last → Sound 2 (copied rd) i
  copied_sound i p h = go (is_rule 1 (rd i 0)) refl
    where
      go : (b : Bool) → is_rule 1 (rd i 0) ≡ b → Sound 2 (copied rd) i
      go true e = bottom_sound (copied rd) i (copied_bottom rd i e).0 (copied_bottom rd i e).1 p
      go false e = kept_sound i p h e
