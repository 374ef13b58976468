-- What each kind of record says, where the record has no fault: its tree, and the records that its words name.
use Rattle.std.specs.Prelude.{ℕ, ◌<◌, ◌≤◌, ◌≡◌, Bool, true, false, eqb, ltb}
use Rattle.std.proofs.Math.Path.{refl, ap}
use Rattle.std.proofs.Common.{sym, ◌∙◌, eqb-true}
use native.Mathlib.Omega.{arith}
use Rattle.std.proofs.lemmas.Bool.{eqb-false}
use Rattle.reader.specs.Words.{Reader}
use Rattle.reader.specs.Tests.{if_eq, if_lt}
use Rattle.reader.specs.Kinds.{is_symbol, is_number, role, class_at, role_at}
use Rattle.reader.specs.Trees.{Tree, leaf, node, tree, lower, child, atom}
use Rattle.reader.specs.KindLaws.{rule_role_lem}
use Rattle.reader.specs.TreeLaws.{tree_zero, tree_step_lem}
use Rattle.reader.specs.Records.{may_be_zero, wanted_class, item_class, has_class, items_have_class, refers_at}
use Rattle.reader_laws.specs.Scan.{when_less, when_not_less, when_true, when_false}
use Rattle.reader_laws.specs.Record.{Sound, role_known, reference_given, reference_below, reference_class, reference_items, reference_lower, class_is}
use Rattle.reader_laws.specs.Record.{word_three, word_four, word_index, word_count}

-- a reference that is 0 names no record
pub lower_zero : (rd : Reader) (i w : ℕ) → rd i w ≡ 0 → lower rd i w ≡ 0
unfolding lower if_lt
lower_zero rd i w e = go (ltb (rd i w) i)
  where
    go : (b : Bool) → ◌≡◌ {A = ℕ} (elim b [ true ↦ rd i w | false ↦ 0 ]) 0
    go true = e
    go false = refl

-- word w of record i names a smaller record of class c
pub record Part (rd : Reader) (i w c : ℕ) : Type 0 where
  pub given : 1 ≤ rd i w
  pub smaller : rd i w < i
  pub names : lower rd i w ≡ rd i w
  pub class : class_at rd (rd i w) ≡ c

-- word w of record i names a chain of items of class c, 0 for any, or is 0
pub record Chain (rd : Reader) (i w c : ℕ) : Type 0 where
  pub names : lower rd i w ≡ rd i w
  pub smaller : (rd i w ≡ 0 → ⊥) → rd i w < i
  pub class : (rd i w ≡ 0 → ⊥) → class_at rd (rd i w) ≡ 1
  pub items_of : (rd i w ≡ 0 → ⊥) → items_have_class rd c (rd i w) ≡ true

-- A record of kind k without a fault.
module _ (mode : ℕ) (rd : Reader) (i : ℕ) (s : Sound mode rd i) (k : ℕ) (e : rd i 0 ≡ k) where
  -- Its words, by their roles.
  module _ (w : ℕ) (p : 1 ≤ w) (q : w ≤ 3) where
    -- a reference is what the record refers to, also where it is 0
    pub reference_is : 6 ≤ role k w → lower rd i w ≡ rd i w
    reference_is h =
        let is : 6 ≤ role_at rd i w = rw (role_known rd i w k e) h in
        go is (s.reference w p q) (eqb (rd i w) 0) refl
      where
        go : 6 ≤ role_at rd i w → refers_at rd i w ≡ true → (b : Bool) → eqb (rd i w) 0 ≡ b → lower rd i w ≡ rd i w
        go is fits true ez = let z : rd i w ≡ 0 = eqb-true (rd i w) 0 ez in lower_zero rd i w z ∙ sym z
        go is fits false ez = reference_lower rd i w fits is (eqb-false (rd i w) 0 ez)

    -- and its tree a part of the record's
    pub part_tree : 10 ≤ role k w → tree rd (child rd i w) ≡ tree rd (rd i w)
    unfolding child
    part_tree h =
        let is : 10 ≤ role_at rd i w = rw (role_known rd i w k e) h in
        ap (tree rd) (when_not_less 0 (lower rd i w) (role_at rd i w) 10 is ∙ reference_is (omega arith))

    pub part_of : (r c : ℕ) → role k w ≡ r → 6 ≤ r → may_be_zero r ≡ false → wanted_class r ≡ c → (c ≡ 0 → ⊥) → Part rd i w c
    part_of r c er h never ec differ =
        let same : role_at rd i w ≡ r = role_known rd i w k e ∙ er in
        let is : 6 ≤ role_at rd i w = omega arith in
        let fits = s.reference w p q in
        let given : rd i w ≡ 0 → ⊥ = reference_given rd i w fits is (ap may_be_zero same ∙ never) in
        let wanted : wanted_class (role_at rd i w) ≡ c = ap wanted_class same ∙ ec in
        record {
          given = omega arith;
          smaller = reference_below rd i w fits is given;
          names = reference_lower rd i w fits is given;
          class = class_is rd c (rd i w) (ap (λ (x : ℕ). has_class rd x (rd i w)) (sym wanted) ∙ reference_class rd i w fits is given) differ;
        }

    pub chain_of : (r c : ℕ) → role k w ≡ r → 6 ≤ r → wanted_class r ≡ 1 → item_class r ≡ c → Chain rd i w c
    chain_of r c er h ec ei =
        let same : role_at rd i w ≡ r = role_known rd i w k e ∙ er in
        let is : 6 ≤ role_at rd i w = omega arith in
        let fits = s.reference w p q in
        let wanted : wanted_class (role_at rd i w) ≡ 1 = ap wanted_class same ∙ ec in
        let wanted_items : item_class (role_at rd i w) ≡ c = ap item_class same ∙ ei in
        record {
          names = reference_is (rw er h);
          smaller = reference_below rd i w fits is;
          class = λ given. class_is rd 1 (rd i w) (ap (λ (x : ℕ). has_class rd x (rd i w)) (sym wanted) ∙ reference_class rd i w fits is given)
              (λ z. absurd (omega arith));
          items_of = λ given. ap (λ (x : ℕ). items_have_class rd x (rd i w)) (sym wanted_items) ∙ reference_items rd i w fits is given;
        }

    -- a type, a term, a formula, a function, a name
    pub type_part : role k w ≡ 12 → Part rd i w 3
    unfolding may_be_zero wanted_class
    type_part er = part_of 12 3 er (omega arith) refl refl (λ z. absurd (omega arith))

    pub term_part : role k w ≡ 13 → Part rd i w 4
    unfolding may_be_zero wanted_class
    term_part er = part_of 13 4 er (omega arith) refl refl (λ z. absurd (omega arith))

    pub formula_part : role k w ≡ 14 → Part rd i w 5
    unfolding may_be_zero wanted_class
    formula_part er = part_of 14 5 er (omega arith) refl refl (λ z. absurd (omega arith))

    pub function_part : role k w ≡ 15 → Part rd i w 6
    unfolding may_be_zero wanted_class
    function_part er = part_of 15 6 er (omega arith) refl refl (λ z. absurd (omega arith))

    pub name_part : role k w ≡ 6 → Part rd i w 2
    unfolding may_be_zero wanted_class
    name_part er = part_of 6 2 er (omega arith) refl refl (λ z. absurd (omega arith))

    -- a chain that is not 0
    pub types_part : role k w ≡ 16 → Part rd i w 1
    unfolding may_be_zero wanted_class
    types_part er = part_of 16 1 er (omega arith) refl refl (λ z. absurd (omega arith))

    pub signature_part : role k w ≡ 9 → Part rd i w 1
    unfolding may_be_zero wanted_class
    signature_part er = part_of 9 1 er (omega arith) refl refl (λ z. absurd (omega arith))

    -- chains of types, of terms, of parts or premises, and the rest of a chain
    pub types_chain : role k w ≡ 16 → Chain rd i w 3
    unfolding wanted_class item_class
    types_chain er = chain_of 16 3 er (omega arith) refl refl

    pub signature_chain : role k w ≡ 9 → Chain rd i w 3
    unfolding wanted_class item_class
    signature_chain er = chain_of 9 3 er (omega arith) refl refl

    pub terms_chain : role k w ≡ 17 → Chain rd i w 4
    unfolding wanted_class item_class
    terms_chain er = chain_of 17 4 er (omega arith) refl refl

    pub rule_chain : role k w ≡ 8 → Chain rd i w 0
    unfolding wanted_class item_class
    rule_chain er = chain_of 8 0 er (omega arith) refl refl

    pub next_chain : role k w ≡ 11 → Chain rd i w 0
    unfolding wanted_class item_class
    next_chain er = chain_of 11 0 er (omega arith) refl refl

  -- a word that is no part of the record's tree
  pub no_part : (w : ℕ) → role k w < 10 → tree rd (child rd i w) ≡ leaf
  unfolding child
  no_part w h =
      let is : role_at rd i w < 10 = rw (role_known rd i w k e) h in
      ap (tree rd) (when_less 0 (lower rd i w) (role_at rd i w) 10 is) ∙ tree_zero rd

  -- its atom
  pub atom_symbol : is_symbol k ≡ true → atom rd i ≡ i
  unfolding atom
  atom_symbol h = when_true i _ (is_symbol (rd i 0)) (ap is_symbol e ∙ h)

  pub atom_number : is_symbol k ≡ false → is_number (role k 1) ≡ true → atom rd i ≡ rd i 1
  unfolding atom
  atom_number h n =
      when_false i _ (is_symbol (rd i 0)) (ap is_symbol e ∙ h) ∙ when_true (rd i 1) 0 (is_number (role_at rd i 1)) (ap is_number (role_known rd i 1 k e) ∙ n)

  pub atom_none : is_symbol k ≡ false → is_number (role k 1) ≡ false → atom rd i ≡ 0
  unfolding atom
  atom_none h n =
      when_false i _ (is_symbol (rd i 0)) (ap is_symbol e ∙ h) ∙ when_false (rd i 1) 0 (is_number (role_at rd i 1)) (ap is_number (role_known rd i 1 k e) ∙ n)

  -- its tree, from its atom and its parts
  pub tree_of : 1 ≤ i → (a : ℕ) (x y z : Tree) → atom rd i ≡ a → tree rd (child rd i 1) ≡ x → tree rd (child rd i 2) ≡ y → tree rd (child rd i 3) ≡ z →
      tree rd i ≡ node k a x y z
  tree_of p a x y z ea ex ey ez = rw (tree_step_lem rd i p, e, ea, ex, ey, ez)

-- The trees of the kinds 1 to 23.
module _ (mode : ℕ) (rd : Reader) (i : ℕ) (s : Sound mode rd i) (p : 1 ≤ i) where
  pub link_tree : rd i 0 ≡ 1 → tree rd i ≡ node 1 0 (tree rd (rd i 1)) leaf (tree rd (rd i 3))
  unfolding role if_lt is_symbol is_number if_eq
  link_tree e =
      tree_of mode rd i s 1 e p 0 (tree rd (rd i 1)) leaf (tree rd (rd i 3)) (atom_none mode rd i s 1 e refl refl)
      (part_tree mode rd i s 1 e 1 (omega arith) (omega arith) (omega arith))
      (no_part mode rd i s 1 e 2 (omega arith))
      (part_tree mode rd i s 1 e 3 (omega arith) (omega arith) (omega arith))

  pub name_tree : rd i 0 ≡ 2 → tree rd i ≡ node 2 0 leaf leaf leaf
  unfolding role if_lt is_symbol is_number if_eq
  name_tree e =
      tree_of mode rd i s 2 e p 0 leaf leaf leaf (atom_none mode rd i s 2 e refl refl)
      (no_part mode rd i s 2 e 1 (omega arith))
      (no_part mode rd i s 2 e 2 (omega arith))
      (no_part mode rd i s 2 e 3 (omega arith))

  pub given_type_tree : rd i 0 ≡ 3 → tree rd i ≡ node 3 i leaf leaf leaf
  unfolding role if_lt is_symbol is_number if_eq
  given_type_tree e =
      tree_of mode rd i s 3 e p i leaf leaf leaf (atom_symbol mode rd i s 3 e refl)
      (no_part mode rd i s 3 e 1 (omega arith))
      (no_part mode rd i s 3 e 2 (omega arith))
      (no_part mode rd i s 3 e 3 (omega arith))

  pub set_type_tree : rd i 0 ≡ 4 → tree rd i ≡ node 4 0 (tree rd (rd i 1)) leaf leaf
  unfolding role if_lt is_symbol is_number if_eq
  set_type_tree e =
      tree_of mode rd i s 4 e p 0 (tree rd (rd i 1)) leaf leaf (atom_none mode rd i s 4 e refl refl)
      (part_tree mode rd i s 4 e 1 (omega arith) (omega arith) (omega arith))
      (no_part mode rd i s 4 e 2 (omega arith))
      (no_part mode rd i s 4 e 3 (omega arith))

  pub pair_type_tree : rd i 0 ≡ 5 → tree rd i ≡ node 5 0 (tree rd (rd i 1)) (tree rd (rd i 2)) leaf
  unfolding role if_lt is_symbol is_number if_eq
  pair_type_tree e =
      tree_of mode rd i s 5 e p 0 (tree rd (rd i 1)) (tree rd (rd i 2)) leaf (atom_none mode rd i s 5 e refl refl)
      (part_tree mode rd i s 5 e 1 (omega arith) (omega arith) (omega arith))
      (part_tree mode rd i s 5 e 2 (omega arith) (omega arith) (omega arith))
      (no_part mode rd i s 5 e 3 (omega arith))

  pub type_variable_tree : rd i 0 ≡ 6 → tree rd i ≡ node 6 (rd i 1) leaf leaf leaf
  unfolding role if_lt is_symbol is_number if_eq
  type_variable_tree e =
      tree_of mode rd i s 6 e p (rd i 1) leaf leaf leaf (atom_number mode rd i s 6 e refl refl)
      (no_part mode rd i s 6 e 1 (omega arith))
      (no_part mode rd i s 6 e 2 (omega arith))
      (no_part mode rd i s 6 e 3 (omega arith))

  pub constant_tree : rd i 0 ≡ 7 → tree rd i ≡ node 7 i (tree rd (rd i 1)) leaf leaf
  unfolding role if_lt is_symbol is_number if_eq
  constant_tree e =
      tree_of mode rd i s 7 e p i (tree rd (rd i 1)) leaf leaf (atom_symbol mode rd i s 7 e refl)
      (part_tree mode rd i s 7 e 1 (omega arith) (omega arith) (omega arith))
      (no_part mode rd i s 7 e 2 (omega arith))
      (no_part mode rd i s 7 e 3 (omega arith))

  pub function_tree : rd i 0 ≡ 8 → tree rd i ≡ node 8 i leaf leaf leaf
  unfolding role if_lt is_symbol is_number if_eq
  function_tree e =
      tree_of mode rd i s 8 e p i leaf leaf leaf (atom_symbol mode rd i s 8 e refl)
      (no_part mode rd i s 8 e 1 (omega arith))
      (no_part mode rd i s 8 e 2 (omega arith))
      (no_part mode rd i s 8 e 3 (omega arith))

  pub bound_variable_tree : rd i 0 ≡ 9 → tree rd i ≡ node 9 (rd i 1) leaf (tree rd (rd i 2)) leaf
  unfolding role if_lt is_symbol is_number if_eq
  bound_variable_tree e =
      tree_of mode rd i s 9 e p (rd i 1) leaf (tree rd (rd i 2)) leaf (atom_number mode rd i s 9 e refl refl)
      (no_part mode rd i s 9 e 1 (omega arith))
      (part_tree mode rd i s 9 e 2 (omega arith) (omega arith) (omega arith))
      (no_part mode rd i s 9 e 3 (omega arith))

  pub pair_tree : rd i 0 ≡ 10 → tree rd i ≡ node 10 0 (tree rd (rd i 1)) (tree rd (rd i 2)) (tree rd (rd i 3))
  unfolding role if_lt is_symbol is_number if_eq
  pair_tree e =
      tree_of mode rd i s 10 e p 0 (tree rd (rd i 1)) (tree rd (rd i 2)) (tree rd (rd i 3)) (atom_none mode rd i s 10 e refl refl)
      (part_tree mode rd i s 10 e 1 (omega arith) (omega arith) (omega arith))
      (part_tree mode rd i s 10 e 2 (omega arith) (omega arith) (omega arith))
      (part_tree mode rd i s 10 e 3 (omega arith) (omega arith) (omega arith))

  pub product_tree : rd i 0 ≡ 11 → tree rd i ≡ node 11 0 (tree rd (rd i 1)) (tree rd (rd i 2)) (tree rd (rd i 3))
  unfolding role if_lt is_symbol is_number if_eq
  product_tree e =
      tree_of mode rd i s 11 e p 0 (tree rd (rd i 1)) (tree rd (rd i 2)) (tree rd (rd i 3)) (atom_none mode rd i s 11 e refl refl)
      (part_tree mode rd i s 11 e 1 (omega arith) (omega arith) (omega arith))
      (part_tree mode rd i s 11 e 2 (omega arith) (omega arith) (omega arith))
      (part_tree mode rd i s 11 e 3 (omega arith) (omega arith) (omega arith))

  pub powerset_tree : rd i 0 ≡ 12 → tree rd i ≡ node 12 0 (tree rd (rd i 1)) (tree rd (rd i 2)) leaf
  unfolding role if_lt is_symbol is_number if_eq
  powerset_tree e =
      tree_of mode rd i s 12 e p 0 (tree rd (rd i 1)) (tree rd (rd i 2)) leaf (atom_none mode rd i s 12 e refl refl)
      (part_tree mode rd i s 12 e 1 (omega arith) (omega arith) (omega arith))
      (part_tree mode rd i s 12 e 2 (omega arith) (omega arith) (omega arith))
      (no_part mode rd i s 12 e 3 (omega arith))

  pub application_tree : rd i 0 ≡ 13 → tree rd i ≡ node 13 0 (tree rd (rd i 1)) (tree rd (rd i 2)) (tree rd (rd i 3))
  unfolding role if_lt is_symbol is_number if_eq
  application_tree e =
      tree_of mode rd i s 13 e p 0 (tree rd (rd i 1)) (tree rd (rd i 2)) (tree rd (rd i 3)) (atom_none mode rd i s 13 e refl refl)
      (part_tree mode rd i s 13 e 1 (omega arith) (omega arith) (omega arith))
      (part_tree mode rd i s 13 e 2 (omega arith) (omega arith) (omega arith))
      (part_tree mode rd i s 13 e 3 (omega arith) (omega arith) (omega arith))

  pub false_tree : rd i 0 ≡ 14 → tree rd i ≡ node 14 0 leaf leaf leaf
  unfolding role if_lt is_symbol is_number if_eq
  false_tree e =
      tree_of mode rd i s 14 e p 0 leaf leaf leaf (atom_none mode rd i s 14 e refl refl)
      (no_part mode rd i s 14 e 1 (omega arith))
      (no_part mode rd i s 14 e 2 (omega arith))
      (no_part mode rd i s 14 e 3 (omega arith))

  pub true_tree : rd i 0 ≡ 15 → tree rd i ≡ node 15 0 leaf leaf leaf
  unfolding role if_lt is_symbol is_number if_eq
  true_tree e =
      tree_of mode rd i s 15 e p 0 leaf leaf leaf (atom_none mode rd i s 15 e refl refl)
      (no_part mode rd i s 15 e 1 (omega arith))
      (no_part mode rd i s 15 e 2 (omega arith))
      (no_part mode rd i s 15 e 3 (omega arith))

  pub and_tree : rd i 0 ≡ 16 → tree rd i ≡ node 16 0 (tree rd (rd i 1)) (tree rd (rd i 2)) leaf
  unfolding role if_lt is_symbol is_number if_eq
  and_tree e =
      tree_of mode rd i s 16 e p 0 (tree rd (rd i 1)) (tree rd (rd i 2)) leaf (atom_none mode rd i s 16 e refl refl)
      (part_tree mode rd i s 16 e 1 (omega arith) (omega arith) (omega arith))
      (part_tree mode rd i s 16 e 2 (omega arith) (omega arith) (omega arith))
      (no_part mode rd i s 16 e 3 (omega arith))

  pub implies_tree : rd i 0 ≡ 17 → tree rd i ≡ node 17 0 (tree rd (rd i 1)) (tree rd (rd i 2)) leaf
  unfolding role if_lt is_symbol is_number if_eq
  implies_tree e =
      tree_of mode rd i s 17 e p 0 (tree rd (rd i 1)) (tree rd (rd i 2)) leaf (atom_none mode rd i s 17 e refl refl)
      (part_tree mode rd i s 17 e 1 (omega arith) (omega arith) (omega arith))
      (part_tree mode rd i s 17 e 2 (omega arith) (omega arith) (omega arith))
      (no_part mode rd i s 17 e 3 (omega arith))

  pub not_tree : rd i 0 ≡ 18 → tree rd i ≡ node 18 0 (tree rd (rd i 1)) leaf leaf
  unfolding role if_lt is_symbol is_number if_eq
  not_tree e =
      tree_of mode rd i s 18 e p 0 (tree rd (rd i 1)) leaf leaf (atom_none mode rd i s 18 e refl refl)
      (part_tree mode rd i s 18 e 1 (omega arith) (omega arith) (omega arith))
      (no_part mode rd i s 18 e 2 (omega arith))
      (no_part mode rd i s 18 e 3 (omega arith))

  pub for_all_tree : rd i 0 ≡ 19 → tree rd i ≡ node 19 0 (tree rd (rd i 1)) (tree rd (rd i 2)) leaf
  unfolding role if_lt is_symbol is_number if_eq
  for_all_tree e =
      tree_of mode rd i s 19 e p 0 (tree rd (rd i 1)) (tree rd (rd i 2)) leaf (atom_none mode rd i s 19 e refl refl)
      (part_tree mode rd i s 19 e 1 (omega arith) (omega arith) (omega arith))
      (part_tree mode rd i s 19 e 2 (omega arith) (omega arith) (omega arith))
      (no_part mode rd i s 19 e 3 (omega arith))

  pub equal_tree : rd i 0 ≡ 20 → tree rd i ≡ node 20 0 (tree rd (rd i 1)) (tree rd (rd i 2)) leaf
  unfolding role if_lt is_symbol is_number if_eq
  equal_tree e =
      tree_of mode rd i s 20 e p 0 (tree rd (rd i 1)) (tree rd (rd i 2)) leaf (atom_none mode rd i s 20 e refl refl)
      (part_tree mode rd i s 20 e 1 (omega arith) (omega arith) (omega arith))
      (part_tree mode rd i s 20 e 2 (omega arith) (omega arith) (omega arith))
      (no_part mode rd i s 20 e 3 (omega arith))

  pub member_tree : rd i 0 ≡ 21 → tree rd i ≡ node 21 0 (tree rd (rd i 1)) (tree rd (rd i 2)) leaf
  unfolding role if_lt is_symbol is_number if_eq
  member_tree e =
      tree_of mode rd i s 21 e p 0 (tree rd (rd i 1)) (tree rd (rd i 2)) leaf (atom_none mode rd i s 21 e refl refl)
      (part_tree mode rd i s 21 e 1 (omega arith) (omega arith) (omega arith))
      (part_tree mode rd i s 21 e 2 (omega arith) (omega arith) (omega arith))
      (no_part mode rd i s 21 e 3 (omega arith))

  pub for_all_types_tree : rd i 0 ≡ 22 → tree rd i ≡ node 22 (rd i 1) leaf (tree rd (rd i 2)) leaf
  unfolding role if_lt is_symbol is_number if_eq
  for_all_types_tree e =
      tree_of mode rd i s 22 e p (rd i 1) leaf (tree rd (rd i 2)) leaf (atom_number mode rd i s 22 e refl refl)
      (no_part mode rd i s 22 e 1 (omega arith))
      (part_tree mode rd i s 22 e 2 (omega arith) (omega arith) (omega arith))
      (no_part mode rd i s 22 e 3 (omega arith))

  pub choice_tree : rd i 0 ≡ 23 → tree rd i ≡ node 23 0 (tree rd (rd i 1)) (tree rd (rd i 2)) leaf
  unfolding role if_lt is_symbol is_number if_eq
  choice_tree e =
      tree_of mode rd i s 23 e p 0 (tree rd (rd i 1)) (tree rd (rd i 2)) leaf (atom_none mode rd i s 23 e refl refl)
      (part_tree mode rd i s 23 e 1 (omega arith) (omega arith) (omega arith))
      (part_tree mode rd i s 23 e 2 (omega arith) (omega arith) (omega arith))
      (no_part mode rd i s 23 e 3 (omega arith))

-- The records that the words of the kinds name, and their numbers.
module _ (mode : ℕ) (rd : Reader) (i : ℕ) (s : Sound mode rd i) where
  pub link_third : rd i 0 ≡ 1 → Chain rd i 3 0
  unfolding role if_lt if_eq
  link_third e = next_chain mode rd i s 1 e 3 (omega arith) (omega arith) refl

  pub given_type_first : rd i 0 ≡ 3 → Part rd i 1 2
  unfolding role if_lt if_eq
  given_type_first e = name_part mode rd i s 3 e 1 (omega arith) (omega arith) refl

  pub set_type_first : rd i 0 ≡ 4 → Part rd i 1 3
  unfolding role if_lt if_eq
  set_type_first e = type_part mode rd i s 4 e 1 (omega arith) (omega arith) refl

  pub pair_type_first : rd i 0 ≡ 5 → Part rd i 1 3
  unfolding role if_lt if_eq
  pair_type_first e = type_part mode rd i s 5 e 1 (omega arith) (omega arith) refl

  pub pair_type_second : rd i 0 ≡ 5 → Part rd i 2 3
  unfolding role if_lt if_eq
  pair_type_second e = type_part mode rd i s 5 e 2 (omega arith) (omega arith) refl

  pub type_variable_first : rd i 0 ≡ 6 → rd i 1 < 4
  unfolding role if_lt if_eq
  type_variable_first e = word_three rd i 1 (s.range 1 (omega arith) (omega arith)) (role_known rd i 1 6 e)

  pub constant_first : rd i 0 ≡ 7 → Part rd i 1 3
  unfolding role if_lt if_eq
  constant_first e = type_part mode rd i s 7 e 1 (omega arith) (omega arith) refl

  pub constant_second : rd i 0 ≡ 7 → Part rd i 2 2
  unfolding role if_lt if_eq
  constant_second e = name_part mode rd i s 7 e 2 (omega arith) (omega arith) refl

  pub function_first : rd i 0 ≡ 8 → Chain rd i 1 3
  unfolding role if_lt if_eq
  function_first e = signature_chain mode rd i s 8 e 1 (omega arith) (omega arith) refl

  pub function_first_given : rd i 0 ≡ 8 → Part rd i 1 1
  unfolding role if_lt if_eq
  function_first_given e = signature_part mode rd i s 8 e 1 (omega arith) (omega arith) refl

  pub function_second : rd i 0 ≡ 8 → rd i 2 < 5
  unfolding role if_lt if_eq
  function_second e = word_four rd i 2 (s.range 2 (omega arith) (omega arith)) (role_known rd i 2 8 e)

  pub function_third : rd i 0 ≡ 8 → Part rd i 3 2
  unfolding role if_lt if_eq
  function_third e = name_part mode rd i s 8 e 3 (omega arith) (omega arith) refl

  pub bound_variable_first : rd i 0 ≡ 9 → rd i 1 < 64
  unfolding role if_lt if_eq
  bound_variable_first e = word_index rd i 1 (s.range 1 (omega arith) (omega arith)) (role_known rd i 1 9 e)

  pub bound_variable_second : rd i 0 ≡ 9 → Part rd i 2 3
  unfolding role if_lt if_eq
  bound_variable_second e = type_part mode rd i s 9 e 2 (omega arith) (omega arith) refl

  pub pair_first : rd i 0 ≡ 10 → Part rd i 1 4
  unfolding role if_lt if_eq
  pair_first e = term_part mode rd i s 10 e 1 (omega arith) (omega arith) refl

  pub pair_second : rd i 0 ≡ 10 → Part rd i 2 4
  unfolding role if_lt if_eq
  pair_second e = term_part mode rd i s 10 e 2 (omega arith) (omega arith) refl

  pub pair_third : rd i 0 ≡ 10 → Part rd i 3 3
  unfolding role if_lt if_eq
  pair_third e = type_part mode rd i s 10 e 3 (omega arith) (omega arith) refl

  pub product_first : rd i 0 ≡ 11 → Part rd i 1 4
  unfolding role if_lt if_eq
  product_first e = term_part mode rd i s 11 e 1 (omega arith) (omega arith) refl

  pub product_second : rd i 0 ≡ 11 → Part rd i 2 4
  unfolding role if_lt if_eq
  product_second e = term_part mode rd i s 11 e 2 (omega arith) (omega arith) refl

  pub product_third : rd i 0 ≡ 11 → Part rd i 3 3
  unfolding role if_lt if_eq
  product_third e = type_part mode rd i s 11 e 3 (omega arith) (omega arith) refl

  pub powerset_first : rd i 0 ≡ 12 → Part rd i 1 4
  unfolding role if_lt if_eq
  powerset_first e = term_part mode rd i s 12 e 1 (omega arith) (omega arith) refl

  pub powerset_second : rd i 0 ≡ 12 → Part rd i 2 3
  unfolding role if_lt if_eq
  powerset_second e = type_part mode rd i s 12 e 2 (omega arith) (omega arith) refl

  pub application_first : rd i 0 ≡ 13 → Part rd i 1 6
  unfolding role if_lt if_eq
  application_first e = function_part mode rd i s 13 e 1 (omega arith) (omega arith) refl

  pub application_second : rd i 0 ≡ 13 → Chain rd i 2 3
  unfolding role if_lt if_eq
  application_second e = types_chain mode rd i s 13 e 2 (omega arith) (omega arith) refl

  pub application_second_given : rd i 0 ≡ 13 → Part rd i 2 1
  unfolding role if_lt if_eq
  application_second_given e = types_part mode rd i s 13 e 2 (omega arith) (omega arith) refl

  pub application_third : rd i 0 ≡ 13 → Chain rd i 3 4
  unfolding role if_lt if_eq
  application_third e = terms_chain mode rd i s 13 e 3 (omega arith) (omega arith) refl

  pub and_first : rd i 0 ≡ 16 → Part rd i 1 5
  unfolding role if_lt if_eq
  and_first e = formula_part mode rd i s 16 e 1 (omega arith) (omega arith) refl

  pub and_second : rd i 0 ≡ 16 → Part rd i 2 5
  unfolding role if_lt if_eq
  and_second e = formula_part mode rd i s 16 e 2 (omega arith) (omega arith) refl

  pub implies_first : rd i 0 ≡ 17 → Part rd i 1 5
  unfolding role if_lt if_eq
  implies_first e = formula_part mode rd i s 17 e 1 (omega arith) (omega arith) refl

  pub implies_second : rd i 0 ≡ 17 → Part rd i 2 5
  unfolding role if_lt if_eq
  implies_second e = formula_part mode rd i s 17 e 2 (omega arith) (omega arith) refl

  pub not_first : rd i 0 ≡ 18 → Part rd i 1 5
  unfolding role if_lt if_eq
  not_first e = formula_part mode rd i s 18 e 1 (omega arith) (omega arith) refl

  pub for_all_first : rd i 0 ≡ 19 → Part rd i 1 3
  unfolding role if_lt if_eq
  for_all_first e = type_part mode rd i s 19 e 1 (omega arith) (omega arith) refl

  pub for_all_second : rd i 0 ≡ 19 → Part rd i 2 5
  unfolding role if_lt if_eq
  for_all_second e = formula_part mode rd i s 19 e 2 (omega arith) (omega arith) refl

  pub equal_first : rd i 0 ≡ 20 → Part rd i 1 4
  unfolding role if_lt if_eq
  equal_first e = term_part mode rd i s 20 e 1 (omega arith) (omega arith) refl

  pub equal_second : rd i 0 ≡ 20 → Part rd i 2 4
  unfolding role if_lt if_eq
  equal_second e = term_part mode rd i s 20 e 2 (omega arith) (omega arith) refl

  pub member_first : rd i 0 ≡ 21 → Part rd i 1 4
  unfolding role if_lt if_eq
  member_first e = term_part mode rd i s 21 e 1 (omega arith) (omega arith) refl

  pub member_second : rd i 0 ≡ 21 → Part rd i 2 4
  unfolding role if_lt if_eq
  member_second e = term_part mode rd i s 21 e 2 (omega arith) (omega arith) refl

  pub for_all_types_first : rd i 0 ≡ 22 → (1 ≤ rd i 1) × (rd i 1 ≤ 4)
  unfolding role if_lt if_eq
  for_all_types_first e = word_count rd i 1 (s.range 1 (omega arith) (omega arith)) (role_known rd i 1 22 e)

  pub for_all_types_second : rd i 0 ≡ 22 → Part rd i 2 5
  unfolding role if_lt if_eq
  for_all_types_second e = formula_part mode rd i s 22 e 2 (omega arith) (omega arith) refl

  pub choice_first : rd i 0 ≡ 23 → Part rd i 1 4
  unfolding role if_lt if_eq
  choice_first e = term_part mode rd i s 23 e 1 (omega arith) (omega arith) refl

  pub choice_second : rd i 0 ≡ 23 → Part rd i 2 3
  unfolding role if_lt if_eq
  choice_second e = type_part mode rd i s 23 e 2 (omega arith) (omega arith) refl

  -- a link's item is a smaller record that is not 0
  pub link_item : rd i 0 ≡ 1 → (1 ≤ rd i 1) × (rd i 1 < i) × (lower rd i 1 ≡ rd i 1)
  unfolding role if_lt may_be_zero if_eq
  link_item e =
      let same : role_at rd i 1 ≡ 10 = role_known rd i 1 1 e in
      let is : 6 ≤ role_at rd i 1 = omega arith in
      let fits = s.reference 1 (omega arith) (omega arith) in
      let given : rd i 1 ≡ 0 → ⊥ = reference_given rd i 1 fits is (ap may_be_zero same) in
      ((omega arith), reference_below rd i 1 fits is given, reference_lower rd i 1 fits is given)

  -- a rule node's chains of parts and of premises
  pub rule_parts : 32 ≤ rd i 0 → Chain rd i 1 0
  unfolding role if_eq if_lt
  rule_parts h = rule_chain mode rd i s (rd i 0) refl 1 (omega arith) (omega arith) (rule_role_lem (rd i 0) h 1)

  pub rule_premises : 32 ≤ rd i 0 → Chain rd i 2 0
  unfolding role if_eq if_lt
  rule_premises h = rule_chain mode rd i s (rd i 0) refl 2 (omega arith) (omega arith) (rule_role_lem (rd i 0) h 2)

  -- the name record after a name record is one, or 0
  pub name_third : rd i 0 ≡ 2 → (lower rd i 3 ≡ rd i 3) × ((rd i 3 ≡ 0 → ⊥) → class_at rd (rd i 3) ≡ 2)
  unfolding role if_lt wanted_class if_eq
  name_third e =
      let same : role_at rd i 3 ≡ 7 = role_known rd i 3 2 e in
      let is : 6 ≤ role_at rd i 3 = omega arith in
      let fits = s.reference 3 (omega arith) (omega arith) in
      let wanted : wanted_class (role_at rd i 3) ≡ 2 = ap wanted_class same in (
        reference_is mode rd i s 2 e 3 (omega arith) (omega arith) (omega arith),
        λ given. class_is rd 2 (rd i 3) (ap (λ (x : ℕ). has_class rd x (rd i 3)) (sym wanted) ∙ reference_class rd i 3 fits is given)
            (λ z. absurd (omega arith)),
      )
