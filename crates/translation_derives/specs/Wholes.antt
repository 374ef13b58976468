-- Records of a proof that the derivation keeps whole, with their trees: a node's parts, and what stands under their signs.
use Rattle.std.specs.Prelude.{ℕ, zero, suc, ◌≤◌, ◌≡◌, List, [], ◌∷◌, get_or}
use Rattle.std.proofs.Common.{sym, ◌∙◌, arith}
use Rattle.std.proofs.Math.Path.{ap}
use Rattle.std.proofs.Math.ListN.{get_or-map}
use Rattle.reader.specs.Words.{Reader}
use Rattle.reader.specs.Tests.{if_lt}
use Rattle.reader.specs.Kinds.{class}
use Rattle.reader.specs.Trees.{Tree, leaf, node, lower, tree, kind_of, first_of, second_of, ◌∧ᵗ◌, ◌⇒ᵗ◌, ¬ᵗ◌, ◌=ᵗ◌}
use Rattle.reader.specs.Chains.{parts}
use Rattle.reader.specs.TreeLaws.{tree_zero}
use Rattle.reader.specs.Notions.{IsFormula}
use Rattle.reader_laws.specs.Record.{Sound}
use Rattle.reader_laws.specs.Parts.{Part, not_tree, not_first, and_tree, and_first, and_second, implies_tree, implies_second, equal_tree, equal_first}
use Rattle.reader_laws.specs.Parts.{equal_second, for_all_types_tree, for_all_types_second}
use Rattle.reader_laws.specs.Classes.{class_of_kind}
use Rattle.reader_laws.specs.Agree.{Within, within_head, within_tail, lower_most, items_within}
use Rattle.derivation_rules.specs.Erase.{⌊◌⌋, bare_tree}
use Rattle.derivation_meaning.proofs.Formed.{tree_kind}
use Rattle.proof_meaning.specs.Proves.{ProofNode}
use Rattle.translation_rules.specs.Output.{copied}
use Rattle.translation_copies.specs.Outputs.{output_tree}

-- Record q has the tree X, and is a type, a term, a formula or one for all types.
pub record Whole (rd : Reader) (last q : ℕ) (X : Tree) : Type 0 where
  pub given : 1 ≤ q
  pub within : q ≤ last
  pub is : tree rd q ≡ X
  pub whole : 3 ≤ class (rd q 0)

-- a record with a tree of such a class is one
pub whole_of : (rd : Reader) (last q : ℕ) (X : Tree) → q ≤ last → tree rd q ≡ X → 3 ≤ class (kind_of X) → Whole rd last q X
unfolding kind_of class if_lt
whole_of rd last zero X h e c =
    let none : class (kind_of X) ≡ 0 = ap (λ (t : Tree). class (kind_of t)) (sym e ∙ tree_zero rd) in
    absurd (omega arith)
whole_of rd last (suc q) X h e c =
    let k : rd (suc q) 0 ≡ kind_of X = sym (tree_kind rd (suc q) (omega arith)) ∙ ap kind_of e in
    record { given = omega arith; within = h; is = e; whole = rw k c }

-- its kind is the tree's
pub whole_kind : {rd : Reader} {last q k a : ℕ} {x y z : Tree} → Whole rd last q (node k a x y z) → rd q 0 ≡ k
unfolding kind_of
whole_kind {rd = rd} {q = q} w = sym (tree_kind rd q w.given) ∙ ap kind_of w.is

-- what a word of such a record names
named_whole : (rd : Reader) (last q w c : ℕ) (X : Tree) → q ≤ last → Part rd q w c → 3 ≤ c → tree rd (rd q w) ≡ X → Whole rd last (rd q w) X
named_whole rd last q w c X h p three e =
    let k : class (rd (rd q w) 0) ≡ c = sym (class_of_kind rd (rd q w)) ∙ p.class in
    record { given = p.given; within = omega (arith, p.smaller); is = e; whole = rw k three }

-- and its class
named_class : (rd : Reader) (q w c : ℕ) (X : Tree) → Part rd q w c → tree rd (rd q w) ≡ X → class (kind_of X) ≡ c
named_class rd q w c X p e =
    ap (λ (u : Tree). class (kind_of u)) (sym e) ∙ ap class (tree_kind rd (rd q w) p.given) ∙ sym (class_of_kind rd (rd q w)) ∙ p.class

module _ (rd : Reader) (last : ℕ) (sound : (i : ℕ) → 1 ≤ i → i ≤ last → Sound 1 rd i) where
  module _ {q : ℕ} where
    here : {X : Tree} → Whole rd last q X → Sound 1 rd q
    here w = sound q w.given w.within

    -- under a ¬
    pub under_not : {X : Tree} → Whole rd last q (¬ᵗ X) → Whole rd last (rd q 1) X
    unfolding first_of
    under_not {X = X} w =
        named_whole rd last q 1 5 X w.within (not_first 1 rd q (here w) (whole_kind w)) (omega arith)
        (ap first_of (sym (not_tree 1 rd q (here w) w.given (whole_kind w)) ∙ w.is))

    pub left_of_and : {X Y : Tree} → Whole rd last q (X ∧ᵗ Y) → Whole rd last (rd q 1) X
    unfolding first_of
    left_of_and {X = X} w =
        named_whole rd last q 1 5 X w.within (and_first 1 rd q (here w) (whole_kind w)) (omega arith)
        (ap first_of (sym (and_tree 1 rd q (here w) w.given (whole_kind w)) ∙ w.is))

    pub right_of_and : {X Y : Tree} → Whole rd last q (X ∧ᵗ Y) → Whole rd last (rd q 2) Y
    unfolding second_of
    right_of_and {Y = Y} w =
        named_whole rd last q 2 5 Y w.within (and_second 1 rd q (here w) (whole_kind w)) (omega arith)
        (ap second_of (sym (and_tree 1 rd q (here w) w.given (whole_kind w)) ∙ w.is))

    pub left_formula : {X Y : Tree} → Whole rd last q (X ∧ᵗ Y) → IsFormula X
    unfolding first_of
    left_formula {X = X} w =
        named_class rd q 1 5 X (and_first 1 rd q (here w) (whole_kind w)) (ap first_of (sym (and_tree 1 rd q (here w) w.given (whole_kind w)) ∙ w.is))

    pub right_formula : {X Y : Tree} → Whole rd last q (X ∧ᵗ Y) → IsFormula Y
    unfolding second_of
    right_formula {Y = Y} w =
        named_class rd q 2 5 Y (and_second 1 rd q (here w) (whole_kind w)) (ap second_of (sym (and_tree 1 rd q (here w) w.given (whole_kind w)) ∙ w.is))

    pub implied_formula : {X Y : Tree} → Whole rd last q (X ⇒ᵗ Y) → IsFormula Y
    unfolding second_of
    implied_formula {Y = Y} w =
        named_class rd q 2 5 Y (implies_second 1 rd q (here w) (whole_kind w))
        (ap second_of (sym (implies_tree 1 rd q (here w) w.given (whole_kind w)) ∙ w.is))

    -- the formula of a record for all types
    pub under_types : {a : ℕ} {X : Tree} → Whole rd last q (node 22 a leaf X leaf) → (tree rd (rd q 2) ≡ X) × IsFormula X
    unfolding second_of
    under_types {X = X} w =
        let e = ap second_of (sym (for_all_types_tree 1 rd q (here w) w.given (whole_kind w)) ∙ w.is) in
        (e, named_class rd q 2 5 X (for_all_types_second 1 rd q (here w) (whole_kind w)) e)

    pub right_of_implies : {X Y : Tree} → Whole rd last q (X ⇒ᵗ Y) → Whole rd last (rd q 2) Y
    unfolding second_of
    right_of_implies {Y = Y} w =
        named_whole rd last q 2 5 Y w.within (implies_second 1 rd q (here w) (whole_kind w)) (omega arith)
        (ap second_of (sym (implies_tree 1 rd q (here w) w.given (whole_kind w)) ∙ w.is))

    pub left_of_equal : {X Y : Tree} → Whole rd last q (X =ᵗ Y) → Whole rd last (rd q 1) X
    unfolding first_of
    left_of_equal {X = X} w =
        named_whole rd last q 1 4 X w.within (equal_first 1 rd q (here w) (whole_kind w)) (omega arith)
        (ap first_of (sym (equal_tree 1 rd q (here w) w.given (whole_kind w)) ∙ w.is))

    pub right_of_equal : {X Y : Tree} → Whole rd last q (X =ᵗ Y) → Whole rd last (rd q 2) Y
    unfolding second_of
    right_of_equal {Y = Y} w =
        named_whole rd last q 2 4 Y w.within (equal_second 1 rd q (here w) (whole_kind w)) (omega arith)
        (ap second_of (sym (equal_tree 1 rd q (here w) w.given (whole_kind w)) ∙ w.is))

  -- in the derivation it has its tree, types removed
  pub whole_bare : (ro : Reader) (agree : (i w : ℕ) → i ≤ last → ro i w ≡ copied rd i w) {q : ℕ} {X : Tree} → Whole rd last q X → bare_tree ro q ≡ ⌊ X ⌋
  unfolding bare_tree
  whole_bare ro agree {q = q} w = ap ⌊◌⌋ (output_tree rd last ro agree sound q w.within w.whole ∙ w.is)

-- an item of a list within a bound
within_at : (most : ℕ) (xs : List ℕ) → Within most xs → (j : ℕ) → get_or xs j 0 ≤ most
within_at most [] h j = omega arith
within_at most (x ∷ xs) h zero = within_head most x xs h
within_at most (x ∷ xs) h (suc j) = within_at most xs (within_tail most x xs h) j

-- part j of a node: its record's tree is the node's
pub part_tree : {rd : Reader} {i k : ℕ} {ps : List Tree} {xs : List ℕ} → ProofNode rd i k ps xs → (j : ℕ) →
    tree rd (get_or (parts rd i) j 0) ≡ get_or ps j (tree rd 0)
part_tree {rd = rd} {i = i} o j = sym (get_or-map (tree rd) (parts rd i) j 0) ∙ ap (λ (l : List Tree). get_or l j (tree rd 0)) o.parts_are

pub part_within : (rd : Reader) (i j : ℕ) → get_or (parts rd i) j 0 ≤ i
unfolding parts
part_within rd i j = within_at i _ (items_within rd i (lower rd i 1) (lower_most rd i 1)) j
