-- What the letters of a rule node's block stand for.
use Rattle.std.specs.Prelude.{ℕ, zero, suc, ◌+◌, ◌<◌, ◌≤◌, ◌≡◌, List, [], ◌∷◌, map, true, get_or, length}
use Rattle.std.proofs.Math.Path.{sym, ap}
use Rattle.std.proofs.Common.{◌∙◌, arith}
use Rattle.std.proofs.Math.ListN.{get_or-map}
use Rattle.reader.specs.Words.{Reader}
use Rattle.reader.specs.Tests.{if_eq, if_lt, if_true}
use Rattle.reader.specs.Kinds.{class, is_rule}
use Rattle.reader.specs.Trees.{Tree, leaf, tree, kind_of, first_of, lower, ⊥ᵗ}
use Rattle.reader.specs.TreeLaws.{lower_below, tree_zero}
use Rattle.reader.specs.Chains.{parts, premises}
use Rattle.reader.specs.Weight.{is_weighed, own_weight, weight}
use Rattle.reader_laws.specs.Record.{Sound}
use Rattle.reader_laws.specs.Parts.{Part, not_tree, not_first, equal_first}
use Rattle.reader_laws.specs.Classes.{class_of_kind}
use Rattle.translation_rules.specs.Output.{letters_of, type_record, base_of, end_of}
use Rattle.translation_records.specs.Fits.{Known, word_class}
use Rattle.translation_records.specs.Lines.{most_of, Named, Stands, named_any}
use Rattle.translation_records.specs.Kept.{tree_kind, tree_given, item_below, no_word, named_kept, named_word, type_record_lem}
use Rattle.translation_records.specs.Addresses.{Addresses}

-- the trees begin with trees of these classes
abbrev pub Classes : List ℕ → List Tree → Type 0
Classes [] ts = Unit
Classes (c ∷ cs) [] = ⊥
Classes (c ∷ cs) (t ∷ ts) = (class (kind_of t) ≡ c) × Classes cs ts

class_at : (cs : List ℕ) (ts : List Tree) → Classes cs ts → (j c : ℕ) → get_or cs j 0 ≡ c → 1 ≤ c → class (kind_of (get_or ts j leaf)) ≡ c
class_at [] ts h zero c e p = absurd (omega arith)
class_at [] ts h (suc j) c e p = absurd (omega arith)
class_at (d ∷ cs) [] h j c e p = absurd h
class_at (d ∷ cs) (t ∷ ts) h zero c e p = h.0 ∙ e
class_at (d ∷ cs) (t ∷ ts) h (suc j) c e p = class_at cs ts h.1 j c e p

-- each of the records is a rule node of a proof
abbrev pub Rules : Reader → List ℕ → Type 0
Rules rd [] = Unit
Rules rd (x ∷ xs) = (is_rule 1 (rd x 0) ≡ true) × Rules rd xs

rule_at : (rd : Reader) (xs : List ℕ) → Rules rd xs → (j : ℕ) → j < length xs → is_rule 1 (rd (get_or xs j 0) 0) ≡ true
rule_at rd [] h j p = absurd (omega arith)
rule_at rd (x ∷ xs) h zero p = h.0
rule_at rd (x ∷ xs) h (suc j) p = rule_at rd xs h.1 j (omega arith)

-- a kind with a word of types, terms or formulas is not 0
kind_given : (k w : ℕ) → 1 ≤ word_class k w → 1 ≤ k
kind_given zero w h = absurd (omega (arith, no_word w))
kind_given (suc k) w h = omega arith

-- a tree of a class has a kind
class_given : (k : ℕ) → 1 ≤ class k → 1 ≤ k
unfolding class if_lt
class_given zero h = absurd (omega arith)
class_given (suc k) h = omega arith

-- The parts of node i, by their trees.
module _ (rd : Reader) (i : ℕ) (pos : 1 ≤ i) (ts : List Tree) (are : map (tree rd) (parts rd i) ≡ ts) where
  part_below : (j : ℕ) → get_or (parts rd i) j 0 < i
  unfolding parts
  part_below j = omega (arith, item_below rd (lower rd i 1) j, lower_below rd i 1 pos)

  part_tree : (j : ℕ) → tree rd (get_or (parts rd i) j 0) ≡ get_or ts j leaf
  part_tree j =
      sym (get_or-map (tree rd) (parts rd i) j 0) ∙ ap (λ (xs : List Tree). get_or xs j (tree rd 0)) are ∙ ap (get_or ts j) (tree_zero rd)

  -- a part whose tree has a kind is a record of that kind
  part_given : (j : ℕ) → 1 ≤ kind_of (get_or ts j leaf) → 1 ≤ get_or (parts rd i) j 0
  part_given j h = tree_given rd (get_or (parts rd i) j 0) (rw (part_tree j) h)

  part_kind : (j : ℕ) → 1 ≤ kind_of (get_or ts j leaf) → rd (get_or (parts rd i) j 0) 0 ≡ kind_of (get_or ts j leaf)
  part_kind j h = sym (tree_kind rd (get_or (parts rd i) j 0) (part_given j h)) ∙ ap kind_of (part_tree j)

-- Premises of node i.
pub premise_below : (rd : Reader) (i : ℕ) → 1 ≤ i → (j : ℕ) → get_or (premises rd i) j 0 < i
unfolding premises
premise_below rd i pos j = omega (arith, item_below rd (lower rd i 2) j, lower_below rd i 2 pos)

-- a record of ⊥
pub bottom_named : (ro : Reader) (b i : ℕ) → 1 ≤ i → i < b → tree ro i ≡ ⊥ᵗ → Named ro b 5 i
unfolding class if_lt kind_of weight own_weight is_weighed if_eq if_true most_of
bottom_named ro b i p q e =
    let kind : ro i 0 ≡ 14 = sym (tree_kind ro i p) ∙ ap kind_of e in
    let one : weight (tree ro i) ≡ 1 = ap weight e in
    record { given = p; smaller = q; has = λ _. ap class kind; weighs = λ x y. omega arith }

-- Node i of a proof without a fault.
module _ (rd ro : Reader) (m n : ℕ) (sound : (i : ℕ) → 1 ≤ i → i ≤ m + n → Sound 1 rd i)
    (kept : (i : ℕ) → i ≤ m + n → 3 ≤ class (rd i 0) → tree ro i ≡ tree rd i)
    (kept-class : (i : ℕ) → i ≤ m + n → 1 ≤ class (rd i 0) → class (ro i 0) ≡ class (rd i 0))
    (range : (i : ℕ) → is_rule 1 (rd i 0) ≡ true → (m < i) × (i ≤ m + n)) (addresses : Addresses rd m n)
    (i : ℕ) (low : m < i) (high : i ≤ m + n) (bottom : tree ro i ≡ ⊥ᵗ) where
  -- its parts, from their trees, and its premises
  module _ (u : Known) (ts : List Tree) (are : map (tree rd) (parts rd i) ≡ ts) (classes : Classes u.classes ts)
      (outer : 1 ≤ u.outer → kind_of (get_or ts 0 leaf) ≡ u.outer)
      (inner : 1 ≤ u.inner → (u.outer ≡ 18) × (kind_of (first_of (get_or ts 0 leaf)) ≡ u.inner))
      (xs : List ℕ) (others : premises rd i ≡ xs) (count : u.premise_count ≡ length xs) (rules : Rules rd xs) where
    abbrev Base : ℕ
    Base = base_of rd m n i

    abbrev First : ℕ
    First = get_or (parts rd i) 0 0

    -- records of the proof stand before the block
    copied_named : (v c : ℕ) → 1 ≤ v → v ≤ m + n → class (rd v 0) ≡ c → 1 ≤ c → Named ro Base c v
    copied_named v c p q e h =
        let past : m + n + 1 ≤ Base = addresses.base_past i in named_kept rd ro (m + n) sound kept kept-class Base v c (omega arith) p q e h

    word_named : (p k w c : ℕ) → 1 ≤ p → p ≤ m + n → rd p 0 ≡ k → word_class k w ≡ c → 1 ≤ c → Named ro Base c (rd p w)
    word_named p k w c given most kind e h =
        let past : m + n + 1 ≤ Base = addresses.base_past i in named_word rd ro (m + n) sound kept kept-class Base p k w c (omega arith) given most kind e h

    part_named : (j c : ℕ) → get_or u.classes j 0 ≡ c → 1 ≤ c → Named ro Base c (get_or (parts rd i) j 0)
    part_named j c e h =
        let own : class (kind_of (get_or ts j leaf)) ≡ c = class_at u.classes ts classes j c e h in
        let is : 1 ≤ kind_of (get_or ts j leaf) = class_given (kind_of (get_or ts j leaf)) (omega arith) in
        let less : get_or (parts rd i) j 0 < i = part_below rd i (omega arith) ts are j in
        copied_named (get_or (parts rd i) j 0) c (part_given rd i (omega arith) ts are j is) (omega arith)
        (ap class (part_kind rd i (omega arith) ts are j is) ∙ own) h

    -- part 0, where its kind is known
    first_kind : 1 ≤ u.outer → rd First 0 ≡ u.outer
    first_kind h = let k : kind_of (get_or ts 0 leaf) ≡ u.outer = outer h in part_kind rd i (omega arith) ts are 0 (omega arith) ∙ k

    first_given : 1 ≤ u.outer → 1 ≤ First
    first_given h = let k : kind_of (get_or ts 0 leaf) ≡ u.outer = outer h in part_given rd i (omega arith) ts are 0 (omega arith)

    first_most : First ≤ m + n
    first_most = omega (arith, part_below rd i (omega arith) ts are 0)

    inside_named : (w c : ℕ) → word_class u.outer w ≡ c → 1 ≤ c → Named ro Base c (rd First w)
    inside_named w c e h =
        let is : 1 ≤ u.outer = kind_given u.outer w (omega arith) in
        word_named First u.outer w c (first_given is) first_most (first_kind is) e h

    -- part 0 is a negation, and the record that it names is of a known kind
    deeper_named : (c : ℕ) → word_class u.inner 1 ≡ c → 1 ≤ c → Named ro Base c (rd (rd First 1) 1)
    unfolding first_of
    deeper_named c e h =
        let is : 1 ≤ u.inner = kind_given u.inner 1 (omega arith) in
        let not : u.outer ≡ 18 = (inner is).0 in
        let given : 1 ≤ First = first_given (omega arith) in
        let kind : rd First 0 ≡ 18 = first_kind (omega arith) ∙ not in
        let own : Sound 1 rd First = sound First given first_most in
        let next : Part rd First 1 5 = not_first 1 rd First own kind in
        let less : rd First 1 < First = next.smaller in
        let most : First ≤ m + n = first_most in
        let tree_is : tree rd (rd First 1) ≡ first_of (get_or ts 0 leaf) =
        sym (ap first_of (not_tree 1 rd First own given kind)) ∙ ap first_of (part_tree rd i (omega arith) ts are 0) in
        let kind_is : rd (rd First 1) 0 ≡ u.inner = sym (tree_kind rd (rd First 1) next.given) ∙ ap kind_of tree_is ∙ (inner is).1 in
        word_named (rd First 1) u.inner 1 c next.given (omega arith) kind_is e h

    -- part 0 is an equation, and its first side has a type
    type_named : u.outer ≡ 20 → Named ro Base 3 (type_record rd (rd First 1))
    type_named e =
        let given : 1 ≤ First = first_given (omega arith) in
        let side : Part rd First 1 4 = equal_first 1 rd First (sound First given first_most) (first_kind (omega arith) ∙ e) in
        let less : rd First 1 < First = side.smaller in
        let most : First ≤ m + n = first_most in
        let term : class (rd (rd First 1) 0) ≡ 4 = sym (class_of_kind rd (rd First 1)) ∙ side.class in
        let type = type_record_lem rd ro (m + n) sound kept kept-class (rd First 1) side.given (omega arith) term in
        copied_named (type_record rd (rd First 1)) 3 type.0 type.1 type.2 (omega arith)

    conclusion_named : (j : ℕ) → j < u.premise_count → Named ro Base 8 (end_of rd m n (get_or (premises rd i) j 0))
    conclusion_named j h =
        let x : is_rule 1 (rd (get_or (premises rd i) j 0) 0) ≡ true = rw others (rule_at rd xs rules j (omega arith)) in
        let less : get_or (premises rd i) j 0 < i = premise_below rd i (omega arith) j in
        named_any ro Base (end_of rd m n (get_or (premises rd i) j 0)) (omega (arith, addresses.end_past (get_or (premises rd i) j 0) x))
        (addresses.end_base (get_or (premises rd i) j 0) i (range (get_or (premises rd i) j 0) x).0 less high x)

    pub stands : Stands rd ro (letters_of rd m n i) u
    stands = record {
      base = omega (arith, addresses.base_past i);
      of_part = part_named;
      of_inside = inside_named;
      of_deeper = deeper_named;
      of_type = type_named;
      of_bottom = bottom_named ro Base i (omega arith) (omega (arith, addresses.base_past i)) bottom;
      of_conclusion = conclusion_named;
    }
