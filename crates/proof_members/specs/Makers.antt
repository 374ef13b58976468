-- The keys of records, of their negations and of equations, and the ways out of the code that makes them.
use Rattle.std.specs.Prelude.{ℕ, zero, suc, ◌+◌, ◌*◌, ◌/◌, ◌%◌, ◌<◌, ◌≤◌, ◌≡◌, refl, List, length}
use Rattle.std.proofs.Math.Path.{sym}
use Rattle.std.proofs.Common.{ap, ◌∙◌}
use native.Mathlib.Omega.{arith}
use Rattle.reader.specs.Words.{Reader}
use Rattle.reader.specs.Tests.{if_eq, if_lt}
use Rattle.reader.specs.Kinds.{role}
use Rattle.reader.specs.Trees.{Tree, child, tree, kind_of, ¬ᵗ◌, ◌=ᵗ◌}
use Rattle.reader.specs.TreeLaws.{lower_below}
use Rattle.reader_chains.specs.Shapes.{child_lower, kind_zero, kind_tree, not_tree, equal_tree}
use Rattle.proof_references.specs.declared.References.{References}
use Rattle.proof_references.specs.References.{ReferencesAre}
use Rattle.reader_equality.specs.Least.{least, Numbered, least_most, least_tree, least_least, least_zero}
use Rattle.proof_members.specs.Keys.{equation_of, right_of, left_of, body, NormalBody, Stands, body_equation, body_single, decoded_negation, decoded_plain}

-- a table of the numbers of at most 4,096 records
pub record Table (rd : Reader) (numbers : List ℕ) : Type 0 where
  pub numbered : Numbered rd numbers (length numbers)
  pub small : length numbers ≤ 4096

-- the body's key q stands for the tree
pub record BodyOf (rd : Reader) (size q : ℕ) (t : Tree) : Type 0 where
  pub normal : NormalBody rd size q
  pub means : body rd q ≡ t
  pub small : q < 33554432

pub above_zero : (i : ℕ) → (i ≡ 0 → ⊥) → 0 < i
above_zero i h = omega arith

-- a record with a kind is not record 0
pub kind_given : (rd : Reader) (i k : ℕ) → k ≡ kind_of (tree rd i) → (k ≡ 0 → ⊥) → 0 < i
kind_given rd zero k e h = absurd (h (e ∙ kind_zero rd))
kind_given rd (suc i) k e h = omega arith

-- The parts of a key.
module _ (left right : ℕ) (p : left < 4096) (q : right < 4096) where
  single_parts : (equation_of (0 + 2 * (0 + 4096 * left)) ≡ 0) × (left_of (0 + 2 * (0 + 4096 * left)) ≡ left) × (right_of (0 + 2 * (0 + 4096 * left)) ≡ 0)
  unfolding equation_of left_of right_of
  single_parts = (omega arith, omega arith, omega arith)

  equation_parts : (equation_of (1 + 2 * (right + 4096 * left)) ≡ 1) × (left_of (1 + 2 * (right + 4096 * left)) ≡ left) ×
      (right_of (1 + 2 * (right + 4096 * left)) ≡ right)
  unfolding equation_of left_of right_of
  equation_parts = (omega arith, omega arith, omega arith)

module _ (rd : Reader) (size : ℕ) (small : size ≤ 4096) where
  -- the equation of records t and u
  pub equation_body : (t u left right q : ℕ) → t < size → u < size → left ≡ least rd t → right ≡ least rd u → q ≡ 1 + 2 * (right + 4096 * left) →
      BodyOf rd size q (tree rd t =ᵗ tree rd u)
  equation_body t u left right q pt pu el er eq =
      let tm : least rd t ≤ t = least_most rd t in
      let um : least rd u ≤ u = least_most rd u in
      let ps = equation_parts left right (omega arith) (omega arith) in
      let one : equation_of q ≡ 1 = ap equation_of eq ∙ ps.0 in
      let l : left_of q ≡ least rd t = ap left_of eq ∙ ps.1 ∙ el in
      let r : right_of q ≡ least rd u = ap right_of eq ∙ ps.2 ∙ er in
      let lt : tree rd (left_of q) ≡ tree rd t = ap (tree rd) l ∙ least_tree rd t in
      let rt : tree rd (right_of q) ≡ tree rd u = ap (tree rd) r ∙ least_tree rd u in
      record {
        normal = record {
          left_in = omega arith;
          right_in = omega arith;
          left_least = ap (least rd) l ∙ least_least rd t ∙ sym l;
          right_least = ap (least rd) r ∙ least_least rd u ∙ sym r;
          one_tree = λ h. absurd (h one);
          no_equation = λ h. absurd (h one);
        };
        means = body_equation rd q one ∙ rw (lt, rt) refl;
        small = omega arith;
      }

  -- a record that is no equation
  pub single_body : (i k left q : ℕ) → i < size → k ≡ kind_of (tree rd i) → (k ≡ 20 → ⊥) → left ≡ least rd i → q ≡ 0 + 2 * (0 + 4096 * left) →
      BodyOf rd size q (tree rd i)
  single_body i k left q p ek h el eq =
      let im : least rd i ≤ i = least_most rd i in
      let ps = single_parts left 0 (omega arith) (omega arith) in
      let z : equation_of q ≡ 0 = ap equation_of eq ∙ ps.0 in
      let none : equation_of q ≡ 1 → ⊥ = λ y. omega (arith, y, z) in
      let l : left_of q ≡ least rd i = ap left_of eq ∙ ps.1 ∙ el in
      let r : right_of q ≡ 0 = ap right_of eq ∙ ps.2 in
      let lt : tree rd (left_of q) ≡ tree rd i = ap (tree rd) l ∙ least_tree rd i in
      record {
        normal = record {
          left_in = omega arith;
          right_in = omega arith;
          left_least = ap (least rd) l ∙ least_least rd i ∙ sym l;
          right_least = ap (least rd) r ∙ least_zero rd ∙ sym r;
          one_tree = λ y. r;
          no_equation = λ y e. h (ek ∙ ap kind_of (sym lt) ∙ e);
        };
        means = body_single rd q none ∙ lt;
        small = omega arith;
      }

  pub negated : (q r : ℕ) (t : Tree) → BodyOf rd size q t → r ≡ 2 * q + 1 → Stands rd size r (¬ᵗ t)
  negated q r t b e =
      let half : r / 2 ≡ q = omega arith in
      let odd : r % 2 ≡ 1 = omega arith in
      record {
        normal = record { bodied = rw half b.normal; no_negation = λ h. absurd (h odd) };
        means = decoded_negation rd r odd ∙ ap (λ (x : Tree). ¬ᵗ x) (ap (body rd) half ∙ b.means);
      }

  pub plain : (q r k : ℕ) (t : Tree) → BodyOf rd size q t → k ≡ kind_of t → (k ≡ 18 → ⊥) → r ≡ 2 * q → Stands rd size r t
  plain q r k t b ek h e =
      let half : r / 2 ≡ q = omega arith in
      let even : r % 2 ≡ 1 → ⊥ = λ y. omega arith in
      let is : body rd (r / 2) ≡ t = ap (body rd) half ∙ b.means in
      record {
        normal = record { bodied = rw half b.normal; no_negation = λ y z. h (ek ∙ ap kind_of (sym is) ∙ z) };
        means = decoded_plain rd r even ∙ is;
      }

-- The ways out of the code that makes keys.
module _ (rd : Reader) (numbers : List ℕ) (table : Table rd numbers) where
  pub number_small : (i r : ℕ) → i < length numbers → r ≡ least rd i → r < 4096
  number_small i r p e = omega (arith, least_most rd i, table.small)

  pub equation_made : (t u left right q : ℕ) → t < length numbers → u < length numbers → left ≡ least rd t → right ≡ least rd u →
      q ≡ 1 + 2 * (right + 4096 * left) → BodyOf rd (length numbers) q (tree rd t =ᵗ tree rd u)
  equation_made = equation_body rd (length numbers) table.small

  pub negated_made : (q r : ℕ) (t : Tree) → BodyOf rd (length numbers) q t → r ≡ 2 * q + 1 → Stands rd (length numbers) r (¬ᵗ t)
  negated_made = negated rd (length numbers) table.small

  -- record 0 is none
  none_body : 0 < length numbers → BodyOf rd (length numbers) 0 (tree rd 0)
  none_body p = single_body rd (length numbers) table.small 0 0 0 0 p (sym (kind_zero rd)) (λ z. omega (arith, z)) (sym (least_zero rd)) refl

  pub body_none : (i : ℕ) → i < length numbers → i ≡ 0 → BodyOf rd (length numbers) 0 (tree rd i)
  body_none i p z = rw z (none_body (omega arith))

  pub key_none : (i : ℕ) → i < length numbers → i ≡ 0 → Stands rd (length numbers) 0 (tree rd i)
  key_none i p z = rw z (plain rd (length numbers) table.small 0 0 0 (tree rd 0) (none_body (omega arith)) (sym (kind_zero rd)) (λ y. omega (arith, y)) refl)

  module _ (i : ℕ) (pos : 0 < i) (x : References) (is : ReferencesAre rd i x) where
    kind_here : x.kind ≡ kind_of (tree rd i)
    kind_here = is.kind_is ∙ sym (kind_tree rd i pos)

    pub record_equation : (q : ℕ) → x.kind ≡ 20 → BodyOf rd (length numbers) q (tree rd x.first =ᵗ tree rd x.second) → BodyOf rd (length numbers) q (tree rd i)
    unfolding role if_lt if_eq
    record_equation q h b =
        let k : rd i 0 ≡ 20 = sym is.kind_is ∙ h in
        let first : x.first ≡ child rd i 1 = is.first_is ∙ sym (child_lower rd i 20 k 1 (omega arith)) in
        let last : x.second ≡ child rd i 2 = is.second_is ∙ sym (child_lower rd i 20 k 2 (omega arith)) in
        rw (equal_tree rd i pos k, ← first, ← last) b

    pub record_single : (left q : ℕ) → i < length numbers → (x.kind ≡ 20 → ⊥) → left ≡ least rd i → q ≡ 0 + 2 * (0 + 4096 * left) → BodyOf rd (length numbers) q (tree rd i)
    record_single left q p h el eq = single_body rd (length numbers) table.small i x.kind left q p kind_here h el eq

    pub record_negation : (r : ℕ) → x.kind ≡ 18 → Stands rd (length numbers) r (¬ᵗ (tree rd x.first)) → Stands rd (length numbers) r (tree rd i)
    unfolding role if_lt if_eq
    record_negation r h s =
        let k : rd i 0 ≡ 18 = sym is.kind_is ∙ h in
        let first : x.first ≡ child rd i 1 = is.first_is ∙ sym (child_lower rd i 18 k 1 (omega arith)) in
        rw (not_tree rd i pos k, ← first) s

    pub record_plain : (q r : ℕ) → (x.kind ≡ 18 → ⊥) → BodyOf rd (length numbers) q (tree rd i) → r ≡ 2 * q → Stands rd (length numbers) r (tree rd i)
    record_plain q r h b e = plain rd (length numbers) table.small q r x.kind (tree rd i) b kind_here h e

-- what a record refers to is a smaller record
module _ (rd : Reader) (i : ℕ) (x : References) (n : ℕ) (p : i < n) (pos : 0 < i) (is : ReferencesAre rd i x) where
  pub first_in : x.first < n
  first_in = omega (arith, is.first_is, lower_below rd i 1 pos)

  pub second_in : x.second < n
  second_in = omega (arith, is.second_is, lower_below rd i 2 pos)
