-- The proof rules, kinds 32 to 46, as rows of the paper's table: parts, what must be in the sequent, what each premise adds.
use Rattle.std.specs.Prelude.{ℕ, List, [], ◌∷◌, Bool, false, drop, replicate}
use Rattle.reader.specs.Tests.{both, every, if_eq}
use Rattle.reader.specs.Trees.{Tree, atom_of, first_of, second_of, same, ⊥ᵗ, ⊤ᵗ, ¬ᵗ◌, ◌=ᵗ◌}
use Rattle.reader.specs.Variables.{replaced, bears, indices_below, is_closed, instance}
use Rattle.reader.specs.Typing.{type_of}
use Rattle.reader.specs.Members.{part}
use Rattle.reader.specs.Shapes.{Shape, negated, type, term, formula, constant, conjunction, implication, universal, equation, for_all_types}

pub record Row : Type 0 where
  -- 13: number, class and form of the parts
  pub shapes : List Shape
  -- 14: what must be in the sequent
  pub needs : List Tree
  -- 15: letters that stand for one thing are equal, replacement, types, closedness
  pub fits : Bool
  -- 16: the constants that must be fresh
  pub fresh : List ℕ
  -- what each premise adds; 13: as many premises
  pub adds : List (List Tree)

-- "Every part but B and H is closed"
abbrev pub are_closed : List Tree → Bool
are_closed ps = every is_closed ps

-- a row without a fresh constant
abbrev pub rule : List Shape → List Tree → Bool → List (List Tree) → Row
rule shapes needs fits adds = record { shapes = shapes; needs = needs; fits = fits; fresh = []; adds = adds }

-- A rule that shows P and Q, or t and u, under the sign of its one part: the part, "it", and the two letters.
abbrev letters : List Tree → (Tree → Tree → Tree → Row) → Row
letters ps row = row (part ps 0) (first_of (part ps 0)) (second_of (part ps 0))

-- the same where the sign stands under ¬
abbrev letters¬ : List Tree → (Tree → Tree → Tree → Row) → Row
letters¬ ps row = row (part ps 0) (first_of (first_of (part ps 0))) (second_of (first_of (part ps 0)))

-- The rows, with the trees of a node's parts: what the paper's line says stands before each.
module _ (ps : List Tree) where
  -- none: ⊥
  abbrev pub row32 : Row
  row32 = rule [] (⊥ᵗ ∷ []) (are_closed ps) []

  -- none: ¬⊤
  abbrev pub row33 : Row
  row33 = rule [] (¬ᵗ ⊤ᵗ ∷ []) (are_closed ps) []

  -- P: P, ¬P
  abbrev pub row34 : Row
  row34 = rule (formula ∷ []) (part ps 0 ∷ ¬ᵗ (part ps 0) ∷ []) (are_closed ps) []

  -- ¬(t=t): it
  abbrev pub row35 : Row
  row35 = letters¬ ps (λ it t u. rule (negated equation ∷ []) (it ∷ []) (both (are_closed ps) (same t u)) [])

  -- t=u: it, ¬(u=t)
  abbrev pub row36 : Row
  row36 = letters ps (λ it t u. rule (equation ∷ []) (it ∷ ¬ᵗ (u =ᵗ t) ∷ []) (are_closed ps) [])

  -- P: nothing; P / ¬P
  abbrev pub row37 : Row
  row37 = rule (formula ∷ []) [] (are_closed ps) ((part ps 0 ∷ []) ∷ (¬ᵗ (part ps 0) ∷ []) ∷ [])

  -- ¬¬P: it; P
  abbrev pub row38 : Row
  row38 = letters¬ ps (λ it P _. rule (negated (negated formula) ∷ []) (it ∷ []) (are_closed ps) ((P ∷ []) ∷ []))

  -- P∧Q: it; P, Q
  abbrev pub row39 : Row
  row39 = letters ps (λ it P Q. rule (conjunction ∷ []) (it ∷ []) (are_closed ps) ((P ∷ Q ∷ []) ∷ []))

  -- ¬(P⇒Q): it; P, ¬Q
  abbrev pub row40 : Row
  row40 = letters¬ ps (λ it P Q. rule (negated implication ∷ []) (it ∷ []) (are_closed ps) ((P ∷ ¬ᵗ Q ∷ []) ∷ []))

  -- P⇒Q: it; ¬P / Q
  abbrev pub row41 : Row
  row41 = letters ps (λ it P Q. rule (implication ∷ []) (it ∷ []) (are_closed ps) ((¬ᵗ P ∷ []) ∷ (Q ∷ []) ∷ []))

  -- ¬(P∧Q): it; ¬P / ¬Q
  abbrev pub row42 : Row
  row42 = letters¬ ps (λ it P Q. rule (negated conjunction ∷ []) (it ∷ []) (are_closed ps) ((¬ᵗ P ∷ []) ∷ (¬ᵗ Q ∷ []) ∷ []))

  -- ¬∀B, constant c, B(c): first; ¬B(c); c fresh, and of the type τ of the place
  abbrev pub row43 : Row
  row43 = letters¬ ps (λ it τ B. record {
    shapes = negated universal ∷ constant ∷ formula ∷ [];
    needs = it ∷ [];
    fits = both (are_closed ps) (both (same (type_of (part ps 1)) τ) (same (part ps 2) (replaced 0 (part ps 1) B)));
    fresh = atom_of (part ps 1) ∷ [];
    adds = (¬ᵗ (part ps 2) ∷ []) ∷ [];
  })

  -- ∀B, term t, B(t): first; B(t); t of the type τ of the place
  abbrev pub row44 : Row
  row44 = letters ps (λ it τ B. rule (universal ∷ term ∷ formula ∷ []) (it ∷ [])
      (both (are_closed ps) (both (same (type_of (part ps 1)) τ) (same (part ps 2) (replaced 0 (part ps 1) B)))) ((part ps 2 ∷ []) ∷ []))

  -- a kind 22 H, its instance, as many types as its count, variable 0's first: H; the instance
  abbrev pub row45 : Row
  row45 = letters ps (λ H _ P. rule (for_all_types ∷ formula ∷ replicate (atom_of H) type) (H ∷ [])
      (both (are_closed (drop 1 ps)) (same (part ps 1) (instance (drop 2 ps) P))) ((part ps 1 ∷ []) ∷ []))

  -- B, t, u, B(t), B(u): B(t); ¬(t=u) / B(u); B open in index 0 at most, t and u of one type, that of each place
  abbrev pub row46 : Row
  row46 =
      let B : Tree = part ps 0 in
      let t : Tree = part ps 1 in
      let u : Tree = part ps 2 in
      let replacement : Bool = both (same (part ps 3) (replaced 0 t B)) (same (part ps 4) (replaced 0 u B)) in
      let types : Bool = both (same (type_of t) (type_of u)) (both (bears 0 (type_of t) B) replacement) in
      rule (formula ∷ term ∷ term ∷ formula ∷ formula ∷ []) (part ps 3 ∷ [])
      (both (indices_below 1 B) (both (are_closed (drop 1 ps)) types)) ((¬ᵗ (t =ᵗ u) ∷ []) ∷ (part ps 4 ∷ []) ∷ [])

-- no rule: nothing fits
abbrev pub no_row : Row
no_row = rule [] [] false []

-- the row of rule kind k, with the trees of a node's parts
unfoldable pub row : ℕ → List Tree → Row
row k ps =
    if_eq k 32 (row32 ps)
    (if_eq k 33 (row33 ps)
    (if_eq k 34 (row34 ps)
    (if_eq k 35 (row35 ps)
    (if_eq k 36 (row36 ps)
    (if_eq k 37 (row37 ps)
    (if_eq k 38 (row38 ps)
    (if_eq k 39 (row39 ps)
    (if_eq k 40 (row40 ps)
    (if_eq k 41 (row41 ps)
    (if_eq k 42 (row42 ps)
    (if_eq k 43 (row43 ps)
    (if_eq k 44 (row44 ps)
    (if_eq k 45 (row45 ps)
    (if_eq k 46 (row46 ps) no_row))))))))))))))
