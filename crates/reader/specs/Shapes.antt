-- The form of a part or a goal: "every sign that the rules show around the letters", and the class of what has no sign.
use Rattle.std.specs.Prelude.{ℕ, List, [], ◌∷◌, Bool, true, false, eqb}
use Rattle.reader.specs.Tests.{both}
use Rattle.reader.specs.Kinds.{kinds, typeᶜ, termᶜ, formulaᶜ, class}
use Rattle.reader.specs.Trees.{Tree, kind_of, first_of}

pub data Shape : Type 0 where
  of_class : ℕ → Shape
  of_kind : ℕ → Shape
  negated : Shape → Shape

abbrev pub type : Shape
type = of_class typeᶜ

abbrev pub term : Shape
term = of_class termᶜ

abbrev pub formula : Shape
formula = of_class formulaᶜ

abbrev pub constant : Shape
constant = of_kind kinds.constant

abbrev pub conjunction : Shape
conjunction = of_kind kinds.and

abbrev pub implication : Shape
implication = of_kind kinds.implies

abbrev pub universal : Shape
universal = of_kind kinds.for_all

abbrev pub equation : Shape
equation = of_kind kinds.equal

abbrev pub for_all_types : Shape
for_all_types = of_kind kinds.for_all_types

unfoldable pub has_shape : Shape → Tree → Bool
has_shape (of_class c) t = eqb (class (kind_of t)) c
has_shape (of_kind k) t = eqb (kind_of t) k
has_shape (negated s) t = both (eqb (kind_of t) kinds.not) (has_shape s (first_of t))

-- "number, class or form of parts": the trees have the shapes, one by one
unfoldable pub have_shapes : List Shape → List Tree → Bool
have_shapes [] [] = true
have_shapes [] (t ∷ ts) = false
have_shapes (s ∷ ss) [] = false
have_shapes (s ∷ ss) (t ∷ ts) = elim (has_shape s t) [ true ↦ have_shapes ss ts | false ↦ false ]
