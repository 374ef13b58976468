-- The name of the temporary file that a file is written to before it takes its name.
use Rattle.std.specs.Prelude.{ℕ, ◌≡◌, List, [], ◌∷◌, ◌++◌, take}
use Rattle.io.specs.Counts.{IsPrefixLen}

-- the bytes of `.part`
abbrev pub part_end : List ℕ
part_end = 46 ∷ 112 ∷ 97 ∷ 114 ∷ 116 ∷ []

-- an area whose first n bytes are the name with `.part` behind it
pub record NamesPart (name area : List ℕ) (n : ℕ) : Type 0 where
  pub counts : IsPrefixLen n area
  pub text : take n area ≡ name ++ part_end
