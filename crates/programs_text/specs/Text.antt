-- Text in a lent area: what stands there, and what is put behind it.
use Rattle.std.specs.Prelude.{ℕ, ◌+◌, ◌≡◌, List, [], ◌∷◌, ◌++◌, length, take, drop}
use Prim.Native.Char.{code}
use Prim.Native.String as string
use Prim.Native.String.{String}

-- a text of ASCII characters, as bytes
abbrev pub ascii : String → List ℕ
ascii string.[] = []
ascii (string.◌∷◌ c s) = code c ∷ ascii s

-- An area that held `before`: `text` stands from place `at` on and ends at place `end`; all other bytes are as they were.
pub record Appended (before : List ℕ) (at : ℕ) (text after : List ℕ) (end : ℕ) : Type 0 where
  pub ends : end ≡ at + length text
  pub stands : take end after ≡ take at before ++ text
  pub kept : drop end after ≡ drop end before
