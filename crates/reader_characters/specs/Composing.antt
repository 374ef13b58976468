-- The letters of an ASCII letter and each mark, packed in one number: the ways out of the code that looks them up.
use Rattle.std.specs.Prelude.{ℕ, ◌/◌, ◌%◌, ◌≡◌, List, [], ◌∷◌, map, Bool, true, false, eqb, get_or}
use Rattle.std.proofs.Math.Path.{refl, sym}
use Rattle.std.proofs.Common.{ap, ◌∙◌, ne_eqb, eqb-true}
use Rattle.std.proofs.lemmas.Bool.{false≢true, eqb-false}
use Rattle.reader.specs.Tests.{either, every}
use Rattle.reader.specs.Accents.{Decomposition, line, decompositions, composed}
use Rattle.reader.proofs.AccentLaws.{is_listed, marks, composed_passes}

-- the seven bytes that a number packs, the low one first
unfoldable pub unpacked : ℕ → List ℕ
unpacked n =
    n % 256 ∷ n / 256 % 256 ∷ n / 65536 % 256 ∷ n / 16777216 % 256 ∷ n / 4294967296 % 256 ∷ n / 1099511627776 % 256 ∷ n / 281474976710656 % 256 ∷ []

-- the letters of l and each mark
unfoldable pub letters_of : ℕ → List ℕ
letters_of l = map (composed l) marks

-- What the last arm, `_`, of a `match` knows: n is none of the arms before it, the last of which comes first.
abbrev NoneOf : ℕ → List ℕ → Type 0
NoneOf n [] = Unit
NoneOf n (x ∷ xs) = NoneOf n xs × (n ≡ x → ⊥)

not_listed : (n : ℕ) (xs : List ℕ) → NoneOf n xs → is_listed n xs ≡ false
unfolding is_listed either
not_listed n [] h = refl
not_listed n (x ∷ xs) h = simp (is_listed, either, ne_eqb n x h.1) (not_listed n xs h.0)

-- the arms of `letters_of` and of `composed_of`, the last one first
abbrev pub bases : List ℕ
bases = 121 ∷ 117 ∷ 111 ∷ 110 ∷ 105 ∷ 101 ∷ 99 ∷ 97 ∷ 89 ∷ 85 ∷ 79 ∷ 78 ∷ 73 ∷ 69 ∷ 67 ∷ 65 ∷ []

abbrev pub last_marks : List ℕ
last_marks = 167 ∷ 138 ∷ 136 ∷ 131 ∷ 130 ∷ 129 ∷ 128 ∷ []

module _ (l m : ℕ) where
  -- no line has the base, or the mark
  none_composed : (test : Decomposition → Bool) → every test decompositions ≡ true → test (line (composed l m) l m) ≡ false → composed l m ≡ 0
  none_composed test all fails = go (eqb (composed l m) 0) refl
    where
      go : (b : Bool) → eqb (composed l m) 0 ≡ b → composed l m ≡ 0
      go true e = eqb-true (composed l m) 0 e
      go false e = absurd (false≢true (sym fails ∙ composed_passes test all l m (eqb-false (composed l m) 0 e)))

  no_base : NoneOf l bases → composed l m ≡ 0
  unfolding every is_listed either
  no_base h = none_composed (λ x. is_listed x.base bases) refl (not_listed l bases h)

  pub no_mark : NoneOf m last_marks → 0 ≡ composed l m
  unfolding every is_listed either
  no_mark h = sym (none_composed (λ x. is_listed x.mark last_marks) refl (not_listed m last_marks h))

pub no_letters : (l : ℕ) → NoneOf l bases → unpacked 0 ≡ letters_of l
unfolding unpacked letters_of
no_letters l h =
    rw (no_base l 128 h, no_base l 129 h, no_base l 130 h, no_base l 131 h, no_base l 136 h, no_base l 138 h, no_base l 167 h)

-- one of the letters
pub letter_at : (l packed k m : ℕ) → unpacked packed ≡ letters_of l → get_or (letters_of l) k 0 ≡ composed l m → get_or (unpacked packed) k 0 ≡ composed l m
letter_at l packed k m e q = ap (λ (xs : List ℕ). get_or xs k 0) e ∙ q
