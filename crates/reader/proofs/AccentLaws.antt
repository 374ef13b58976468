-- Laws of the database's lines: `composed` is theirs, and both spellings of a letter are one character.
use Rattle.std.specs.Prelude.{ℕ, ◌-◌, ◌≤◌, ◌≡◌, refl, List, [], ◌∷◌, Bool, true, false, eqb, leb}
use Rattle.std.proofs.Common.{sym, ap, ◌∙◌, arith, eqb-true, leb-true}
use Rattle.std.proofs.lemmas.Bool.{false≢true, eqb-false}
use Rattle.reader.specs.Tests.{both, either, between, every, if_lt, if_true}
use Rattle.reader.specs.Notions.{◌∈◌, here, there, Every}
use Rattle.reader.specs.Accents.{Decomposition, line, decompositions, letter_in, composed}
use Rattle.reader.specs.Names.{is_letter, accented, characters}
use Rattle.reader.specs.NameLaws.{spell_pair, spell_marked}

-- a test that every line passes
every_line : (test : Decomposition → Bool) (xs : List Decomposition) → every test xs ≡ true → Every (λ x. test x ≡ true) xs
unfolding every
every_line test [] h x m = elim m [ ]
every_line test (y ∷ ys) h x m = go (test y) refl m (λ k. every_line test ys k x)
  where
    go : (b : Bool) → test y ≡ b → x ∈ (y ∷ ys) → (every test ys ≡ true → x ∈ ys → test x ≡ true) → test x ≡ true
    go true e (here q) rest = rw q e
    go true e (there k) rest = rest (simp (every, e) at h) k
    go false e k rest = absurd (false≢true (simp (every, e) at h))

-- "may now follow an ASCII letter"
pub ascii_letters : Every (λ x. is_letter x.base ≡ true) decompositions
unfolding every is_letter either between if_lt
ascii_letters = every_line (λ x. is_letter x.base) decompositions refl

-- n is one of a list of numbers
unfoldable pub is_listed : ℕ → List ℕ → Bool
is_listed n [] = false
is_listed n (x ∷ xs) = either (eqb n x) (is_listed n xs)

-- "One of the byte pairs CC 80, CC 81, CC 82, CC 83, CC 88, CC 8A, CC A7"
abbrev pub marks : List ℕ
marks = 128 ∷ 129 ∷ 130 ∷ 131 ∷ 136 ∷ 138 ∷ 167 ∷ []

-- each line's mark is one of these
pub seven_marks : Every (λ x. is_listed x.mark marks ≡ true) decompositions
unfolding every is_listed either
seven_marks = every_line (λ x. is_listed x.mark marks) decompositions refl

-- "the letter U+00C0 to U+00FF": the character that C3 and one byte spell
pub accented_letters : Every (λ x. accented (x.letter - 64) ≡ x.letter) decompositions
unfolding every accented both either between if_lt
accented_letters x m = eqb-true _ _ (every_line (λ y. eqb (accented (y.letter - 64)) y.letter) decompositions refl x m)

pub letters_large : Every (λ x. 192 ≤ x.letter) decompositions
unfolding every
letters_large x m = leb-true 192 x.letter (every_line (λ y. leb 192 y.letter) decompositions refl x m)

-- each line gives its letter
pub unicode_letters : Every (λ x. composed x.base x.mark ≡ x.letter) decompositions
unfolding every composed letter_in if_true both
unicode_letters x m = eqb-true _ _ (every_line (λ y. eqb (composed y.base y.mark) y.letter) decompositions refl x m)

letter_listed : (xs : List Decomposition) (base mark : ℕ) → (letter_in xs base mark ≡ 0 → ⊥) → line (letter_in xs base mark) base mark ∈ xs
unfolding letter_in if_true both
letter_listed [] base mark h = absurd (h refl)
letter_listed (x ∷ xs) base mark h = go (eqb x.base base) refl (eqb x.mark mark) refl h (letter_listed xs base mark)
  where
    go : (v : Bool) → eqb x.base base ≡ v → (w : Bool) → eqb x.mark mark ≡ w → (letter_in (x ∷ xs) base mark ≡ 0 → ⊥) →
        ((letter_in xs base mark ≡ 0 → ⊥) → line (letter_in xs base mark) base mark ∈ xs) → line (letter_in (x ∷ xs) base mark) base mark ∈ (x ∷ xs)
    go true p true q k rest = simp (letter_in, if_true, both, p, q) (here {y = x} (rw (← eqb-true x.base base p, ← eqb-true x.mark mark q)))
    go true p false q k rest = simp (letter_in, if_true, both, p, q) (there (rest (simp (letter_in, if_true, both, p, q) at k)))
    go false p w q k rest = simp (letter_in, if_true, both, p) (there (rest (simp (letter_in, if_true, both, p) at k)))

-- and what is no line has none
pub no_other : (base mark : ℕ) → (composed base mark ≡ 0 → ⊥) → line (composed base mark) base mark ∈ decompositions
unfolding composed
no_other base mark h = letter_listed decompositions base mark h

-- a test that every line passes holds of what is composed
pub composed_passes : (test : Decomposition → Bool) → every test decompositions ≡ true →
    (base mark : ℕ) → (composed base mark ≡ 0 → ⊥) → test (line (composed base mark) base mark) ≡ true
composed_passes test h base mark some = every_line test decompositions h _ (no_other base mark some)

pub composed_large : (base mark : ℕ) → (composed base mark ≡ 0 → ⊥) → 192 ≤ composed base mark
composed_large base mark some = letters_large _ (no_other base mark some)

pub composed_small : (base mark : ℕ) → composed base mark ≤ 255
unfolding every
composed_small base mark = go (eqb (composed base mark) 0) refl
  where
    go : (b : Bool) → eqb (composed base mark) 0 ≡ b → composed base mark ≤ 255
    go true e = omega (arith, eqb-true (composed base mark) 0 e)
    go false e = leb-true (composed base mark) 255 (composed_passes (λ x. leb x.letter 255) refl base mark (eqb-false (composed base mark) 0 e))

-- "Letter and mark are the same character as the letter", whatever follows them
pub both_spellings : Every (λ x. (rest : List ℕ) → characters (x.base ∷ 204 ∷ x.mark ∷ rest) ≡ characters (195 ∷ (x.letter - 64) ∷ rest)) decompositions
unfolding is_letter either between if_lt
both_spellings x m rest =
    let letter = unicode_letters x m in
    let not_195 : x.base ≡ 195 → ⊥ = λ e. absurd (false≢true (sym (ap is_letter e) ∙ ascii_letters x m)) in
    spell_marked x.base 204 x.mark rest not_195 refl
    ∙ ap (λ (c : ℕ). c ∷ characters rest) (letter ∙ sym (accented_letters x m))
    ∙ sym (spell_pair 195 (x.letter - 64) rest refl)
