-- Laws of the characters that bytes spell.
use Rattle.std.specs.Prelude.{ℕ, ◌≡◌, refl, List, [], ◌∷◌, Bool, true, false, eqb, get_or}
use Rattle.std.proofs.Common.{ne_eqb, eqb-true}
use Rattle.std.proofs.lemmas.Bool.{eqb-false}
use Rattle.reader.specs.Tests.{either, between, if_eq, if_lt}
use Rattle.reader.specs.Accents.{composed}
use Rattle.reader.specs.Names.{is_letter, is_digit_or_underscore, single, accented, characters}

spell_three : (b c d : ℕ) (bs : List ℕ) → characters (b ∷ c ∷ d ∷ bs) ≡
    if_eq b 195 (accented c ∷ characters (d ∷ bs)) (if_eq c 204 (composed b d ∷ characters bs) (single b ∷ characters (c ∷ d ∷ bs)))
unfolding characters
spell_three b c d bs = refl

-- the character at the front of bytes: two bytes from C3 on
pub spell_pair : (b c : ℕ) (bs : List ℕ) → b ≡ 195 → characters (b ∷ c ∷ bs) ≡ accented c ∷ characters bs
unfolding characters if_eq
spell_pair b c [] e = rw e
spell_pair b c (d ∷ bs) e = rw e

-- C3 alone
pub spell_half : (b : ℕ) → b ≡ 195 → characters (b ∷ []) ≡ 0 ∷ []
unfolding characters single either is_letter is_digit_or_underscore between if_lt
spell_half b e = rw e

-- a byte, and a mark after it
pub spell_marked : (b c d : ℕ) (bs : List ℕ) → (b ≡ 195 → ⊥) → c ≡ 204 → characters (b ∷ c ∷ d ∷ bs) ≡ composed b d ∷ characters bs
unfolding characters if_eq
spell_marked b c d bs n e = rw e (simp (characters, if_eq, ne_eqb b 195 n))

-- a byte, and CC at the end
pub spell_cut : (b c : ℕ) → (b ≡ 195 → ⊥) → characters (b ∷ c ∷ []) ≡ single b ∷ characters (c ∷ [])
unfolding characters if_eq
spell_cut b c n = simp (characters, if_eq, ne_eqb b 195 n)

-- a byte, and no CC after it
pub spell_single : (b : ℕ) (bs : List ℕ) → (b ≡ 195 → ⊥) → (get_or bs 0 0 ≡ 204 → ⊥) → characters (b ∷ bs) ≡ single b ∷ characters bs
unfolding characters if_eq
spell_single b [] n k = refl
spell_single b (c ∷ []) n k = spell_cut b c n
spell_single b (c ∷ d ∷ bs) n k = rw spell_three (simp (if_eq, ne_eqb b 195 n, ne_eqb c 204 k))

-- Bytes taken character by character, and what each character is: so that a law of all of them has a case for each way to spell one.
pub data Spells : List ℕ → Type 0 where
  none : Spells []
  one : {b : ℕ} {bs : List ℕ} → characters (b ∷ bs) ≡ single b ∷ characters bs → Spells bs → Spells (b ∷ bs)
  pair : {b c : ℕ} {bs : List ℕ} → b ≡ 195 → characters (b ∷ c ∷ bs) ≡ accented c ∷ characters bs → Spells bs → Spells (b ∷ c ∷ bs)
  marked : {b c d : ℕ} {bs : List ℕ} → c ≡ 204 → characters (b ∷ c ∷ d ∷ bs) ≡ composed b d ∷ characters bs → Spells bs → Spells (b ∷ c ∷ d ∷ bs)

pub spells : (bs : List ℕ) → Spells bs
unfolding characters
spells [] = Spells.none
spells (b ∷ []) = Spells.one refl Spells.none
spells (b ∷ c ∷ []) = go (eqb b 195) refl (spells (c ∷ []))
  where
    go : (x : Bool) → eqb b 195 ≡ x → Spells (c ∷ []) → Spells (b ∷ c ∷ [])
    go true e s = let q = eqb-true b 195 e in Spells.pair q (spell_pair b c [] q) Spells.none
    go false e s = Spells.one (spell_cut b c (eqb-false b 195 e)) s
spells (b ∷ c ∷ d ∷ bs) = go (eqb b 195) refl (eqb c 204) refl (spells bs) (spells (d ∷ bs)) (spells (c ∷ d ∷ bs))
  where
    go : (x : Bool) → eqb b 195 ≡ x → (y : Bool) → eqb c 204 ≡ y → Spells bs → Spells (d ∷ bs) → Spells (c ∷ d ∷ bs) → Spells (b ∷ c ∷ d ∷ bs)
    go true e y f s t u = let q = eqb-true b 195 e in Spells.pair q (spell_pair b c (d ∷ bs) q) t
    go false e true f s t u = let q = eqb-true c 204 f in Spells.marked q (spell_marked b c d bs (eqb-false b 195 e) q) s
    go false e false f s t u = Spells.one (spell_single b (c ∷ d ∷ bs) (eqb-false b 195 e) (eqb-false c 204 f)) u
