-- A symbol has a good name exactly where the test of its name passes, and a name of its own exactly where it is not taken.
use Rattle.std.specs.Prelude.{ℕ, zero, suc, ◌+◌, ◌-◌, ◌<◌, ◌≤◌, ◌≡◌, refl, List, [], ◌∷◌, ◌++◌, Bool, true, false, not, ◌⊎◌, eqb, get_or}
use Rattle.std.proofs.Common.{sym, ap, subst, ◌∙◌, inl, inr, ⊎_elim, arith, eq-eqb, ne_eqb, eqb-true}
use Rattle.std.proofs.lemmas.Bool.{false≢true, not-true}
use Rattle.reader.specs.Words.{Reader}
use Rattle.reader.specs.Tests.{both, either, between, if_eq, if_true}
use Rattle.reader.specs.Chains.{linked}
use Rattle.reader.specs.Accents.{decompositions, composed}
use Rattle.reader.specs.NameLaws.{spell_pair, spell_marked, spell_single, Spells, spells}
use Rattle.reader.proofs.AccentLaws.{ascii_letters, letters_large, unicode_letters, no_other, composed_large, both_spellings}
use Rattle.reader.specs.Names.{name_of, name_space, name_bytes, is_letter, is_digit_or_underscore, single, accented, characters}
use Rattle.reader.specs.Names.{name, has_bytes, starts_well, is_name, same_name, taken_below, name_taken}
use Rattle.reader_laws.specs.Scan.{both_parts, both_join, either_parts, between_parts, when_true, when_false}
use Rattle.reader_laws.specs.Record.{smaller_name_differs}
use Rattle.reader.specs.Notions.{here, there, Every}
use Rattle.reader_laws.specs.NotionLaws.{every_0, every_more, every_in, every_out, not_so, failed, either_first, either_second}
use Rattle.reader_meaning.specs.Spelling.{Letter, DigitOrUnderscore, Accented, Marked, Spelled, SpelledName, GoodName, ConstantOrFunction, Symbol}
use Rattle.reader_meaning.proofs.TableLaws.{between_out}

-- bytes
letter_in : (b : ℕ) → is_letter b ≡ true → Letter b
unfolding is_letter
letter_in b h =
    either_parts (between 65 90 b) _ h (λ e. let p = between_parts 65 90 b e in Letter.capital p.0 p.1)
    (λ e. let p = between_parts 97 122 b e in Letter.small p.0 p.1)

letter_out : {b : ℕ} → Letter b → is_letter b ≡ true
unfolding is_letter
letter_out {b} (Letter.capital p q) = either_first (between 65 90 b) (between 97 122 b) (between_out 65 90 b p q)
letter_out {b} (Letter.small p q) = either_second (between 65 90 b) (between 97 122 b) (between_out 97 122 b p q)

digit_in : (b : ℕ) → is_digit_or_underscore b ≡ true → DigitOrUnderscore b
unfolding is_digit_or_underscore
digit_in b h =
    either_parts (between 48 57 b) _ h (λ e. let p = between_parts 48 57 b e in DigitOrUnderscore.digit p.0 p.1)
    (λ e. DigitOrUnderscore.underscore (eqb-true b 95 e))

digit_out : {b : ℕ} → DigitOrUnderscore b → is_digit_or_underscore b ≡ true
unfolding is_digit_or_underscore
digit_out {b} (DigitOrUnderscore.digit p q) = either_first (between 48 57 b) (eqb b 95) (between_out 48 57 b p q)
digit_out {b} (DigitOrUnderscore.underscore e) = either_second (between 48 57 b) (eqb b 95) (eq-eqb b 95 e)

-- a letter is no digit, no underscore, and no C3
letter_only : {b : ℕ} → Letter b → DigitOrUnderscore b → ⊥
letter_only (Letter.capital p q) (DigitOrUnderscore.digit r s) = omega arith
letter_only (Letter.capital p q) (DigitOrUnderscore.underscore e) = omega arith
letter_only (Letter.small p q) (DigitOrUnderscore.digit r s) = omega arith
letter_only (Letter.small p q) (DigitOrUnderscore.underscore e) = omega arith

letter_range : {b : ℕ} → Letter b → (1 ≤ b) × (b ≤ 194)
letter_range (Letter.capital p q) = (omega arith, omega arith)
letter_range (Letter.small p q) = (omega arith, omega arith)

digit_range : {b : ℕ} → DigitOrUnderscore b → (1 ≤ b) × (b ≤ 194)
digit_range (DigitOrUnderscore.digit p q) = (omega arith, omega arith)
digit_range (DigitOrUnderscore.underscore e) = (omega arith, omega arith)

-- characters of one byte
single_is : (b : ℕ) → single b ≡ if_true (either (is_letter b) (is_digit_or_underscore b)) b 0
unfolding single if_true
single_is b = refl

single_letter : (b : ℕ) → Letter b → single b ≡ b
single_letter b l = single_is b ∙ when_true b 0 _ (either_first (is_letter b) (is_digit_or_underscore b) (letter_out l))

single_digit : (b : ℕ) → DigitOrUnderscore b → single b ≡ b
single_digit b m = single_is b ∙ when_true b 0 _ (either_second (is_letter b) (is_digit_or_underscore b) (digit_out m))

single_in : (b : ℕ) → (single b ≡ 0 → ⊥) → Letter b ⊎ DigitOrUnderscore b
single_in b h = go (either (is_letter b) (is_digit_or_underscore b)) refl
  where
    go : (v : Bool) → either (is_letter b) (is_digit_or_underscore b) ≡ v → Letter b ⊎ DigitOrUnderscore b
    go true e = either_parts (is_letter b) _ e (λ l. inl (letter_in b l)) (λ m. inr (digit_in b m))
    go false e = absurd (h (single_is b ∙ when_false b 0 _ e))

-- characters of two bytes
accented_is : (c : ℕ) → accented c ≡ if_true (both (between 128 191 c) (not (either (eqb c 151) (eqb c 183)))) (c + 64) 0
unfolding accented if_true
accented_is c = refl

accented_in : (c : ℕ) → (accented c ≡ 0 → ⊥) → Accented 195 c
accented_in c h = go (both (between 128 191 c) (not (either (eqb c 151) (eqb c 183)))) refl
  where
    go : (v : Bool) → both (between 128 191 c) (not (either (eqb c 151) (eqb c 183))) ≡ v → Accented 195 c
    go true e =
        let p = both_parts _ _ e in
        let r = between_parts 128 191 c p.0 in
        let none = not-true (either (eqb c 151) (eqb c 183)) p.1 in
        record {
          first = refl;
          low = r.0;
          high = r.1;
          not_times = λ q. failed (either (eqb c 151) (eqb c 183)) none (either_first (eqb c 151) (eqb c 183) (eq-eqb c 151 q));
          not_divided = λ q. failed (either (eqb c 151) (eqb c 183)) none (either_second (eqb c 151) (eqb c 183) (eq-eqb c 183 q));
        }
    go false e = absurd (h (accented_is c ∙ when_false _ 0 _ e))

accented_out : (b c : ℕ) → Accented b c → accented c ≡ c + 64
accented_out b c a =
    let none : either (eqb c 151) (eqb c 183) ≡ false =
    not_so (either (eqb c 151) (eqb c 183)) (λ h. either_parts (eqb c 151) _ h (λ e. a.not_times (eqb-true c 151 e)) (λ e. a.not_divided (eqb-true c 183 e))) in
    accented_is c ∙ when_true (c + 64) 0 _ (both_join _ _ (between_out 128 191 c a.low a.high) (rw none))

-- characters of three bytes
marked_in : (b c d : ℕ) → c ≡ 204 → (composed b d ≡ 0 → ⊥) → Marked b c d
marked_in b c d e h = record { first = e; letter = composed b d; decomposed = no_other b d h }

module _ {b c d : ℕ} (m : Marked b c d) where
  marked_letter : composed b d ≡ m.letter
  marked_letter = unicode_letters _ m.decomposed

  marked_some : composed b d ≡ 0 → ⊥
  marked_some z = omega (arith, marked_letter, letters_large _ m.decomposed)

  -- the byte before a mark is no C3 and no CC
  marked_base : Letter b
  marked_base = letter_in b (ascii_letters _ m.decomposed)

-- no character is missing
abbrev Found : List ℕ → Type 0
Found cs = Every (λ c. c ≡ 0 → ⊥) cs

-- no character begins with CC
no_mark_first : {bs : List ℕ} → Spelled bs → get_or bs 0 0 ≡ 204 → ⊥
no_mark_first Spelled.end e = omega arith
no_mark_first (Spelled.letter l s) e = let r = letter_range l in omega arith
no_mark_first (Spelled.digit_or_underscore m s) e = let r = digit_range m in omega arith
no_mark_first (Spelled.accented a s) e = let k = a.first in omega arith
no_mark_first (Spelled.marked m s) e = let r = letter_range (marked_base m) in omega arith

char_one : (b : ℕ) (bs : List ℕ) → b ≤ 194 → Spelled bs → characters (b ∷ bs) ≡ single b ∷ characters bs
char_one b bs h s = spell_single b bs (λ e. omega arith) (no_mark_first s)

char_three : {b c d : ℕ} (bs : List ℕ) → Marked b c d → characters (b ∷ c ∷ d ∷ bs) ≡ composed b d ∷ characters bs
char_three {b} {c} {d} bs m = let r = letter_range (marked_base m) in spell_marked b c d bs (λ e. omega arith) m.first

spelled_out : {bs : List ℕ} → Spelled bs → Found (characters bs)
unfolding characters
spelled_out Spelled.end = every_0 (λ c. c ≡ 0 → ⊥)
spelled_out (Spelled.letter {b = b} {bs = bs} l s) =
    let r = letter_range l in
    subst Found (sym (char_one b bs r.1 s))
    (every_more (λ c. c ≡ 0 → ⊥) (single b) (characters bs) (λ z. let q : single b ≡ b = single_letter b l in omega arith) (spelled_out s))
spelled_out (Spelled.digit_or_underscore {b = b} {bs = bs} m s) =
    let r = digit_range m in
    subst Found (sym (char_one b bs r.1 s))
    (every_more (λ c. c ≡ 0 → ⊥) (single b) (characters bs) (λ z. let q : single b ≡ b = single_digit b m in omega arith) (spelled_out s))
spelled_out (Spelled.accented {b = b} {c = c} {bs = bs} a s) =
    subst Found (sym (spell_pair b c bs a.first))
    (every_more (λ c. c ≡ 0 → ⊥) (accented c) (characters bs) (λ z. let q : accented c ≡ c + 64 = accented_out b c a in omega arith) (spelled_out s))
spelled_out (Spelled.marked {b = b} {d = d} {bs = bs} m s) =
    subst Found (sym (char_three bs m)) (every_more (λ c. c ≡ 0 → ⊥) (composed b d) (characters bs) (marked_some m) (spelled_out s))

-- Bytes with the same characters have them after other characters too.
first_of : (front bs : List ℕ) → (get_or front 0 0 ≡ 204 → ⊥) → (get_or bs 0 0 ≡ 204 → ⊥) → get_or (front ++ bs) 0 0 ≡ 204 → ⊥
first_of [] bs p q e = q e
first_of (a ∷ front) bs p q e = p e

after_one : (b : ℕ) {front : List ℕ} → b ≤ 194 → Spelled front → (bs cs : List ℕ) → (get_or bs 0 0 ≡ 204 → ⊥) → (get_or cs 0 0 ≡ 204 → ⊥) →
    characters (front ++ bs) ≡ characters (front ++ cs) → characters (b ∷ (front ++ bs)) ≡ characters (b ∷ (front ++ cs))
after_one b {front} r s bs cs p q e =
    let one : (ds : List ℕ) → (get_or ds 0 0 ≡ 204 → ⊥) → characters (b ∷ (front ++ ds)) ≡ single b ∷ characters (front ++ ds) =
    λ ds n. spell_single b (front ++ ds) (λ k. omega arith) (first_of front ds (no_mark_first s) n) in
    one bs p ∙ ap (λ (ds : List ℕ). single b ∷ ds) e ∙ sym (one cs q)

spelled_after : {front : List ℕ} → Spelled front → (bs cs : List ℕ) → (get_or bs 0 0 ≡ 204 → ⊥) → (get_or cs 0 0 ≡ 204 → ⊥) → characters bs ≡ characters cs →
    characters (front ++ bs) ≡ characters (front ++ cs)
spelled_after Spelled.end bs cs p q e = e
spelled_after (Spelled.letter {b = b} {bs = front} l s) bs cs p q e =
    after_one b (letter_range l).1 s bs cs p q (spelled_after s bs cs p q e)
spelled_after (Spelled.digit_or_underscore {b = b} {bs = front} m s) bs cs p q e =
    after_one b (digit_range m).1 s bs cs p q (spelled_after s bs cs p q e)
spelled_after (Spelled.accented {b = b} {c = c} {bs = front} a s) bs cs p q e =
    spell_pair b c (front ++ bs) a.first ∙ ap (λ (ds : List ℕ). accented c ∷ ds) (spelled_after s bs cs p q e) ∙ sym (spell_pair b c (front ++ cs) a.first)
spelled_after (Spelled.marked {b = b} {d = d} {bs = front} m s) bs cs p q e =
    char_three (front ++ bs) m ∙ ap (λ (ds : List ℕ). composed b d ∷ ds) (spelled_after s bs cs p q e) ∙ sym (char_three (front ++ cs) m)

-- "Names count as taken by characters": wherever in a name a letter stands, both of its spellings give the name the same characters.
pub either_spelling : {front : List ℕ} → Spelled front →
    Every (λ x. (rest : List ℕ) → characters (front ++ (x.base ∷ 204 ∷ x.mark ∷ rest)) ≡ characters (front ++ (195 ∷ (x.letter - 64) ∷ rest))) decompositions
either_spelling s x m rest =
    let r = letter_range (letter_in x.base (ascii_letters x m)) in
    spelled_after s _ _ (λ e. omega arith) (λ e. omega arith) (both_spellings x m rest)

-- what the first character, and the rest, give
one_in : (b : ℕ) (bs : List ℕ) → (single b ≡ 0 → ⊥) → Spelled bs → Spelled (b ∷ bs)
one_in b bs h s = ⊎_elim (λ l. Spelled.letter l s) (λ m. Spelled.digit_or_underscore m s) (single_in b h)

two_in : (b c : ℕ) → b ≡ 195 → (accented c ≡ 0 → ⊥) → Accented b c
two_in b c e h = rw e (accented_in c h)

spelled_in : {bs : List ℕ} → Spells bs → Found (characters bs) → Spelled bs
spelled_in Spells.none h = Spelled.end
spelled_in (Spells.one {b = b} {bs = bs} e s) h =
    let g = subst Found e h in
    one_in b bs (g (single b) (here refl)) (spelled_in s (λ x m. g x (there m)))
spelled_in (Spells.pair {b = b} {c = c} p e s) h =
    let g = subst Found e h in
    Spelled.accented (two_in b c p (g (accented c) (here refl))) (spelled_in s (λ x m. g x (there m)))
spelled_in (Spells.marked {b = b} {c = c} {d = d} p e s) h =
    let g = subst Found e h in
    Spelled.marked (marked_in b c d p (g (composed b d) (here refl))) (spelled_in s (λ x m. g x (there m)))

-- the first character
name_in : {bs : List ℕ} → Spelled bs → starts_well (characters bs) ≡ true → SpelledName bs
unfolding characters starts_well
name_in Spelled.end w = absurd (false≢true w)
name_in (Spelled.letter l s) w = SpelledName.letter l s
name_in (Spelled.accented a s) w = SpelledName.accented a s
name_in (Spelled.marked m s) w = SpelledName.marked m s
name_in (Spelled.digit_or_underscore {b = b} {bs = bs} m s) w =
    let r = digit_range m in
    let e : characters (b ∷ bs) ≡ b ∷ characters bs = char_one b bs r.1 s ∙ ap (λ (c : ℕ). c ∷ characters bs) (single_digit b m) in
    let v : not (is_digit_or_underscore b) ≡ true = ap starts_well (sym e) ∙ w in
    failed (is_digit_or_underscore b) (not-true _ v) (digit_out m)

all_spelled : {bs : List ℕ} → SpelledName bs → Spelled bs
all_spelled (SpelledName.letter l s) = Spelled.letter l s
all_spelled (SpelledName.accented a s) = Spelled.accented a s
all_spelled (SpelledName.marked m s) = Spelled.marked m s

-- a letter U+00C0 to U+00FF is no digit and no underscore
large_only : (c : ℕ) → 192 ≤ c → DigitOrUnderscore c → ⊥
large_only c low (DigitOrUnderscore.digit p q) = omega arith
large_only c low (DigitOrUnderscore.underscore e) = omega arith

starts_with : (ds : List ℕ) (c : ℕ) (cs : List ℕ) → ds ≡ c ∷ cs → (DigitOrUnderscore c → ⊥) → starts_well ds ≡ true
unfolding starts_well
starts_with ds c cs e no_digit = ap starts_well e ∙ rw (not_so (is_digit_or_underscore c) (λ h. no_digit (digit_in c h)))

starts : {bs : List ℕ} → SpelledName bs → starts_well (characters bs) ≡ true
starts (SpelledName.letter {b = b} {bs = bs} l s) =
    let r = letter_range l in
    starts_with _ b (characters bs) (char_one b bs r.1 s ∙ ap (λ (c : ℕ). c ∷ characters bs) (single_letter b l)) (letter_only l)
starts (SpelledName.accented {b = b} {c = c} {bs = bs} a s) =
    starts_with _ (c + 64) (characters bs) (spell_pair b c bs a.first ∙ ap (λ (d : ℕ). d ∷ characters bs) (accented_out b c a))
    (large_only (c + 64) (omega (arith, a.low)))
starts (SpelledName.marked {b = b} {d = d} {bs = bs} m s) =
    starts_with _ (composed b d) (characters bs) (char_three bs m) (large_only (composed b d) (composed_large b d (marked_some m)))

-- a record of a name that is not empty
bytes_in : (rd : Reader) (j : ℕ) → has_bytes rd j ≡ true → rd j 1 ≡ 0 → rd j 2 ≡ 0 → ⊥
unfolding has_bytes
bytes_in rd j h p q = failed _ (not-true _ h) (both_join _ _ (eq-eqb _ 0 p) (eq-eqb _ 0 q))

bytes_out : (rd : Reader) (j : ℕ) → (rd j 1 ≡ 0 → rd j 2 ≡ 0 → ⊥) → has_bytes rd j ≡ true
unfolding has_bytes
bytes_out rd j h =
    rw (not_so (both (eqb (rd j 1) 0) (eqb (rd j 2) 0)) (λ b. let p = both_parts _ _ b in h (eqb-true _ 0 p.0) (eqb-true _ 0 p.1)))

-- a symbol's name
pub good_in : (rd : Reader) (i : ℕ) → is_name rd i ≡ true → GoodName rd i
unfolding is_name name
good_in rd i h =
    let p = both_parts _ _ h in
    let q = both_parts _ _ p.1 in
    let given : (c : ℕ) → not (eqb c 0) ≡ true → c ≡ 0 → ⊥ = λ c t z. failed (eqb c 0) (not-true _ t) (eq-eqb c 0 z) in
    let found : Found (name rd i) = every_in (λ c. not (eqb c 0)) (λ c. c ≡ 0 → ⊥) given (name rd i) q.0 in
    record {
      none_empty = every_in (has_bytes rd) (λ j. rd j 1 ≡ 0 → rd j 2 ≡ 0 → ⊥) (bytes_in rd) _ p.0;
      spelled = name_in (spelled_in (spells (name_bytes rd (linked rd (name_of rd i)))) found) q.1;
    }

pub good_out : (rd : Reader) (i : ℕ) → GoodName rd i → is_name rd i ≡ true
unfolding is_name name
good_out rd i g =
    both_join _ _ (every_out (has_bytes rd) (λ j. rd j 1 ≡ 0 → rd j 2 ≡ 0 → ⊥) (bytes_out rd) _ g.none_empty)
    (both_join _ _
    (every_out (λ c. not (eqb c 0)) (λ c. c ≡ 0 → ⊥) (λ c no. rw (ne_eqb c 0 no)) (name rd i) (spelled_out (all_spelled g.spelled)))
    (starts g.spelled))

-- Names of one's own.

same_name_lem : (cs ds : List ℕ) → same_name cs ds ≡ true → cs ≡ ds
unfolding same_name
same_name_lem [] [] h = refl
same_name_lem [] (d ∷ ds) h = absurd (false≢true h)
same_name_lem (c ∷ cs) [] h = absurd (false≢true h)
same_name_lem (c ∷ cs) (d ∷ ds) h = go (eqb c d) refl h (same_name_lem cs ds)
  where
    go : (b : Bool) → eqb c d ≡ b → ◌≡◌ {A = Bool} (elim b [ true ↦ same_name cs ds | false ↦ false ]) true → (same_name cs ds ≡ true → cs ≡ ds) → c ∷ cs ≡ d ∷ ds
    go true e h ih = let p = eqb-true c d e in let q = ih h in cc
    go false e h ih = absurd (false≢true h)

-- name spaces
space_type : (k : ℕ) → k ≡ 3 → name_space k ≡ 1
unfolding name_space if_eq
space_type k e = ap name_space e

space_other : {k : ℕ} → ConstantOrFunction k → name_space k ≡ 2
unfolding name_space if_eq
space_other (ConstantOrFunction.constant e) = ap name_space e
space_other (ConstantOrFunction.function e) = ap name_space e

type_space : (k : ℕ) → name_space k ≡ 1 → k ≡ 3
unfolding name_space if_eq
type_space k h = go (eqb k 3) refl (eqb k 7) (eqb k 8) h
  where
    go : (a : Bool) → eqb k 3 ≡ a → (b c : Bool) →
        ◌≡◌ {A = ℕ} (elim a [ true ↦ 1 | false ↦ elim b [ true ↦ 2 | false ↦ elim c [ true ↦ 2 | false ↦ 0 ] ] ]) 1 → k ≡ 3
    go true p b c h = eqb-true k 3 p
    go false p true c h = absurd (omega arith)
    go false p false true h = absurd (omega arith)
    go false p false false h = absurd (omega arith)

other_space : (k : ℕ) → name_space k ≡ 2 → ConstantOrFunction k
unfolding name_space if_eq
other_space k h = go (eqb k 3) refl (eqb k 7) refl (eqb k 8) refl h
  where
    go : (a : Bool) → eqb k 3 ≡ a → (b : Bool) → eqb k 7 ≡ b → (c : Bool) → eqb k 8 ≡ c →
        ◌≡◌ {A = ℕ} (elim a [ true ↦ 1 | false ↦ elim b [ true ↦ 2 | false ↦ elim c [ true ↦ 2 | false ↦ 0 ] ] ]) 2 → ConstantOrFunction k
    go true p b q c r h = absurd (omega arith)
    go false p true q c r h = ConstantOrFunction.constant (eqb-true k 7 q)
    go false p false q true r h = ConstantOrFunction.function (eqb-true k 8 r)
    go false p false q false r h = absurd (omega arith)

-- no smaller record of a name space has the characters
free_below : (rd : Reader) (space : ℕ) (cs : List ℕ) (n : ℕ) →
    ((j : ℕ) → 1 ≤ j → j ≤ n → name_space (rd j 0) ≡ space → name rd j ≡ cs → ⊥) → taken_below rd space cs n ≡ false
unfolding taken_below
free_below rd space cs zero h = refl
free_below rd space cs (suc n) h =
    let none : both (eqb (name_space (rd (suc n) 0)) space) (same_name (name rd (suc n)) cs) ≡ false =
    not_so _ (λ b. let p = both_parts _ _ b in h (suc n) (omega arith) (omega arith) (eqb-true _ space p.0) (same_name_lem _ cs p.1)) in
    let rest : taken_below rd space cs n ≡ false = free_below rd space cs n (λ j p q. h j p (omega arith)) in
    simp (taken_below, none) rest

pub free_out : (rd : Reader) (i : ℕ) → ((j : ℕ) → 1 ≤ j → j < i → name_space (rd j 0) ≡ name_space (rd i 0) → name rd j ≡ name rd i → ⊥) → name_taken rd i ≡ false
unfolding name_taken
free_out rd zero h = refl
free_out rd (suc n) h = free_below rd (name_space (rd (suc n) 0)) (name rd (suc n)) n (λ j p q. h j p (omega arith))

-- a name that is not taken is one's own, and the other way round
module _ (rd : Reader) (i : ℕ) where
  pub own_type_in : name_taken rd i ≡ false → rd i 0 ≡ 3 → (j : ℕ) → 1 ≤ j → j < i → rd j 0 ≡ 3 → name rd j ≡ name rd i → ⊥
  own_type_in h e j p q f = smaller_name_differs rd i j h p q (space_type _ f ∙ sym (space_type _ e))

  pub own_in : name_taken rd i ≡ false → ConstantOrFunction (rd i 0) → (j : ℕ) → 1 ≤ j → j < i → ConstantOrFunction (rd j 0) → name rd j ≡ name rd i → ⊥
  own_in h e j p q f = smaller_name_differs rd i j h p q (space_other f ∙ sym (space_other e))

  pub own_out : Symbol (rd i 0) → (rd i 0 ≡ 3 → (j : ℕ) → 1 ≤ j → j < i → rd j 0 ≡ 3 → name rd j ≡ name rd i → ⊥) →
      (ConstantOrFunction (rd i 0) → (j : ℕ) → 1 ≤ j → j < i → ConstantOrFunction (rd j 0) → name rd j ≡ name rd i → ⊥) → name_taken rd i ≡ false
  own_out (Symbol.given_type e) t o = free_out rd i (λ j p q f. t e j p q (type_space _ (f ∙ space_type _ e)))
  own_out (Symbol.other e) t o = free_out rd i (λ j p q f. o e j p q (other_space _ (f ∙ space_other e)))

-- a record that names a name is a symbol
pub symbol_of : (rd : Reader) (i : ℕ) → (name_of rd i ≡ 0 → ⊥) → Symbol (rd i 0)
unfolding name_of if_eq
symbol_of rd i h = go (eqb (rd i 0) 3) refl (eqb (rd i 0) 7) refl (eqb (rd i 0) 8) refl h
  where
    go : (a : Bool) → eqb (rd i 0) 3 ≡ a → (b : Bool) → eqb (rd i 0) 7 ≡ b → (c : Bool) → eqb (rd i 0) 8 ≡ c →
        (◌≡◌ {A = ℕ} (elim a [ true ↦ rd i 1 | false ↦ elim b [ true ↦ rd i 2 | false ↦ elim c [ true ↦ rd i 3 | false ↦ 0 ] ] ]) 0 → ⊥) → Symbol (rd i 0)
    go true p b q c r h = Symbol.given_type (eqb-true _ 3 p)
    go false p true q c r h = Symbol.other (ConstantOrFunction.constant (eqb-true _ 7 q))
    go false p false q true r h = Symbol.other (ConstantOrFunction.function (eqb-true _ 8 r))
    go false p false q false r h = absurd (h refl)
