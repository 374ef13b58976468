-- Plain bytes are below 128. Bytes that are plain and spell characters are those characters, and so are bytes that spell plain ones.
use Rattle.std.specs.Prelude.{ℕ, ◌+◌, ◌≤◌, ◌<◌, ◌≡◌, refl, List, [], ◌∷◌, Bool, true, false, not, eqb, ltb, leb}
use Rattle.std.proofs.Common.{sym, ◌∙◌, arith, eq-eqb, ne_eqb, ltb-true, ltb-false, lt-ltb, le-ltb}
use Rattle.std.proofs.lemmas.Bool.{false≢true}
use Rattle.reader.specs.Tests.{both, either, between, every, if_lt}
use Rattle.reader.specs.Names.{is_letter, is_digit_or_underscore, single, accented, characters}
use Rattle.reader.specs.Accents.{composed}
use Rattle.reader.proofs.AccentLaws.{composed_large}
use Rattle.reader.specs.NameLaws.{Spells, spells}
use Rattle.reader_characters.specs.Steps.{is_spelled}
use Rattle.reader_characters.specs.Spelling.{is_spelled_cons}

-- "below 128"
unfoldable pub is_plain_byte : ℕ → Bool
is_plain_byte b = ltb b 128

-- a test that every element passes
every_cons : {A : Type 0} (test : A → Bool) (x : A) (xs : List A) → every test (x ∷ xs) ≡ elim (test x) [ true ↦ every test xs | false ↦ false ]
unfolding every
every_cons test x xs = refl

pub every_in : {A : Type 0} (test : A → Bool) (x : A) (xs : List A) → every test (x ∷ xs) ≡ true → (test x ≡ true) × (every test xs ≡ true)
every_in test x xs h = go (test x) refl (rw every_cons at h)
  where
    go : (b : Bool) → test x ≡ b → elim (test x) as (λ y. Bool) [ true ↦ every test xs | false ↦ false ] ≡ true → (test x ≡ true) × (every test xs ≡ true)
    go true e k = (e, simp e at k)
    go false e k = absurd (false≢true (simp e at k))

pub every_more : {A : Type 0} (test : A → Bool) (x : A) (xs : List A) → test x ≡ true → every test xs ≡ true → every test (x ∷ xs) ≡ true
every_more test x xs e h = rw every_cons (simp e h)

-- the first of bytes
pub plain_yes : (b : ℕ) (bs : List ℕ) → b < 128 → every is_plain_byte (b ∷ bs) ≡ every is_plain_byte bs
unfolding is_plain_byte
plain_yes b bs h = rw every_cons (simp (is_plain_byte, lt-ltb b 128 h))

pub plain_one : (b : ℕ) → b < 128 → every is_plain_byte (b ∷ []) ≡ true
unfolding every
plain_one b h = plain_yes b [] h

pub plain_no : (b : ℕ) (bs : List ℕ) → 128 ≤ b → every is_plain_byte (b ∷ bs) ≡ false
unfolding is_plain_byte
plain_no b bs h = rw every_cons (simp (is_plain_byte, le-ltb b 128 h))

plain_below : (b : ℕ) (bs : List ℕ) → every is_plain_byte (b ∷ bs) ≡ true → b < 128
unfolding is_plain_byte
plain_below b bs h = ltb-true b 128 (every_in is_plain_byte b bs h).0

-- the first of characters, and the others
spelled_first : (c : ℕ) (cs : List ℕ) → is_spelled (c ∷ cs) ≡ true → c ≡ 0 → ⊥
spelled_first c cs h z = false≢true (simp (eq-eqb c 0 z) at (rw is_spelled_cons at h))

spelled_others : (c : ℕ) (cs : List ℕ) → is_spelled (c ∷ cs) ≡ true → is_spelled cs ≡ true
spelled_others c cs h = simp (ne_eqb c 0 (spelled_first c cs h)) at (rw is_spelled_cons at h)

-- a character of one byte is that byte; one of two or three is not plain
single_same : (b : ℕ) → (single b ≡ 0 → ⊥) → single b ≡ b
unfolding single
single_same b p = go (either (is_letter b) (is_digit_or_underscore b)) p
  where
    go : (x : Bool) → (◌≡◌ {A = ℕ} (elim x as (λ y. ℕ) [ true ↦ b | false ↦ 0 ]) 0 → ⊥) → ◌≡◌ {A = ℕ} (elim x as (λ y. ℕ) [ true ↦ b | false ↦ 0 ]) b
    go true q = refl
    go false q = absurd (q refl)

between_least : (low high a : ℕ) → between low high a ≡ true → low ≤ a
unfolding between if_lt
between_least low high a h = go (ltb a low) refl h
  where
    go : (z : Bool) → ltb a low ≡ z → elim z as (λ y. Bool) [ true ↦ false | false ↦ leb a high ] ≡ true → low ≤ a
    go true e q = absurd (false≢true q)
    go false e q = ltb-false a low e

accented_large : (b : ℕ) → (accented b ≡ 0 → ⊥) → 192 ≤ accented b
unfolding accented both
accented_large b p = go (between 128 191 b) refl (not (either (eqb b 151) (eqb b 183))) p
  where
    go : (x : Bool) → between 128 191 b ≡ x → (y : Bool) →
        (◌≡◌ {A = ℕ} (elim (elim x as (λ z. Bool) [ true ↦ y | false ↦ false ]) as (λ z. ℕ) [ true ↦ b + 64 | false ↦ 0 ]) 0 → ⊥) →
        192 ≤ elim (elim x as (λ z. Bool) [ true ↦ y | false ↦ false ]) as (λ z. ℕ) [ true ↦ b + 64 | false ↦ 0 ]
    go true e true q = omega (arith, between_least 128 191 b e)
    go true e false q = absurd (q refl)
    go false e y q = absurd (q refl)

-- bytes that are plain
plain_spells : {bs : List ℕ} → Spells bs → every is_plain_byte bs ≡ true → is_spelled (characters bs) ≡ true → characters bs ≡ bs
unfolding characters
plain_spells Spells.none p h = refl
plain_spells (Spells.one {b = b} {bs = bs} e s) p h =
    let k = rw e at h in
    rw (e, single_same b (spelled_first _ _ k), plain_spells s (every_in is_plain_byte b bs p).1 (spelled_others _ _ k))
plain_spells (Spells.pair {b = b} {c = c} {bs = bs} q e s) p h = absurd (omega (arith, plain_below b (c ∷ bs) p))
plain_spells (Spells.marked {b = b} {c = c} {d = d} {bs = bs} q e s) p h =
    absurd (omega (arith, plain_below c (d ∷ bs) (every_in is_plain_byte b (c ∷ d ∷ bs) p).1))

-- bytes whose characters are plain
spells_plain : {bs : List ℕ} → Spells bs → every is_plain_byte (characters bs) ≡ true → is_spelled (characters bs) ≡ true → characters bs ≡ bs
unfolding characters
spells_plain Spells.none p h = refl
spells_plain (Spells.one {b = b} {bs = bs} e s) p h =
    let k = rw e at h in
    rw (e, single_same b (spelled_first _ _ k), spells_plain s (every_in is_plain_byte _ _ (rw e at p)).1 (spelled_others _ _ k))
spells_plain (Spells.pair {c = c} q e s) p h =
    absurd (omega (arith, plain_below (accented c) _ (rw e at p), accented_large c (spelled_first _ _ (rw e at h))))
spells_plain (Spells.marked {b = b} {d = d} q e s) p h =
    absurd (omega (arith, plain_below (composed b d) _ (rw e at p), composed_large b d (spelled_first _ _ (rw e at h))))

-- plain bytes are the only ones that spell their characters
pub plain_only : (bs cs : List ℕ) → every is_plain_byte bs ≡ true → is_spelled (characters bs) ≡ true → characters bs ≡ characters cs → bs ≡ cs
plain_only bs cs p h e =
    let one = plain_spells (spells bs) p h in
    let plain : every is_plain_byte (characters cs) ≡ true = rw (← e, one) p in
    let well : is_spelled (characters cs) ≡ true = rw (← e) h in
    sym one ∙ e ∙ spells_plain (spells cs) plain well
