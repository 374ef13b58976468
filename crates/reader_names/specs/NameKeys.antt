-- The key of a name: its name space, and its characters dealt out in turn to four numbers in base 256.
use Rattle.std.specs.Prelude.{ℕ, zero, suc, ◌+◌, ◌*◌, ◌/◌, ◌%◌, ◌<◌, ◌≡◌, List, [], ◌∷◌, ◌++◌, Bool, not, ltb, length}
use Rattle.std.proofs.Math.Path.{refl}
use Rattle.std.proofs.Common.{sym, ap, ◌∙◌, append-nil}
use Rattle.std.proofs.Math.Bool.{true, false}
use Rattle.std.proofs.lemmas.Bool.{false≢true}
use Rattle.std.proofs.Math.Dec.{eqb}
use native.Mathlib.Omega.{arith}
use borrow.Author.Tests.{eq-eqb, ne_eqb, eqb-true, eqb-false, lt-ltb, ltb-true, not-true, not-false}
use Rattle.reader.specs.Words.{Reader}
use Rattle.reader.specs.Tests.{both, either, between, every, if_eq}
use Rattle.reader.specs.Chains.{linked}
use Rattle.reader.specs.Names.{name_of, name_space, name_bytes, is_letter, is_digit_or_underscore, single, accented, characters, name}
use Rattle.reader.specs.Accents.{composed}
use Rattle.reader.proofs.AccentLaws.{composed_small}
use Rattle.reader.specs.NameLaws.{Spells, spells}
use Rattle.reader.specs.TreeLaws.{linked_zero}
use Rattle.reader_equality.specs.declared.Key.{Key}
use Rattle.reader_equality.specs.Keys.{key}
use Rattle.reader_characters.specs.declared.Step.{Step}
use Rattle.reader_characters.specs.Steps.{rest_bytes, spelled, Left, FirstCharacter}
use Rattle.reader_characters.specs.Spelling.{between_most, spelled_none, spelled_more, spelled_next, spelled_name}
use Rattle.reader_names.specs.Symbols.{name_from}

-- no key: of a record that is no symbol, and of a name with no characters, with one that is none, or with more than the numbers hold
abbrev pub no_key : Key
no_key = key 0 0 0 0 0

-- the key of no characters yet
abbrev pub space_key : ℕ → Key
space_key space = key space 0 0 0 0

-- the key has room for character c
unfoldable pub has_room : Key → ℕ → Bool
has_room k c = both (not (eqb c 0)) (ltb k.atom 72057594037927936)

-- the key with character c dealt
unfoldable pub dealt : Key → ℕ → Key
dealt k c = key k.kind k.first k.second k.third (k.atom * 256 + c)

-- n with x added to its low byte
unfoldable pub shifted : ℕ → ℕ → ℕ
shifted n x = n / 256 * 256 + (n % 256 + x) % 256

-- a step of the mixing: a number of 32 bits that depends on both
unfoldable pub stirred : ℕ → ℕ → ℕ
stirred h w = (h + w) % 4294967296 * 2654435769 / 65536 % 4294967296

-- the two halves of n are mixed in
unfoldable pub absorbed : ℕ → ℕ → ℕ
absorbed h n = stirred (stirred h (n % 4294967296)) (n / 4294967296 % 4294967296)

-- the four numbers of a key are
unfoldable pub passed : ℕ → Key → ℕ
passed h k = absorbed (absorbed (absorbed (absorbed h k.atom) k.first) k.second) k.third

-- a number that depends on all four, twice, so that names part early in the search, and a name for a wanted number is only found by trying
unfoldable pub mixture : Key → ℕ
mixture k = passed (passed 0 k) k

-- the key with that number beside the name space, and one of its bytes added to each of the four, so that each turn of the search goes by another of its bits
unfoldable pub mixed : Key → Key
mixed k =
    key (k.kind % 4 + 4 * mixture k) (shifted k.atom (mixture k)) (shifted k.first (mixture k / 256)) (shifted k.second (mixture k / 65536))
    (shifted k.third (mixture k / 16777216))

-- the key with all the characters dealt
unfoldable pub spread : Key → List ℕ → Key
spread k [] = if_eq k.third 0 no_key k
spread k (c ∷ cs) = elim (has_room k c) [ true ↦ spread (dealt k c) cs | false ↦ no_key ]

-- the dealt characters of symbol i
unfoldable pub name_parts : Reader → ℕ → Key
name_parts rd i = spread (space_key (name_space (rd i 0))) (name rd i)

-- the key of symbol i
unfoldable pub name_key : Reader → ℕ → Key
name_key rd i = mixed (name_parts rd i)

unfoldable pub is_small : ℕ → Bool
is_small c = ltb c 256

spread_cons : (k : Key) (c : ℕ) (cs : List ℕ) → spread k (c ∷ cs) ≡ elim (has_room k c) [ true ↦ spread (dealt k c) cs | false ↦ no_key ]
unfolding spread
spread_cons k c cs = refl

pub spread_stop : (k : Key) (c : ℕ) (cs : List ℕ) → has_room k c ≡ false → no_key ≡ spread k (c ∷ cs)
spread_stop k c cs h = rw spread_cons (simp h)

pub spread_go : (k : Key) (c : ℕ) (cs : List ℕ) → has_room k c ≡ true → spread k (c ∷ cs) ≡ spread (dealt k c) cs
spread_go k c cs h = rw spread_cons (simp h)

spread_none : (k : Key) → k.third ≡ 0 → no_key ≡ spread k []
unfolding spread if_eq
spread_none k h = simp (spread, if_eq, eq-eqb k.third 0 h)

pub spread_all : (k : Key) → (k.third ≡ 0 → ⊥) → k ≡ spread k []
unfolding spread if_eq
spread_all k h = simp (spread, if_eq, ne_eqb k.third 0 h)

small_cons : (c : ℕ) (cs : List ℕ) → every is_small (c ∷ cs) ≡ elim (is_small c) [ true ↦ every is_small cs | false ↦ false ]
unfolding every
small_cons c cs = refl

-- the first of small characters, and the others
pub small_first : (c : ℕ) (cs : List ℕ) → every is_small (c ∷ cs) ≡ true → c < 256
unfolding is_small
small_first c cs h = go (ltb c 256) refl
  where
    go : (b : Bool) → ltb c 256 ≡ b → c < 256
    go true e = ltb-true c 256 e
    go false e = absurd (false≢true (simp (is_small, e) at (rw small_cons at h)))

pub small_rest : (c : ℕ) (cs : List ℕ) → every is_small (c ∷ cs) ≡ true → every is_small cs ≡ true
small_rest c cs h = go (is_small c) refl
  where
    go : (b : Bool) → is_small c ≡ b → every is_small cs ≡ true
    go true e = simp e at (rw small_cons at h)
    go false e = absurd (false≢true (simp e at (rw small_cons at h)))

-- The ways out of `has_room`, and what room says.
pub room_none : (k : Key) (c : ℕ) → c ≡ 0 → false ≡ has_room k c
unfolding has_room both
room_none k c z = simp (has_room, both, eq-eqb c 0 z)

pub room_is : (k : Key) (c : ℕ) → (c ≡ 0 → ⊥) → ltb k.atom 72057594037927936 ≡ has_room k c
unfolding has_room both
room_is k c p = simp (has_room, both, ne_eqb c 0 p)

pub room_some : (k : Key) (c : ℕ) → has_room k c ≡ true → c ≡ 0 → ⊥
unfolding has_room both
room_some k c h z = false≢true (simp (has_room, both, eq-eqb c 0 z) at h)

pub room_below : (k : Key) (c : ℕ) → has_room k c ≡ true → k.atom < 72057594037927936
room_below k c h = ltb-true k.atom 72057594037927936 (room_is k c (λ z. room_some k c h z) ∙ h)

-- The characters of a key, before `cs`: at most n are taken out of it.
undealt : ℕ → Key → List ℕ → List ℕ
undealt zero k cs = cs
undealt (suc n) k cs =
    elim (eqb k.third 0) [ true ↦ cs | false ↦ undealt n (key k.kind (k.third / 256) k.atom k.first k.second) (k.third % 256 ∷ cs) ]

undealt_one : (n : ℕ) (k : Key) (c : ℕ) (cs : List ℕ) → (c ≡ 0 → ⊥) → c < 256 → undealt (suc n) (dealt k c) cs ≡ undealt n k (c ∷ cs)
unfolding dealt undealt
undealt_one n k c cs p h =
    let some : eqb (k.atom * 256 + c) 0 ≡ false = ne_eqb (k.atom * 256 + c) 0 (omega arith) in
    let over : (k.atom * 256 + c) / 256 ≡ k.atom = omega arith in
    let left : (k.atom * 256 + c) % 256 ≡ c = omega arith in
    simp (undealt, some, over, left)

undealt_start : (n space : ℕ) (cs : List ℕ) → undealt n (space_key space) cs ≡ cs
unfolding undealt
undealt_start zero space cs = refl
undealt_start (suc n) space cs = refl

-- a key that is one tells all characters
undealt_spread : (n most : ℕ) (k : Key) (cs ds : List ℕ) → most ≡ length cs + n → every is_small cs ≡ true → 0 < (spread k cs).kind →
    undealt most (spread k cs) ds ≡ undealt n k (cs ++ ds)
undealt_spread n most k [] ds e small p = go (eqb k.third 0) refl
  where
    go : (b : Bool) → eqb k.third 0 ≡ b → undealt most (spread k []) ds ≡ undealt n k ds
    go true t = absurd (omega (arith, ap (λ (x : Key). x.kind) (spread_none k (eqb-true k.third 0 t))))
    go false t = let same : most ≡ n = omega arith in rw (same, ← spread_all k (eqb-false k.third 0 t))
undealt_spread n most k (c ∷ cs) ds e small p =
    go (has_room k c) refl (λ q. undealt_spread (suc n) most (dealt k c) cs ds (omega arith) (small_rest c cs small) q)
  where
    go : (b : Bool) → has_room k c ≡ b →
        (0 < (spread (dealt k c) cs).kind → undealt most (spread (dealt k c) cs) ds ≡ undealt (suc n) (dealt k c) (cs ++ ds)) →
        undealt most (spread k (c ∷ cs)) ds ≡ undealt n k (c ∷ (cs ++ ds))
    go true t rest =
        let is = spread_go k c cs t in
        let more : 0 < (spread (dealt k c) cs).kind = omega (arith, ap (λ (x : Key). x.kind) is) in
        rw is (rest more) ∙ undealt_one n k c (cs ++ ds) (room_some k c t) (small_first c cs small)
    go false t rest = absurd (omega (arith, ap (λ (x : Key). x.kind) (spread_stop k c cs t)))

-- equal keys of two names: the same characters
spread_names : (space other : ℕ) (cs ds : List ℕ) → every is_small cs ≡ true → every is_small ds ≡ true → 0 < (spread (space_key space) cs).kind →
    spread (space_key space) cs ≡ spread (space_key other) ds → cs ≡ ds
spread_names space other cs ds small-c small-d p e =
    let most = length cs + length ds in
    let q : 0 < (spread (space_key other) ds).kind = omega (arith, ap (λ (x : Key). x.kind) e) in
    let one : undealt most (spread (space_key space) cs) [] ≡ cs =
    undealt_spread (length ds) most (space_key space) cs [] refl small-c p ∙ undealt_start (length ds) space (cs ++ []) ∙ append-nil cs in
    let two : undealt most (spread (space_key other) ds) [] ≡ ds =
    undealt_spread (length cs) most (space_key other) ds [] (omega arith) small-d q ∙ undealt_start (length cs) other (ds ++ []) ∙ append-nil ds in
    sym one ∙ ap (λ (k : Key). undealt most k []) e ∙ two

-- a key that is one has its name space
spread_kind : (k : Key) (cs : List ℕ) → 0 < (spread k cs).kind → (spread k cs).kind ≡ k.kind
unfolding dealt
spread_kind k [] p = go (eqb k.third 0) refl
  where
    go : (b : Bool) → eqb k.third 0 ≡ b → (spread k []).kind ≡ k.kind
    go true t = absurd (omega (arith, ap (λ (x : Key). x.kind) (spread_none k (eqb-true k.third 0 t))))
    go false t = rw (← spread_all k (eqb-false k.third 0 t))
spread_kind k (c ∷ cs) p = go (has_room k c) refl (λ q. spread_kind (dealt k c) cs q)
  where
    go : (b : Bool) → has_room k c ≡ b → (0 < (spread (dealt k c) cs).kind → (spread (dealt k c) cs).kind ≡ k.kind) → (spread k (c ∷ cs)).kind ≡ k.kind
    go true t rest =
        let is = spread_go k c cs t in
        let more : 0 < (spread (dealt k c) cs).kind = omega (arith, ap (λ (x : Key). x.kind) is) in
        rw is (rest more)
    go false t rest = absurd (omega (arith, ap (λ (x : Key). x.kind) (spread_stop k c cs t)))

-- one that is none is `no_key`
spread_no : (k : Key) (cs : List ℕ) → 0 < k.kind → (spread k cs).kind ≡ 0 → spread k cs ≡ no_key
unfolding dealt
spread_no k [] p z = go (eqb k.third 0) refl
  where
    go : (b : Bool) → eqb k.third 0 ≡ b → spread k [] ≡ no_key
    go true t = sym (spread_none k (eqb-true k.third 0 t))
    go false t = absurd (omega (arith, ap (λ (x : Key). x.kind) (spread_all k (eqb-false k.third 0 t))))
spread_no k (c ∷ cs) p z = go (has_room k c) refl (λ q. spread_no (dealt k c) cs p q)
  where
    go : (b : Bool) → has_room k c ≡ b → ((spread (dealt k c) cs).kind ≡ 0 → spread (dealt k c) cs ≡ no_key) → spread k (c ∷ cs) ≡ no_key
    go true t rest =
        let is = spread_go k c cs t in
        let none : (spread (dealt k c) cs).kind ≡ 0 = sym (ap (λ (x : Key). x.kind) is) ∙ z in
        is ∙ rest none
    go false t rest = sym (spread_stop k c cs t)

-- The steps of the mixing are numbers of 32 bits.
pub stirred_small : (h w r : ℕ) → r ≡ stirred h w → r < 4294967296
unfolding stirred
stirred_small h w r e = omega arith

pub absorbed_small : (h n r : ℕ) → r ≡ absorbed h n → r < 4294967296
unfolding absorbed
absorbed_small h n r e = stirred_small _ _ r e

pub passed_small : (h : ℕ) (k : Key) (r : ℕ) → r ≡ passed h k → r < 4294967296
unfolding passed
passed_small h k r e = absorbed_small _ _ r e

-- what the code puts together
pub absorbed_is : (h n s r : ℕ) → s ≡ stirred h (n % 4294967296) → r ≡ stirred s (n / 4294967296 % 4294967296) → r ≡ absorbed h n
unfolding absorbed
absorbed_is h n s r es er = er ∙ ap (λ (x : ℕ). stirred x (n / 4294967296 % 4294967296)) es

pub passed_is : (h : ℕ) (k : Key) (a b c d : ℕ) → a ≡ absorbed h k.atom → b ≡ absorbed a k.first → c ≡ absorbed b k.second → d ≡ absorbed c k.third →
    d ≡ passed h k
unfolding passed
passed_is h k a b c d ea eb ec ed = ed ∙ rw (ec, eb, ea)

pub mixed_is : (k : Key) (g h a b c d : ℕ) → g ≡ passed 0 k → h ≡ passed g k → a ≡ shifted k.atom h → b ≡ shifted k.first (h / 256) →
    c ≡ shifted k.second (h / 65536) → d ≡ shifted k.third (h / 16777216) → key (k.kind % 4 + 4 * h) a b c d ≡ mixed k
unfolding mixed mixture
mixed_is k g h a b c d eg eh ea eb ec ed = rw (ea, eb, ec, ed, eh, eg)

-- Mixing keeps keys apart.
shifted_one : (a b x : ℕ) → shifted a x ≡ shifted b x → a ≡ b
unfolding shifted
shifted_one a b x e =
    let high : a / 256 ≡ b / 256 = omega arith in
    let low : (a % 256 + x) % 256 ≡ (b % 256 + x) % 256 = omega arith in
    let lows : a % 256 ≡ b % 256 = omega arith in
    omega arith

mixed_one : (k l : Key) → k.kind < 4 → l.kind < 4 → mixed k ≡ mixed l → k ≡ l
unfolding mixed
mixed_one k l pk pl e =
    let ek : k.kind % 4 + 4 * mixture k ≡ l.kind % 4 + 4 * mixture l = ap (λ (x : Key). x.kind) e in
    let h : mixture k ≡ mixture l = omega arith in
    let kinds : k.kind ≡ l.kind = omega arith in
    let atoms : k.atom ≡ l.atom = shifted_one _ _ (mixture k) (ap (λ (x : Key). x.atom) e ∙ ap (λ (x : ℕ). shifted l.atom x) (sym h)) in
    let firsts : k.first ≡ l.first = shifted_one _ _ (mixture k / 256) (ap (λ (x : Key). x.first) e ∙ ap (λ (x : ℕ). shifted l.first (x / 256)) (sym h)) in
    let seconds : k.second ≡ l.second = shifted_one _ _ (mixture k / 65536) (ap (λ (x : Key). x.second) e ∙ ap (λ (x : ℕ). shifted l.second (x / 65536)) (sym h)) in
    let thirds : k.third ≡ l.third = shifted_one _ _ (mixture k / 16777216) (ap (λ (x : Key). x.third) e ∙ ap (λ (x : ℕ). shifted l.third (x / 16777216)) (sym h)) in
    let fields : key k.kind k.atom k.first k.second k.third ≡ key l.kind l.atom l.first l.second l.third = cc in
    fields

-- every character is below 256
either_in : (a b : Bool) (P : Type 0) → (a ≡ true → P) → (b ≡ true → P) → either a b ≡ true → P
unfolding either
either_in true b P f g h = f refl
either_in false b P f g h = g h

single_small : (b : ℕ) → single b < 256
unfolding single is_letter is_digit_or_underscore
single_small b = go (either (is_letter b) (is_digit_or_underscore b)) refl
  where
    letter : is_letter b ≡ true → b < 256
    letter = either_in (between 65 90 b) (between 97 122 b) (b < 256) (λ h. omega (arith, between_most 65 90 b h)) (λ h. omega (arith, between_most 97 122 b h))

    digit : is_digit_or_underscore b ≡ true → b < 256
    digit = either_in (between 48 57 b) (eqb b 95) (b < 256) (λ h. omega (arith, between_most 48 57 b h)) (λ h. omega (arith, eqb-true b 95 h))

    go : (x : Bool) → either (is_letter b) (is_digit_or_underscore b) ≡ x → elim x as (λ y. ℕ) [ true ↦ b | false ↦ 0 ] < 256
    go true e = either_in (is_letter b) (is_digit_or_underscore b) (b < 256) letter digit e
    go false e = omega arith

accented_small : (b : ℕ) → accented b < 256
unfolding accented both
accented_small b = go (between 128 191 b) refl (not (either (eqb b 151) (eqb b 183)))
  where
    go : (x : Bool) → between 128 191 b ≡ x → (y : Bool) → elim (elim x as (λ z. Bool) [ true ↦ y | false ↦ false ]) as (λ z. ℕ) [ true ↦ b + 64 | false ↦ 0 ] < 256
    go true e true = omega (arith, between_most 128 191 b e)
    go true e false = omega arith
    go false e y = omega arith

small_more : (c : ℕ) (cs : List ℕ) → c < 256 → every is_small cs ≡ true → every is_small (c ∷ cs) ≡ true
unfolding is_small
small_more c cs p h = rw small_cons (simp (is_small, lt-ltb c 256 p, h))

spells_small : {bs : List ℕ} → Spells bs → every is_small (characters bs) ≡ true
unfolding characters every
spells_small Spells.none = refl
spells_small (Spells.one {b = b} {bs = bs} e s) = rw e (small_more (single b) (characters bs) (single_small b) (spells_small s))
spells_small (Spells.pair {c = c} {bs = bs} p e s) = rw e (small_more (accented c) (characters bs) (accented_small c) (spells_small s))
spells_small (Spells.marked {b = b} {d = d} {bs = bs} p e s) =
    rw e (small_more (composed b d) (characters bs) (omega (arith, composed_small b d)) (spells_small s))

characters_small : (bs : List ℕ) → every is_small (characters bs) ≡ true
characters_small bs = spells_small (spells bs)

pub name_small : (rd : Reader) (i : ℕ) → every is_small (name rd i) ≡ true
unfolding name
name_small rd i = characters_small _

space_small : (k : ℕ) → name_space k < 4
unfolding name_space if_eq
space_small k = go (eqb k 3) (eqb k 7) (eqb k 8)
  where
    go : (a b c : Bool) → elim a as (λ x. ℕ) [ true ↦ 1 | false ↦ elim b as (λ x. ℕ) [ true ↦ 2 | false ↦ elim c as (λ x. ℕ) [ true ↦ 2 | false ↦ 0 ] ] ] < 4
    go true b c = omega arith
    go false true c = omega arith
    go false false true = omega arith
    go false false false = omega arith

space_none : (rd : Reader) (i : ℕ) → name_space (rd i 0) ≡ 0 → name_of rd i ≡ 0
unfolding name_of name_space if_eq
space_none rd i = go (eqb (rd i 0) 3) (eqb (rd i 0) 7) (eqb (rd i 0) 8)
  where
    go : (a b c : Bool) →
        ◌≡◌ {A = ℕ} (elim a as (λ x. ℕ) [ true ↦ 1 | false ↦ elim b as (λ x. ℕ) [ true ↦ 2 | false ↦ elim c as (λ x. ℕ) [ true ↦ 2 | false ↦ 0 ] ] ]) 0 →
        ◌≡◌ {A = ℕ} (elim a as (λ x. ℕ) [ true ↦ rd i 1 | false ↦ elim b as (λ x. ℕ) [ true ↦ rd i 2 | false ↦ elim c as (λ x. ℕ) [ true ↦ rd i 3 | false ↦ 0 ] ] ]) 0
    go true b c h = absurd (omega arith)
    go false true c h = absurd (omega arith)
    go false false true h = absurd (omega arith)
    go false false false h = refl

-- a record that names none has no dealt characters
pub parts_unnamed : (rd : Reader) (i : ℕ) → name_of rd i ≡ 0 → name_parts rd i ≡ no_key
unfolding name_parts name name_bytes characters spread if_eq
parts_unnamed rd i z = rw (z, linked_zero rd) refl

-- The dealt characters of a symbol and its key say the same.
module _ (rd : Reader) (i : ℕ) where
  parts_none : (name_parts rd i).kind ≡ 0 → name_parts rd i ≡ no_key
  unfolding name_parts
  parts_none z = go (eqb (name_space (rd i 0)) 0) refl
    where
      go : (b : Bool) → eqb (name_space (rd i 0)) 0 ≡ b → name_parts rd i ≡ no_key
      go true t = parts_unnamed rd i (space_none rd i (eqb-true _ 0 t))
      go false t =
          let n : name_space (rd i 0) ≡ 0 → ⊥ = eqb-false (name_space (rd i 0)) 0 t in
          let some : 0 < name_space (rd i 0) = omega arith in
          spread_no (space_key (name_space (rd i 0))) (name rd i) some z

  pub parts_kind : (name_parts rd i).kind < 4
  unfolding name_parts
  parts_kind = go (eqb (name_parts rd i).kind 0) refl
    where
      go : (b : Bool) → eqb (name_parts rd i).kind 0 ≡ b → (name_parts rd i).kind < 4
      go true t = omega (arith, eqb-true (name_parts rd i).kind 0 t)
      go false t =
          let n : (name_parts rd i).kind ≡ 0 → ⊥ = eqb-false (name_parts rd i).kind 0 t in
          let some : 0 < (name_parts rd i).kind = omega arith in
          omega (arith, spread_kind (space_key (name_space (rd i 0))) (name rd i) some, space_small (rd i 0))

  pub key_none_of : (name_parts rd i).kind ≡ 0 → (name_key rd i).kind ≡ 0
  unfolding name_key mixed mixture passed absorbed stirred
  key_none_of z = rw (parts_none z) refl

  pub key_some_of : 0 < (name_parts rd i).kind → 0 < (name_key rd i).kind
  unfolding name_key mixed
  key_some_of p = omega (arith, parts_kind)

  pub parts_some : 0 < (name_key rd i).kind → 0 < (name_parts rd i).kind
  parts_some p = go (eqb (name_parts rd i).kind 0) refl
    where
      go : (b : Bool) → eqb (name_parts rd i).kind 0 ≡ b → 0 < (name_parts rd i).kind
      go true t = absurd (omega (arith, key_none_of (eqb-true _ 0 t)))
      go false t = let n : (name_parts rd i).kind ≡ 0 → ⊥ = eqb-false (name_parts rd i).kind 0 t in omega arith

-- keys that are equal have the same dealt characters
parts_one : (rd : Reader) (i j : ℕ) → name_key rd i ≡ name_key rd j → name_parts rd i ≡ name_parts rd j
unfolding name_key
parts_one rd i j e = mixed_one _ _ (parts_kind rd i) (parts_kind rd j) e

-- keys that are equal, of which one is one: the same name in the same name space
pub key_space : (rd : Reader) (i j : ℕ) → 0 < (name_key rd i).kind → name_key rd i ≡ name_key rd j → name_space (rd i 0) ≡ name_space (rd j 0)
unfolding name_parts
key_space rd i j p e =
    let k = ap (λ (x : Key). x.kind) (parts_one rd i j e) in
    let one = spread_kind (space_key (name_space (rd i 0))) (name rd i) (parts_some rd i p) in
    let two = spread_kind (space_key (name_space (rd j 0))) (name rd j) (omega (arith, k, parts_some rd i p)) in
    omega (arith, one, two, k)

pub parts_name : (rd : Reader) (i j : ℕ) → 0 < (name_parts rd i).kind → name_parts rd i ≡ name_parts rd j → name rd i ≡ name rd j
unfolding name_parts
parts_name rd i j p e = spread_names _ _ (name rd i) (name rd j) (name_small rd i) (name_small rd j) p e

pub key_name : (rd : Reader) (i j : ℕ) → 0 < (name_key rd i).kind → name_key rd i ≡ name_key rd j → name rd i ≡ name rd j
key_name rd i j p e = parts_name rd i j (parts_some rd i p) (parts_one rd i j e)

-- What the search compares: the dealt characters of symbol j with those of symbol i, for the keys.
pub parts_equal : (rd : Reader) (j : ℕ) (parts : Key) → name_parts rd j ≡ parts → name_key rd j ≡ mixed parts
unfolding name_key
parts_equal rd j parts e = rw e

pub parts_differ : (rd : Reader) (i j : ℕ) (parts : Key) → parts ≡ name_parts rd i → (name_parts rd j ≡ parts → ⊥) → name_key rd j ≡ mixed parts → ⊥
unfolding name_key
parts_differ rd i j parts ep n e = n (mixed_one _ _ (parts_kind rd j) (rw ep (parts_kind rd i)) e)

-- the same name in the same name space: equal keys
pub name_key_lem : (rd : Reader) (i j : ℕ) → name_space (rd i 0) ≡ name_space (rd j 0) → name rd i ≡ name rd j → name_key rd i ≡ name_key rd j
unfolding name_key name_parts
name_key_lem rd i j e q = rw (e, q)

-- The ways out of `parts_of`: `s` was read, `k` is the key so far, and `small` says that its character can be dealt.
module _ (rd : Reader) (i : ℕ) where
  pub key_nameless : (first : ℕ) (r : Key) → first ≡ name_of rd i → first ≡ 0 → r ≡ space_key 0 → r ≡ name_parts rd i
  key_nameless first r ef z e = e ∙ sym (parts_unnamed rd i (sym ef ∙ z))

  pub key_start : (w space first : ℕ) (k : Key) (b s : Step) → w ≡ rd i 0 → space ≡ name_space w → k ≡ space_key space → first ≡ name_of rd i →
      Left rd (name_bytes rd (linked rd first)) b → FirstCharacter rd (characters (rest_bytes rd b)) s → name_parts rd i ≡ spread k (spelled rd s)
  unfolding name_parts
  key_start w space first k b s ew es ek ef eb e = rw (ek, es, ew, spelled_name rd first b s eb e, name_from rd i first ef)

  pub step_small : (b s : Step) → FirstCharacter rd (characters (rest_bytes rd b)) s → every is_small (spelled rd s) ≡ true
  step_small b s e = rw e.first (characters_small _)

  module _ (k : Key) (s : Step) (inv : name_parts rd i ≡ spread k (spelled rd s)) where
    module _ (more : s.more ≡ true) where
      pub value_small : every is_small (spelled rd s) ≡ true → s.value < 256
      value_small h = small_first s.value _ (rw (spelled_more rd s more) at h)

      module _ (room : Bool) (er : room ≡ has_room k s.value) where
        pub key_stop : not room ≡ true → (r : Key) → r ≡ space_key 0 → r ≡ name_parts rd i
        key_stop h r e = e ∙ spread_stop k s.value _ (sym er ∙ not-true room h) ∙ sym (inv ∙ ap (spread k) (spelled_more rd s more))

        pub key_go : not room ≡ false → (l : Key) → l ≡ dealt k s.value → (u : Step) → FirstCharacter rd (characters (rest_bytes rd s)) u →
            name_parts rd i ≡ spread l (spelled rd u)
        key_go h l el u eu = inv ∙ rw (spelled_next rd s u more eu, el) (spread_go k s.value (spelled rd u) (sym er ∙ not-false room h))

    module _ (end : s.more ≡ false) where
      pub key_none : k.third ≡ 0 → (r : Key) → r ≡ space_key 0 → r ≡ name_parts rd i
      key_none h r e = e ∙ spread_none k h ∙ sym (inv ∙ ap (spread k) (spelled_none rd s end))

      pub key_all : (k.third ≡ 0 → ⊥) → k ≡ name_parts rd i
      key_all h = spread_all k h ∙ sym (inv ∙ ap (spread k) (spelled_none rd s end))
