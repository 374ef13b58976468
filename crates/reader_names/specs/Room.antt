-- A name of at most 32 characters has a key.
use Rattle.std.specs.Prelude.{ℕ, zero, suc, ◌+◌, ◌*◌, ◌/◌, ◌%◌, ◌<◌, ◌≤◌, ◌≡◌, refl, List, [], ◌∷◌, Bool, true, false, eqb, length}
use Rattle.std.proofs.Common.{ap, arith, ne_eqb, lt-ltb, leb-true}
use Rattle.std.proofs.lemmas.Bool.{false≢true}
use Rattle.reader.specs.Words.{Reader}
use Rattle.reader.specs.Tests.{both, every, if_eq}
use Rattle.reader.specs.Chains.{linked}
use Rattle.reader.specs.NameLaws.{Spells, spells}
use Rattle.reader.specs.Names.{name_of, name_space, name_bytes, characters, name, has_bytes, starts_well, is_name}
use Rattle.reader.specs.Records.{name_length_fits, name_spelled}
use Rattle.reader_equality.specs.declared.Key.{Key}
use Rattle.reader_characters.specs.Steps.{is_spelled}
use Rattle.reader_characters.specs.Laws.{bytes_most}
use Rattle.reader_characters.specs.Spelling.{is_spelled_cons}
use Rattle.reader_names.specs.NameKeys.{space_key, has_room, dealt, spread, name_parts, name_key, is_small, spread_go, spread_all, small_first, small_rest, name_small, parts_unnamed, key_none_of, key_some_of}

-- the numbers that have room for n digits more
bound : ℕ → ℕ
bound zero = 18446744073709551616
bound (suc n) = bound n / 256

bound_most : (n : ℕ) → bound n ≤ 18446744073709551616
unfolding bound
bound_most zero = omega arith
bound_most (suc n) = omega (arith, bound_most n)

-- a character of a name
record Character (c : ℕ) : Type 0 where
  some : c ≡ 0 → ⊥
  small : c < 256

-- the characters of a name
record Characters (cs : List ℕ) : Type 0 where
  spelled : is_spelled cs ≡ true
  small : every is_small cs ≡ true

first_character : (c : ℕ) (cs : List ℕ) → Characters (c ∷ cs) → Character c
first_character c cs h = record { some = λ z. go z; small = small_first c cs h.small }
  where
    go : c ≡ 0 → ⊥
    go z = false≢true (simp z at (rw is_spelled_cons at h.spelled))

other_characters : (c : ℕ) (cs : List ℕ) → Characters (c ∷ cs) → Characters cs
other_characters c cs h = record {
  spelled = simp (ne_eqb c 0 (first_character c cs h).some) at (rw is_spelled_cons at h.spelled);
  small = small_rest c cs h.small;
}

-- every number of the key is below b
record Below (b : ℕ) (k : Key) : Type 0 where
  atom : k.atom < b
  first : k.first < b
  second : k.second < b
  third : k.third < b

-- one character is dealt
deal : (k : Key) (c : ℕ) (cs : List ℕ) → k.atom < 72057594037927936 → Characters (c ∷ cs) → spread k (c ∷ cs) ≡ spread (dealt k c) cs
unfolding has_room both
deal k c cs p h = spread_go k c cs (simp (has_room, both, ne_eqb c 0 (first_character c cs h).some, lt-ltb k.atom 72057594037927936 p))

-- none is left
deal_none : (k : Key) → 0 < k.third → 0 < k.kind % 4 → 0 < (spread k []).kind
deal_none k p q = rw (← spread_all k (omega arith)) (omega arith)

-- four characters at a time
deal_all : (n : ℕ) (k : Key) (cs : List ℕ) → Below (bound n) k → Characters cs → length cs ≤ 4 * n → 0 < k.third + length cs → 0 < k.kind % 4 → 0 < (spread k cs).kind
unfolding bound dealt
deal_all n k [] room h few some p = deal_none k (omega arith) p
deal_all zero k (c ∷ cs) room h few some p = absurd (omega arith)
deal_all (suc n) k (c ∷ []) room h few some p =
    let most = bound_most n in
    let pc = (first_character c [] h).some in
    rw (deal k c [] (omega (arith, room.atom)) h) (deal_none (dealt k c) (omega arith) p)
deal_all (suc n) k (c ∷ d ∷ []) room h few some p =
    let most = bound_most n in
    let hd = other_characters c (d ∷ []) h in
    let pd = (first_character d [] hd).some in
    rw (deal k c (d ∷ []) (omega (arith, room.atom)) h, deal (dealt k c) d [] (omega (arith, room.first)) hd) (deal_none (dealt (dealt k c) d) (omega arith) p)
deal_all (suc n) k (c ∷ d ∷ e ∷ []) room h few some p =
    let most = bound_most n in
    let hd = other_characters c (d ∷ e ∷ []) h in
    let he = other_characters d (e ∷ []) hd in
    let pe = (first_character e [] he).some in
    rw (deal k c (d ∷ e ∷ []) (omega (arith, room.atom)) h, deal (dealt k c) d (e ∷ []) (omega (arith, room.first)) hd, deal (dealt (dealt k c) d) e [] (omega (arith, room.second)) he)
    (deal_none (dealt (dealt (dealt k c) d) e) (omega arith) p)
deal_all (suc n) k (c ∷ d ∷ e ∷ f ∷ cs) room h few some p =
    let most = bound_most n in
    let hd = other_characters c (d ∷ e ∷ f ∷ cs) h in
    let he = other_characters d (e ∷ f ∷ cs) hd in
    let hf = other_characters e (f ∷ cs) he in
    let pc = first_character c (d ∷ e ∷ f ∷ cs) h in
    let pd = first_character d (e ∷ f ∷ cs) hd in
    let pe = first_character e (f ∷ cs) he in
    let pf = first_character f cs hf in
    let four = dealt (dealt (dealt (dealt k c) d) e) f in
    let below : Below (bound n) four = record {
      atom = omega (arith, room.atom, pc.small);
      first = omega (arith, room.first, pd.small);
      second = omega (arith, room.second, pe.small);
      third = omega (arith, room.third, pf.small);
    } in
    rw (
      deal k c (d ∷ e ∷ f ∷ cs) (omega (arith, room.atom)) h,
      deal (dealt k c) d (e ∷ f ∷ cs) (omega (arith, room.first)) hd,
      deal (dealt (dealt k c) d) e (f ∷ cs) (omega (arith, room.second)) he,
      deal (dealt (dealt (dealt k c) d) e) f cs (omega (arith, room.third)) hf,
    )
    (deal_all n four cs below (other_characters f cs hf) (omega arith) (omega (arith, pf.some)) p)

spells_most : {bs : List ℕ} → Spells bs → length (characters bs) ≤ length bs
unfolding characters
spells_most Spells.none = omega arith
spells_most (Spells.one e s) = rw e (omega (arith, spells_most s))
spells_most (Spells.pair p e s) = rw e (omega (arith, spells_most s))
spells_most (Spells.marked p e s) = rw e (omega (arith, spells_most s))

name_most : (rd : Reader) (i : ℕ) → length (name rd i) ≤ 8 * length (linked rd (name_of rd i))
unfolding name
name_most rd i =
    let bytes = name_bytes rd (linked rd (name_of rd i)) in
    omega (arith, spells_most (spells bytes), bytes_most rd (linked rd (name_of rd i)))

-- a record that names one is a symbol
named_space : (rd : Reader) (i : ℕ) → (name_of rd i ≡ 0 → ⊥) → 0 < name_space (rd i 0) % 4
unfolding name_of name_space if_eq
named_space rd i = go (eqb (rd i 0) 3) (eqb (rd i 0) 7) (eqb (rd i 0) 8)
  where
    go : (a b c : Bool) →
        (◌≡◌ {A = ℕ} (elim a as (λ x. ℕ) [ true ↦ rd i 1 | false ↦ elim b as (λ x. ℕ) [ true ↦ rd i 2 | false ↦ elim c as (λ x. ℕ) [ true ↦ rd i 3 | false ↦ 0 ] ] ]) 0 → ⊥) →
        0 < (elim a as (λ x. ℕ) [ true ↦ 1 | false ↦ elim b as (λ x. ℕ) [ true ↦ 2 | false ↦ elim c as (λ x. ℕ) [ true ↦ 2 | false ↦ 0 ] ] ]) % 4
    go true b c h = omega arith
    go false true c h = omega arith
    go false false true h = omega arith
    go false false false h = absurd (h refl)

-- both tests hold
pub both_first : (a b : Bool) → both a b ≡ true → a ≡ true
unfolding both
both_first true b h = refl
both_first false b h = h

both_second : (a b : Bool) → both a b ≡ true → b ≡ true
unfolding both
both_second true b h = h
both_second false b h = absurd (false≢true h)

starts_some : (cs : List ℕ) → starts_well cs ≡ true → 0 < length cs
unfolding starts_well
starts_some [] h = absurd (false≢true h)
starts_some (c ∷ cs) h = omega arith

-- a name with its records and its characters as they must be has a key
pub named_key : (rd : Reader) (i : ℕ) → (name_of rd i ≡ 0 → ⊥) → name_length_fits rd i ≡ true → name_spelled rd i ≡ true → 0 < (name_key rd i).kind
unfolding name_parts name_length_fits name_spelled is_name is_spelled bound
named_key rd i p fits stands =
    let is : is_name rd i ≡ true = simp (name_spelled, ne_eqb (name_of rd i) 0 p) at stands in
    let well = both_second (every (has_bytes rd) (linked rd (name_of rd i))) _ is in
    let spells : Characters (name rd i) = record { spelled = both_first (is_spelled (name rd i)) _ well; small = name_small rd i } in
    let some = starts_some (name rd i) (both_second (is_spelled (name rd i)) _ well) in
    let few = leb-true (length (linked rd (name_of rd i))) 4 fits in
    key_some_of rd i (deal_all 8 (space_key (name_space (rd i 0))) (name rd i) (record { atom = omega arith; first = omega arith; second = omega arith; third = omega arith }) spells
    (omega (arith, few, name_most rd i)) (omega (arith, some)) (named_space rd i p))

-- a record that names none has no key
pub unnamed_key : (rd : Reader) (i : ℕ) → name_of rd i ≡ 0 → (name_key rd i).kind ≡ 0
unnamed_key rd i e = key_none_of rd i (ap (λ (x : Key). x.kind) (parts_unnamed rd i e))
