-- Laws of the characters of a name: the ways out of the code that reads them.
use Rattle.std.specs.Prelude.{ℕ, ◌+◌, ◌%◌, ◌<◌, ◌≤◌, ◌≡◌, refl, List, [], ◌∷◌, Bool, true, false, not, eqb, ltb, leb, length, get_or}
use Rattle.std.proofs.Math.Path.{sym}
use Rattle.std.proofs.Common.{ap, ◌∙◌, arith}
use Rattle.std.proofs.lemmas.Bool.{false≢true}
use borrow.Author.Tests.{eq-eqb, ne_eqb, leb-true, not-true, not-false}
use Rattle.reader.specs.Words.{Reader}
use Rattle.reader.specs.Tests.{both, either, between, every, if_lt, if_true}
use Rattle.reader.specs.Chains.{linked}
use Rattle.reader.specs.Names.{name_bytes, is_letter, is_digit_or_underscore, single, accented, characters, starts_well}
use Rattle.reader.specs.Accents.{composed}
use Rattle.reader.specs.NameLaws.{spell_pair, spell_half, spell_marked, spell_cut, spell_single}
use Rattle.reader_characters.specs.declared.Step.{Step}
use Rattle.reader_characters.specs.Steps.{rest_bytes, Held, step, read, spelled, Left, FirstByte, FirstCharacter, is_spelled}
use Rattle.reader_characters.specs.Laws.{peek}

-- `if r { return true; }`
pub either_stop : (a b r : Bool) → r ≡ a → r ≡ true → true ≡ either a b
unfolding either
either_stop a b r e h = simp (either, ← e, h)

pub either_go : (a b r s : Bool) → r ≡ a → r ≡ false → s ≡ b → s ≡ either a b
unfolding either
either_go a b r s e h q = simp (either, ← e, h) q

pub ruleset eithers = (either_stop, either_go)

pub between_most : (low high a : ℕ) → between low high a ≡ true → a ≤ high
unfolding between if_lt
between_most low high a h = go (ltb a low) h
  where
    go : (z : Bool) → elim z as (λ y. Bool) [ true ↦ false | false ↦ leb a high ] ≡ true → a ≤ high
    go true q = absurd (false≢true q)
    go false q = leb-true a high q

-- The ways out of `single_of`.
module _ (b : ℕ) (x : Bool) (ex : x ≡ is_letter b) where
  pub single_letter : x ≡ true → b ≡ single b
  unfolding single either
  single_letter h = simp (single, either, ← ex, h)

  module _ (no : x ≡ false) (y : Bool) (ey : y ≡ is_digit_or_underscore b) where
    pub single_other : y ≡ true → b ≡ single b
    unfolding single either
    single_other h = simp (single, either, ← ex, no, ← ey, h)

    pub single_none : y ≡ false → 0 ≡ single b
    unfolding single either
    single_none h = simp (single, either, ← ex, no, ← ey, h)

-- The ways out of `accented_of`.
module _ (b : ℕ) (x : Bool) (ex : x ≡ between 128 191 b) where
  pub accented_out : not x ≡ true → 0 ≡ accented b
  unfolding accented both
  accented_out h = simp (accented, both, ← ex, not-true x h)

  module _ (yes : not x ≡ false) where
    pub accented_below : b ≤ 191
    accented_below = between_most 128 191 b (sym ex ∙ not-false x yes)

    pub accented_times : b ≡ 151 → 0 ≡ accented b
    unfolding accented both either
    accented_times h = simp (accented, both, either, ← ex, not-false x yes, eq-eqb b 151 h)

    module _ (n : b ≡ 151 → ⊥) where
      pub accented_divided : b ≡ 183 → 0 ≡ accented b
      unfolding accented both either
      accented_divided h = simp (accented, both, either, ← ex, not-false x yes, ne_eqb b 151 n, eq-eqb b 183 h)

      pub accented_in : (b ≡ 183 → ⊥) → b + 64 ≡ accented b
      unfolding accented both either
      accented_in h = simp (accented, both, either, ← ex, not-false x yes, ne_eqb b 151 n, ne_eqb b 183 h)

-- what a step has read
module _ (rd : Reader) (s : Step) where
  read_none : s.more ≡ false → read rd s ≡ []
  unfolding read if_true
  read_none h = simp (read, if_true, h)

  read_more : s.more ≡ true → read rd s ≡ s.value ∷ rest_bytes rd s
  unfolding read if_true
  read_more h = simp (read, if_true, h)

  pub spelled_none : s.more ≡ false → spelled rd s ≡ []
  unfolding spelled if_true
  spelled_none h = simp (spelled, if_true, h)

  pub spelled_more : s.more ≡ true → spelled rd s ≡ s.value ∷ characters (rest_bytes rd s)
  unfolding spelled if_true
  spelled_more h = simp (spelled, if_true, h)

-- a character c, and behind it what is left behind s
before : (rd : Reader) (s u : Step) (c : ℕ) (cs : List ℕ) → u ≡ step true c s.bytes s.count s.after → Held s → c ∷ characters (rest_bytes rd s) ≡ cs →
    FirstCharacter rd cs u
unfolding spelled if_true rest_bytes
before rd s u c cs eu h e = rw eu (record { first = e; held = record { fits = h.fits; some = h.some } })

-- The ways out of `accented_character`; s has read C3, and l the byte behind it.
module _ (rd : Reader) (s l : Step) (h : Held s) (el : FirstByte rd (rest_bytes rd s) l) where
  pub accented_half : not l.more ≡ true → (u : Step) → u ≡ step true 0 s.bytes s.count s.after → FirstCharacter rd (characters (195 ∷ rest_bytes rd s)) u
  unfolding characters
  accented_half k u eu =
      let none = sym el.first ∙ read_none rd l (not-true _ k) in
      before rd s u 0 _ eu h (rw (none, spell_half 195 refl))

  pub accented_pair : not l.more ≡ false → (c : ℕ) → c ≡ accented l.value →
      (u : Step) → u ≡ step true c l.bytes l.count l.after → FirstCharacter rd (characters (195 ∷ rest_bytes rd s)) u
  accented_pair k c e u eu =
      let more = sym el.first ∙ read_more rd l (not-false _ k) in
      before rd l u c _ eu el.held (rw (more, spell_pair 195 l.value (rest_bytes rd l) refl, e))

-- The ways out of `marked_character`; s has read the byte before the mark, k has read CC, and l the byte behind it.
module _ (rd : Reader) (s k l : Step) (h : Held s) (n : s.value ≡ 195 → ⊥) (ahead : get_or (rest_bytes rd s) 0 0 ≡ 204)
    (ek : FirstByte rd (rest_bytes rd s) k) (el : FirstByte rd (rest_bytes rd k) l) where
  mark_rest : rest_bytes rd s ≡ 204 ∷ rest_bytes rd k
  mark_rest = go k.more refl
    where
      first : List ℕ → ℕ
      first bs = get_or bs 0 0

      go : (x : Bool) → k.more ≡ x → rest_bytes rd s ≡ 204 ∷ rest_bytes rd k
      go true m = let is = sym ek.first ∙ read_more rd k m in is ∙ ap (λ (v : ℕ). v ∷ rest_bytes rd k) (sym (ap first is) ∙ ahead)
      go false m = let is = sym ahead ∙ ap first (sym ek.first ∙ read_none rd k m) in absurd (omega arith)

  pub marked_cut : not l.more ≡ true → (c : ℕ) → c ≡ single s.value →
      (u : Step) → u ≡ step true c s.bytes s.count s.after → FirstCharacter rd (characters (s.value ∷ rest_bytes rd s)) u
  marked_cut m c e u eu =
      let none = mark_rest ∙ ap (λ (bs : List ℕ). 204 ∷ bs) (sym el.first ∙ read_none rd l (not-true _ m)) in
      before rd s u c _ eu h (rw (none, spell_cut s.value 204 n, e))

  pub marked_whole : not l.more ≡ false → (c : ℕ) → c ≡ composed s.value l.value →
      (u : Step) → u ≡ step true c l.bytes l.count l.after → FirstCharacter rd (characters (s.value ∷ rest_bytes rd s)) u
  marked_whole m c e u eu =
      let more = mark_rest ∙ ap (λ (bs : List ℕ). 204 ∷ bs) (sym el.first ∙ read_more rd l (not-false _ m)) in
      before rd l u c _ eu el.held (rw (more, spell_marked s.value 204 l.value (rest_bytes rd l) n refl, e))

-- The ways out of `next_character`; f has read its first byte.
module _ (rd : Reader) (s f : Step) (ef : FirstByte rd (rest_bytes rd s) f) where
  pub character_none : not f.more ≡ true → FirstCharacter rd (characters (rest_bytes rd s)) f
  unfolding characters
  character_none h = record { first = rw (← ef.first, read_none rd f (not-true _ h), spelled_none rd f (not-true _ h)); held = ef.held }

  -- a mark is ahead
  pub mark_ahead : f.bytes % 256 ≡ 204 → get_or (rest_bytes rd f) 0 0 ≡ 204
  mark_ahead p = sym (peek rd f ef.held) ∙ p

  module _ (h : not f.more ≡ false) where
    rest_is : rest_bytes rd s ≡ f.value ∷ rest_bytes rd f
    rest_is = sym ef.first ∙ read_more rd f (not-false _ h)

    pub character_accented : f.value ≡ 195 → (u : Step) → FirstCharacter rd (characters (195 ∷ rest_bytes rd f)) u → FirstCharacter rd (characters (rest_bytes rd s)) u
    character_accented p u eu = record {
      first = eu.first ∙ ap characters (ap (λ (v : ℕ). v ∷ rest_bytes rd f) (sym p) ∙ sym rest_is);
      held = eu.held;
    }

    pub character_marked : (u : Step) → FirstCharacter rd (characters (f.value ∷ rest_bytes rd f)) u → FirstCharacter rd (characters (rest_bytes rd s)) u
    character_marked u eu = record { first = eu.first ∙ ap characters (sym rest_is); held = eu.held }

    pub character_single : (f.value ≡ 195 → ⊥) → (f.bytes % 256 ≡ 204 → ⊥) → (c : ℕ) → c ≡ single f.value →
        (u : Step) → u ≡ step true c f.bytes f.count f.after → FirstCharacter rd (characters (rest_bytes rd s)) u
    character_single n k c e u eu =
        let alone = spell_single f.value (rest_bytes rd f) n (λ q. k (peek rd f ef.held ∙ q)) in
        before rd f u c _ eu ef.held (rw (rest_is, alone, e))

-- One turn of a loop over characters: s was read, and u after it.
module _ (rd : Reader) (s u : Step) (h : s.more ≡ true) (eu : FirstCharacter rd (characters (rest_bytes rd s)) u) where
  pub spelled_next : spelled rd s ≡ s.value ∷ spelled rd u
  spelled_next = spelled_more rd s h ∙ rw eu.first

  pub spelled_falls : length (spelled rd u) < length (spelled rd s)
  spelled_falls = rw spelled_next (omega arith)

-- the first character of a name, behind the step b before it
pub spelled_name : (rd : Reader) (first : ℕ) (b s : Step) → Left rd (name_bytes rd (linked rd first)) b → FirstCharacter rd (characters (rest_bytes rd b)) s →
    spelled rd s ≡ characters (name_bytes rd (linked rd first))
spelled_name rd first b s eb es = es.first ∙ ap characters eb.left

pub is_spelled_cons : (c : ℕ) (cs : List ℕ) → is_spelled (c ∷ cs) ≡ elim (not (eqb c 0)) [ true ↦ is_spelled cs | false ↦ false ]
unfolding is_spelled every
is_spelled_cons c cs = refl

-- The ways out of `is_spelled` and `starts_well`; `cs` are the characters of the name.
module _ (rd : Reader) (cs : List ℕ) (s : Step) where
  pub spelled_start : spelled rd s ≡ cs → is_spelled cs ≡ is_spelled (spelled rd s)
  spelled_start e = rw e

  pub spelled_end : is_spelled cs ≡ is_spelled (spelled rd s) → s.more ≡ false → true ≡ is_spelled cs
  unfolding is_spelled every
  spelled_end inv h = rw (inv, spelled_none rd s h)

  pub spelled_stop : is_spelled cs ≡ is_spelled (spelled rd s) → s.more ≡ true → s.value ≡ 0 → false ≡ is_spelled cs
  spelled_stop inv h p = rw (inv, spelled_more rd s h, is_spelled_cons) (simp (eq-eqb _ 0 p))

  pub spelled_go : is_spelled cs ≡ is_spelled (spelled rd s) → s.more ≡ true → (s.value ≡ 0 → ⊥) →
      (u : Step) → FirstCharacter rd (characters (rest_bytes rd s)) u → is_spelled cs ≡ is_spelled (spelled rd u)
  spelled_go inv h p u eu = inv ∙ rw (spelled_next rd s u h eu, is_spelled_cons) (simp (ne_eqb _ 0 p))

  pub starts_none : spelled rd s ≡ cs → not s.more ≡ true → false ≡ starts_well cs
  unfolding starts_well
  starts_none e h = rw (← e, spelled_none rd s (not-true _ h))

  pub starts_some : spelled rd s ≡ cs → not s.more ≡ false → (x : Bool) → x ≡ is_digit_or_underscore s.value → not x ≡ starts_well cs
  unfolding starts_well
  starts_some e h x ex = rw (← e, spelled_more rd s (not-false _ h), ← ex)
