-- Names of plain bytes, which are told from others by the bytes of their records: what the code walks, and that a record that differs tells the keys apart.
use Rattle.std.specs.Prelude.{ℕ, zero, suc, ◌+◌, ◌*◌, ◌/◌, ◌%◌, ◌<◌, ◌≤◌, ◌≡◌, Bool, not, eqb, ltb}
use Rattle.std.proofs.Math.Path.{refl, sym, ap}
use Rattle.std.proofs.Common.{◌∙◌, lit<, arith}
use mathlib.Core.List.{List, [], ◌∷◌, ◌++◌}
use Rattle.std.proofs.Math.Bool.{true, false, false≢true}
use Rattle.std.proofs.Math.ListN.{get_or, get_or-append}
use borrow.Author.Tests.{eq-eqb, ne_eqb, eqb-true, ltb-true, not-true, not-false}
use Rattle.reader.specs.Words.{Reader}
use Rattle.reader.specs.Tests.{both, every, if_lt, if_true}
use Rattle.reader.specs.Trees.{lower}
use Rattle.reader.specs.Chains.{linked}
use Rattle.reader.specs.TreeLaws.{linked_zero, linked_step_lem}
use Rattle.reader.specs.Names.{name_of, bytes_of, record_bytes, trimmed, name_bytes, name}
use Rattle.reader.specs.declared.Record.{Record}
use Rattle.reader.specs.Fetched.{RecordIs}
use Rattle.reader_characters.specs.Steps.{is_spelled}
use Rattle.reader_characters.specs.Spelling.{is_spelled_cons}
use Rattle.reader_equality.specs.declared.Key.{Key}
use Rattle.reader_equality.specs.Keys.{same_key, same_key_equal, fields_equal, fields_same}
use Rattle.reader_names.specs.NameKeys.{has_room, dealt, spread, name_parts, spread_stop, spread_go, room_some, parts_name}
use Rattle.reader_names.specs.PlainBytes.{is_plain_byte, every_in, every_more, plain_yes, plain_one, plain_no, plain_only}

-- the four bytes of a word are plain
unfoldable pub is_plain_word : ℕ → Bool
is_plain_word w = every is_plain_byte (bytes_of w [])

-- the bytes of name record i are plain
unfoldable pub is_plain_record : Reader → ℕ → Bool
is_plain_record rd i = both (is_plain_word (rd i 1)) (is_plain_word (rd i 2))

-- those of all records of the name whose first is `first` are
unfoldable pub is_plain : Reader → ℕ → Bool
is_plain rd first = every (is_plain_record rd) (linked rd first)

-- the first record of symbol i's name, where its bytes are plain; else 0
unfoldable pub plain_name : Reader → ℕ → ℕ
plain_name rd i = if_true (is_plain rd (name_of rd i)) (name_of rd i) 0

-- name records i and j have the same bytes
unfoldable pub same_bytes : Reader → ℕ → ℕ → Bool
same_bytes rd i j = both (eqb (rd i 1) (rd j 1)) (eqb (rd i 2) (rd j 2))

-- two names differ in a record, before one of them ends
unfoldable pub records_differ : Reader → List ℕ → List ℕ → Bool
records_differ rd [] js = false
records_differ rd (i ∷ is) [] = false
records_differ rd (i ∷ is) (j ∷ js) = elim (same_bytes rd i j) [ true ↦ records_differ rd is js | false ↦ true ]

-- a symbol whose records differ from those of the name whose first is `plain` has other dealt characters than these
pub record Apart (rd : Reader) (plain : ℕ) (parts : Key) : Type 0 where
  pub apart : (j : ℕ) → records_differ rd (linked rd plain) (linked rd (name_of rd j)) ≡ true → name_parts rd j ≡ parts → ⊥

differ_cons : (rd : Reader) (i j : ℕ) (is js : List ℕ) → records_differ rd (i ∷ is) (j ∷ js) ≡ elim (same_bytes rd i j) [ true ↦ records_differ rd is js | false ↦ true ]
unfolding records_differ
differ_cons rd i j is js = refl

both_in : (a b : Bool) → both a b ≡ true → (a ≡ true) × (b ≡ true)
unfolding both
both_in true b h = (refl, h)
both_in false b h = absurd (false≢true h)

-- bytes without the zero bytes at their end
cut : ℕ → List ℕ → List ℕ
cut b [] = elim (eqb b 0) [ true ↦ [] | false ↦ b ∷ [] ]
cut b (c ∷ cs) = b ∷ c ∷ cs

trimmed_cons : (b : ℕ) (bs : List ℕ) → trimmed (b ∷ bs) ≡ cut b (trimmed bs)
unfolding trimmed cut
trimmed_cons b bs = refl

-- The bytes of a plain name are plain.
every_append : {A : Type 0} (test : A → Bool) (xs ys : List A) → every test xs ≡ true → every test ys ≡ true → every test (xs ++ ys) ≡ true
every_append test [] ys h k = k
every_append test (x ∷ xs) ys h k = let p = every_in test x xs h in every_more test x (xs ++ ys) p.0 (every_append test xs ys p.1 k)

plain_trimmed : (bs : List ℕ) → every is_plain_byte bs ≡ true → every is_plain_byte (trimmed bs) ≡ true
unfolding trimmed cut every
plain_trimmed [] h = refl
plain_trimmed (b ∷ bs) h = rw trimmed_cons (go (trimmed bs) (eqb b 0) refl (plain_trimmed bs p.1))
  where
    p : (is_plain_byte b ≡ true) × (every is_plain_byte bs ≡ true)
    p = every_in is_plain_byte b bs h

    go : (ts : List ℕ) (z : Bool) → eqb b 0 ≡ z → every is_plain_byte ts ≡ true → every is_plain_byte (cut b ts) ≡ true
    go [] true e k = simp (cut, e)
    go [] false e k = simp (cut, e) (every_more is_plain_byte b [] p.0 refl)
    go (c ∷ cs) z e k = every_more is_plain_byte b (c ∷ cs) p.0 k

record_plain : (rd : Reader) (i : ℕ) → is_plain_record rd i ≡ true → every is_plain_byte (record_bytes rd i) ≡ true
unfolding is_plain_record is_plain_word record_bytes bytes_of
record_plain rd i h = let p = both_in _ _ h in every_append is_plain_byte (bytes_of (rd i 1) []) (bytes_of (rd i 2) []) p.0 p.1

plain_bytes : (rd : Reader) (is : List ℕ) → every (is_plain_record rd) is ≡ true → every is_plain_byte (name_bytes rd is) ≡ true
unfolding name_bytes every
plain_bytes rd [] h = refl
plain_bytes rd (i ∷ []) h = plain_trimmed (record_bytes rd i) (record_plain rd i (every_in (is_plain_record rd) i [] h).0)
plain_bytes rd (i ∷ j ∷ is) h =
    let p = every_in (is_plain_record rd) i (j ∷ is) h in
    every_append is_plain_byte (record_bytes rd i) (name_bytes rd (j ∷ is)) (record_plain rd i p.0) (plain_bytes rd (j ∷ is) p.1)

-- Names that differ in a record have different bytes.
cut_at : (b : ℕ) (ts : List ℕ) (k : ℕ) → get_or (cut b ts) k 0 ≡ get_or (b ∷ ts) k 0
unfolding cut
cut_at b [] k = go (eqb b 0) refl k
  where
    go : (z : Bool) → eqb b 0 ≡ z → (k : ℕ) → get_or (cut b []) k 0 ≡ get_or (b ∷ []) k 0
    go true e zero = simp (cut, e) (sym (eqb-true b 0 e))
    go true e (suc k) = simp (cut, e)
    go false e k = simp (cut, e)
cut_at b (c ∷ cs) k = refl

trimmed_at : (bs : List ℕ) (k : ℕ) → get_or (trimmed bs) k 0 ≡ get_or bs k 0
unfolding trimmed
trimmed_at [] k = refl
trimmed_at (b ∷ bs) zero = rw trimmed_cons (cut_at b (trimmed bs) zero)
trimmed_at (b ∷ bs) (suc k) = rw trimmed_cons (cut_at b (trimmed bs) (suc k)) ∙ trimmed_at bs k

first_bytes : (rd : Reader) (i : ℕ) (is : List ℕ) (k : ℕ) → k < 8 → get_or (name_bytes rd (i ∷ is)) k 0 ≡ get_or (record_bytes rd i) k 0
unfolding name_bytes record_bytes bytes_of
first_bytes rd i [] k h = trimmed_at (record_bytes rd i) k
first_bytes rd i (j ∷ is) k h = get_or-append (record_bytes rd i) (name_bytes rd (j ∷ is)) 0 k h

word_sum : (a : ℕ) → a < 4294967296 → a ≡ a % 256 + 256 * (a / 256 % 256) + 65536 * (a / 65536 % 256) + 16777216 * (a / 16777216 % 256)
word_sum a h =
    let one : a ≡ a % 256 + 256 * (a / 256) = omega arith in
    let two : a / 256 ≡ a / 256 % 256 + 256 * (a / 65536) = omega arith in
    let three : a / 65536 ≡ a / 65536 % 256 + 256 * (a / 16777216) = omega arith in
    let four : a / 16777216 ≡ a / 16777216 % 256 = omega arith in
    omega arith

word_same : (a c : ℕ) → a < 4294967296 → c < 4294967296 → a % 256 ≡ c % 256 → a / 256 % 256 ≡ c / 256 % 256 → a / 65536 % 256 ≡ c / 65536 % 256 →
    a / 16777216 % 256 ≡ c / 16777216 % 256 → a ≡ c
word_same a c ha hc e0 e1 e2 e3 = word_sum a ha ∙ rw (e0, e1, e2, e3) (sym (word_sum c hc))

append_rest : (xs ys zs : List ℕ) → xs ++ ys ≡ xs ++ zs → ys ≡ zs
append_rest [] ys zs e = e
append_rest (x ∷ xs) ys zs e = let rest : xs ++ ys ≡ xs ++ zs = cc in append_rest xs ys zs rest

module _ (rd : Reader) (small : (i w : ℕ) → rd i w < 4294967296) where
  first_same : (i j : ℕ) (is js : List ℕ) → name_bytes rd (i ∷ is) ≡ name_bytes rd (j ∷ js) → same_bytes rd i j ≡ true
  unfolding same_bytes both record_bytes bytes_of
  first_same i j is js e =
      let at : (k : ℕ) → k < 8 → get_or (record_bytes rd i) k 0 ≡ get_or (record_bytes rd j) k 0 =
      λ k h. sym (first_bytes rd i is k h) ∙ ap (λ (bs : List ℕ). get_or bs k 0) e ∙ first_bytes rd j js k h in
      let a : rd i 1 ≡ rd j 1 = word_same _ _ (small i 1) (small j 1) (at 0 (lit< tt)) (at 1 (lit< tt)) (at 2 (lit< tt)) (at 3 (lit< tt)) in
      let b : rd i 2 ≡ rd j 2 = word_same _ _ (small i 2) (small j 2) (at 4 (lit< tt)) (at 5 (lit< tt)) (at 6 (lit< tt)) (at 7 (lit< tt)) in
      simp (same_bytes, both, eq-eqb _ _ a, eq-eqb _ _ b)

  same_records : (i j : ℕ) → same_bytes rd i j ≡ true → record_bytes rd i ≡ record_bytes rd j
  unfolding same_bytes record_bytes
  same_records i j h =
      let p = both_in _ _ h in
      let a : rd i 1 ≡ rd j 1 = eqb-true _ _ p.0 in
      let b : rd i 2 ≡ rd j 2 = eqb-true _ _ p.1 in
      rw (a, b)

  differ_bytes : (is js : List ℕ) → records_differ rd is js ≡ true → name_bytes rd is ≡ name_bytes rd js → ⊥
  unfolding records_differ name_bytes
  differ_bytes [] js h e = false≢true h
  differ_bytes (i ∷ is) [] h e = false≢true h
  differ_bytes (i ∷ is) (j ∷ js) h e = go (same_bytes rd i j) refl (rw differ_cons at h) (λ k q. differ_bytes is js k q)
    where
      others : (xs ys : List ℕ) → record_bytes rd i ≡ record_bytes rd j → records_differ rd xs ys ≡ true → name_bytes rd (i ∷ xs) ≡ name_bytes rd (j ∷ ys) → name_bytes rd xs ≡ name_bytes rd ys
      others [] ys eb k q = absurd (false≢true k)
      others (x ∷ xs) [] eb k q = absurd (false≢true k)
      others (x ∷ xs) (y ∷ ys) eb k q = append_rest (record_bytes rd i) _ _ (q ∙ ap (λ (bs : List ℕ). bs ++ name_bytes rd (y ∷ ys)) (sym eb))

      go : (b : Bool) → same_bytes rd i j ≡ b → elim (same_bytes rd i j) as (λ x. Bool) [ true ↦ records_differ rd is js | false ↦ true ] ≡ true →
          (records_differ rd is js ≡ true → name_bytes rd is ≡ name_bytes rd js → ⊥) → ⊥
      go true t k rest = let more = simp t at k in rest more (others is js (same_records i j t) more e)
      go false t k rest = false≢true (sym t ∙ first_same i j is js e)

-- a key that is one is of characters
key_spelled : (k : Key) (cs : List ℕ) → 0 < (spread k cs).kind → is_spelled cs ≡ true
unfolding is_spelled every
key_spelled k [] p = refl
key_spelled k (c ∷ cs) p = go (has_room k c) refl (λ q. key_spelled (dealt k c) cs q)
  where
    go : (b : Bool) → has_room k c ≡ b → (0 < (spread (dealt k c) cs).kind → is_spelled cs ≡ true) → is_spelled (c ∷ cs) ≡ true
    go true t rest =
        let more : 0 < (spread (dealt k c) cs).kind = omega (arith, ap (λ (x : Key). x.kind) (spread_go k c cs t)) in
        rw is_spelled_cons (simp (ne_eqb c 0 (room_some k c t)) (rest more))
    go false t rest = absurd (omega (arith, ap (λ (x : Key). x.kind) (spread_stop k c cs t)))

-- What `plain_name` is for: the dealt characters are those of symbol i.
module _ (rd : Reader) (small : (i w : ℕ) → rd i w < 4294967296) (i : ℕ) (parts : Key) (ep : parts ≡ name_parts rd i) (some : parts.kind ≡ 0 → ⊥) where
  same_bytes_lem : (j : ℕ) → is_plain rd (name_of rd i) ≡ true → name_parts rd j ≡ parts → name_bytes rd (linked rd (name_of rd i)) ≡ name_bytes rd (linked rd (name_of rd j))
  unfolding is_plain name_parts name
  same_bytes_lem j h e =
      let has : 0 < (name_parts rd i).kind = omega (arith, ap (λ (x : Key). x.kind) ep) in
      plain_only _ _ (plain_bytes rd (linked rd (name_of rd i)) h) (key_spelled _ _ has) (parts_name rd i j has (sym ep ∙ sym e))

  pub plain_apart : (plain : ℕ) → plain ≡ plain_name rd i → Apart rd plain parts
  unfolding plain_name if_true records_differ
  plain_apart plain e = go (is_plain rd (name_of rd i)) refl e
    where
      go : (b : Bool) → is_plain rd (name_of rd i) ≡ b → plain ≡ elim b as (λ x. ℕ) [ true ↦ name_of rd i | false ↦ 0 ] → Apart rd plain parts
      go true t q = record { apart = λ j d k. differ_bytes rd small _ _ (rw q at d) (same_bytes_lem j t k) }
      go false t q = record { apart = λ j d k. false≢true (rw (q, linked_zero rd) at d) }

-- The ways out of `is_plain_word`.
module _ (w : ℕ) where
  pub word_first : 128 ≤ w % 256 → false ≡ is_plain_word w
  unfolding is_plain_word bytes_of
  word_first h = sym (plain_no _ _ h)

  module _ (p : w % 256 < 128) where
    pub word_second : 128 ≤ w / 256 % 256 → false ≡ is_plain_word w
    unfolding is_plain_word bytes_of
    word_second h = sym (plain_yes _ _ p ∙ plain_no _ _ h)

    module _ (q : w / 256 % 256 < 128) where
      pub word_third : 128 ≤ w / 65536 % 256 → false ≡ is_plain_word w
      unfolding is_plain_word bytes_of
      word_third h = sym (plain_yes _ _ p ∙ plain_yes _ _ q ∙ plain_no _ _ h)

      module _ (r : w / 65536 % 256 < 128) where
        pub word_fourth : 128 ≤ w / 16777216 % 256 → false ≡ is_plain_word w
        unfolding is_plain_word bytes_of
        word_fourth h = sym (plain_yes _ _ p ∙ plain_yes _ _ q ∙ plain_yes _ _ r ∙ plain_no _ _ h)

        pub word_all : w / 16777216 % 256 < 128 → true ≡ is_plain_word w
        unfolding is_plain_word bytes_of
        word_all h = sym (plain_yes _ _ p ∙ plain_yes _ _ q ∙ plain_yes _ _ r ∙ plain_one _ h)

pub ruleset words = (word_first, word_second, word_third, word_fourth, word_all)

-- the record after record r, whose words are x
after_is : (rd : Reader) (r : ℕ) (x : Record) → RecordIs rd r x → (s : ℕ) → s ≡ if_lt x.c r x.c 0 → s ≡ lower rd r 3
unfolding lower
after_is rd r x e s es = es ∙ ap (λ (c : ℕ). if_lt c r c 0) e.c_is

pub after_falls : (rd : Reader) (r : ℕ) → (r ≡ 0 → ⊥) → (x : Record) (s : ℕ) → s ≡ if_lt x.c r x.c 0 → s < r
unfolding if_lt
after_falls rd r p x s es = rw es (go (ltb x.c r) refl)
  where
    go : (b : Bool) → ltb x.c r ≡ b → elim b as (λ y. ℕ) [ true ↦ x.c | false ↦ 0 ] < r
    go true e = ltb-true x.c r e
    go false e = omega arith

-- The ways out of `is_plain`.
module _ (rd : Reader) (first r : ℕ) (inv : is_plain rd first ≡ is_plain rd r) where
  pub plain_end : r ≡ 0 → true ≡ is_plain rd first
  unfolding is_plain every
  plain_end z = rw (inv, z, linked_zero rd)

  module _ (p : r ≡ 0 → ⊥) (x : Record) (ex : RecordIs rd r x) (t : Bool) (et : t ≡ both (is_plain_word x.a) (is_plain_word x.b)) where
    record_is : t ≡ is_plain_record rd r
    unfolding is_plain_record
    record_is = et ∙ rw (ex.a_is, ex.b_is)

    pub plain_stop : not t ≡ true → false ≡ is_plain rd first
    unfolding is_plain every
    plain_stop h = rw (inv, linked_step_lem rd r (omega arith)) (simp (every, ← record_is, not-true t h))

    pub plain_go : not t ≡ false → (s : ℕ) → s ≡ if_lt x.c r x.c 0 → is_plain rd first ≡ is_plain rd s
    unfolding is_plain every
    plain_go h s es = inv ∙ rw (linked_step_lem rd r (omega arith), after_is rd r x ex s es) (simp (every, ← record_is, not-false t h))

-- The ways out of `plain_name`.
module _ (rd : Reader) (i first : ℕ) (ef : first ≡ name_of rd i) (t : Bool) (et : t ≡ is_plain rd first) where
  pub name_plain : t ≡ true → first ≡ plain_name rd i
  unfolding plain_name if_true
  name_plain h = simp (plain_name, if_true, ← ef, ← et, h)

  pub name_other : t ≡ false → 0 ≡ plain_name rd i
  unfolding plain_name if_true
  name_other h = simp (plain_name, if_true, ← ef, ← et, h)

-- The ways out of `same_bytes`.
module _ (a b c d : ℕ) where
  pub same_first : (a ≡ c → ⊥) → eqb a c ≡ both (eqb a c) (eqb b d)
  unfolding both
  same_first h = simp (both, ne_eqb a c h)

  pub same_second : a ≡ c → eqb b d ≡ both (eqb a c) (eqb b d)
  unfolding both
  same_second h = simp (both, eq-eqb a c h)

-- The ways out of `records_differ`.
module _ (rd : Reader) (first other r s : ℕ) (inv : records_differ rd (linked rd first) (linked rd other) ≡ records_differ rd (linked rd r) (linked rd s)) where
  pub differ_end : r ≡ 0 → false ≡ records_differ rd (linked rd first) (linked rd other)
  unfolding records_differ
  differ_end z = rw (inv, z, linked_zero rd)

  module _ (p : r ≡ 0 → ⊥) where
    pub differ_short : s ≡ 0 → false ≡ records_differ rd (linked rd first) (linked rd other)
    unfolding records_differ
    differ_short z = rw (inv, linked_step_lem rd r (omega arith), z, linked_zero rd)

    module _ (q : s ≡ 0 → ⊥) (x : Record) (ex : RecordIs rd r x) (y : Record) (ey : RecordIs rd s y) (t : Bool) (et : t ≡ both (eqb x.a y.a) (eqb x.b y.b)) where
      bytes_are : t ≡ same_bytes rd r s
      unfolding same_bytes
      bytes_are = et ∙ rw (ex.a_is, ex.b_is, ey.a_is, ey.b_is)

      pub differ_here : not t ≡ true → true ≡ records_differ rd (linked rd first) (linked rd other)
      differ_here h = rw (inv, linked_step_lem rd r (omega arith), linked_step_lem rd s (omega arith), differ_cons) (simp (← bytes_are, not-true t h))

      pub differ_go : not t ≡ false → (u v : ℕ) → u ≡ if_lt x.c r x.c 0 → v ≡ if_lt y.c s y.c 0 →
          records_differ rd (linked rd first) (linked rd other) ≡ records_differ rd (linked rd u) (linked rd v)
      differ_go h u v eu ev =
          inv ∙ rw (linked_step_lem rd r (omega arith), linked_step_lem rd s (omega arith), differ_cons, after_is rd r x ex u eu, after_is rd s y ey v ev)
          (simp (← bytes_are, not-false t h))

-- The ways out of `has_parts`.
module _ (rd : Reader) (plain : ℕ) (parts : Key) (apart : Apart rd plain parts) (j first : ℕ) (ef : first ≡ name_of rd j)
    (d : Bool) (ed : d ≡ records_differ rd (linked rd plain) (linked rd first)) where
  pub parts_apart : d ≡ true → false ≡ same_key (name_parts rd j) parts
  parts_apart h = go (same_key (name_parts rd j) parts) refl
    where
      go : (b : Bool) → same_key (name_parts rd j) parts ≡ b → false ≡ b
      go true e = absurd (apart.apart j (rw (← ef) (sym ed ∙ h)) (same_key_equal _ _ e))
      go false e = refl

pub parts_same : (rd : Reader) (j : ℕ) (k parts : Key) (r : Bool) → k ≡ name_parts rd j → r ≡ fields_equal k parts → r ≡ same_key (name_parts rd j) parts
parts_same rd j k parts r e h = rw (← e) (h ∙ fields_same k parts)
