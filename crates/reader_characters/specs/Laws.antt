-- Laws of what is left of a name.
use Rattle.std.specs.Prelude.{ℕ, zero, suc, ◌+◌, ◌*◌, ◌-◌, ◌/◌, ◌%◌, ◌<◌, ◌≤◌, ◌≡◌, Bool, length}
use Rattle.std.proofs.Math.Path.{refl, sym, ap}
use Rattle.std.proofs.Common.{◌∙◌, length-append, arith}
use mathlib.Core.List.{List, [], ◌∷◌}
use Rattle.std.proofs.Math.Bool.{true, false}
use Rattle.std.proofs.lemmas.Bool.{false≢true}
use Rattle.std.proofs.Math.Dec.{eqb, eqb-suc-zero}
use Rattle.std.proofs.Math.ListN.{get_or}
use borrow.Author.Tests.{eq-eqb, ne_eqb, eqb-true, eqb-false}
use Rattle.reader.specs.Words.{Reader}
use Rattle.reader.specs.Tests.{both, every, if_eq, if_lt, if_true}
use Rattle.reader.specs.Trees.{lower}
use Rattle.reader.specs.Chains.{linked}
use Rattle.reader.specs.TreeLaws.{linked_zero, linked_step_lem}
use Rattle.reader.specs.Names.{bytes_of, record_bytes, trimmed, name_bytes}
use Rattle.reader.specs.declared.Record.{Record}
use Rattle.reader.specs.Fetched.{RecordIs}
use Rattle.reader_characters.specs.declared.Step.{Step}
use Rattle.reader_characters.specs.Steps.{digits, top, left_bytes, rest_bytes, Held, step, nothing, read, Left, FirstByte}

is_zero : ℕ → Bool
is_zero b = eqb b 0

-- bytes without the zero bytes at their end
cut : ℕ → List ℕ → List ℕ
cut b [] = elim (eqb b 0) [ true ↦ [] | false ↦ b ∷ [] ]
cut b (c ∷ cs) = b ∷ c ∷ cs

trimmed_cons : (b : ℕ) (bs : List ℕ) → trimmed (b ∷ bs) ≡ cut b (trimmed bs)
unfolding trimmed cut
trimmed_cons b bs = refl

zeros_cons : (b : ℕ) (bs : List ℕ) → every is_zero (b ∷ bs) ≡ elim (eqb b 0) [ true ↦ every is_zero bs | false ↦ false ]
unfolding every is_zero
zeros_cons b bs = refl

trimmed_none : (bs : List ℕ) → trimmed bs ≡ [] → every is_zero bs ≡ true
unfolding every cut
trimmed_none [] e = refl
trimmed_none (b ∷ bs) e = go (trimmed bs) (eqb b 0) refl (λ p. trimmed_none bs p) (sym (trimmed_cons b bs) ∙ e)
  where
    go : (ts : List ℕ) (z : Bool) → eqb b 0 ≡ z → (ts ≡ [] → every is_zero bs ≡ true) → cut b ts ≡ [] → every is_zero (b ∷ bs) ≡ true
    go [] true q f h = rw zeros_cons (simp (q, f refl))
    go [] false q f h = let k = simp (cut, q) at h in let no : ◌≡◌ {A = ℕ} 0 1 = cc in absurd (omega arith)
    go (c ∷ cs) z q f h = let no : ◌≡◌ {A = ℕ} 0 1 = cc in absurd (omega arith)

trimmed_zeros : (bs : List ℕ) → every is_zero bs ≡ true → trimmed bs ≡ []
unfolding trimmed cut
trimmed_zeros [] e = refl
trimmed_zeros (b ∷ bs) e = go (eqb b 0) refl (λ h. trimmed_zeros bs h) (rw zeros_cons at e)
  where
    go : (z : Bool) → eqb b 0 ≡ z → (every is_zero bs ≡ true → trimmed bs ≡ []) →
        elim (eqb b 0) as (λ x. Bool) [ true ↦ every is_zero bs | false ↦ false ] ≡ true → trimmed (b ∷ bs) ≡ []
    go true q f h = rw (trimmed_cons, f (simp q at h)) (simp (cut, q))
    go false q f h = absurd (false≢true (simp q at h))

trimmed_more : (b : ℕ) (bs : List ℕ) → every is_zero (b ∷ bs) ≡ false → trimmed (b ∷ bs) ≡ b ∷ trimmed bs
unfolding cut
trimmed_more b bs e = trimmed_cons b bs ∙ go (trimmed bs) (eqb b 0) refl (λ p. trimmed_none bs p) (rw zeros_cons at e)
  where
    go : (ts : List ℕ) (z : Bool) → eqb b 0 ≡ z → (ts ≡ [] → every is_zero bs ≡ true) →
        elim (eqb b 0) as (λ x. Bool) [ true ↦ every is_zero bs | false ↦ false ] ≡ false → cut b ts ≡ b ∷ ts
    go [] true q f h = absurd (false≢true (sym (simp (q, f refl) at h)))
    go [] false q f h = simp (cut, q)
    go (c ∷ cs) z q f h = refl

trimmed_most : (bs : List ℕ) → length (trimmed bs) ≤ length bs
unfolding trimmed cut
trimmed_most [] = omega arith
trimmed_most (b ∷ bs) = rw trimmed_cons (go (trimmed bs) (eqb b 0) refl (trimmed_most bs))
  where
    go : (ts : List ℕ) (z : Bool) → eqb b 0 ≡ z → length ts ≤ length bs → length (cut b ts) ≤ suc (length bs)
    go [] true q h = simp (cut, q) (omega arith)
    go [] false q h = simp (cut, q) (omega arith)
    go (c ∷ cs) z q h = omega arith

-- a name record has 8 bytes
pub bytes_most : (rd : Reader) (is : List ℕ) → length (name_bytes rd is) ≤ 8 * length is
unfolding name_bytes record_bytes bytes_of
bytes_most rd [] = omega arith
bytes_most rd (i ∷ []) = omega (arith, trimmed_most (record_bytes rd i))
bytes_most rd (i ∷ j ∷ is) = omega (arith, length-append (record_bytes rd i) (name_bytes rd (j ∷ is)), bytes_most rd (j ∷ is))

-- the bytes of a name that are left
left_start : (rd : Reader) (i after : ℕ) → left_bytes rd after (record_bytes rd i) ≡ name_bytes rd (i ∷ linked rd after)
unfolding left_bytes if_eq name_bytes
left_start rd i zero = rw (linked_zero rd)
left_start rd i (suc a) = rw (linked_step_lem rd (suc a) (omega arith)) (simp (if_eq, eqb-suc-zero a))

left_none : (rd : Reader) (after : ℕ) → left_bytes rd after [] ≡ name_bytes rd (linked rd after)
unfolding left_bytes if_eq name_bytes trimmed
left_none rd zero = rw (linked_zero rd)
left_none rd (suc a) = simp (if_eq, eqb-suc-zero a)

left_more : (rd : Reader) (after b : ℕ) (bs : List ℕ) → both (eqb after 0) (every is_zero (b ∷ bs)) ≡ false → left_bytes rd after (b ∷ bs) ≡ b ∷ left_bytes rd after bs
unfolding left_bytes if_eq both
left_more rd zero b bs e = trimmed_more b bs e
left_more rd (suc a) b bs e = simp (if_eq, eqb-suc-zero a)

-- Numbers of n bytes.
digits_zero : (n : ℕ) → every is_zero (digits n 0) ≡ true
unfolding digits every is_zero
digits_zero zero = refl
digits_zero (suc n) = digits_zero n

digits_some : (n v : ℕ) → v < top n → (v ≡ 0 → ⊥) → every is_zero (digits n v) ≡ false
unfolding digits top
digits_some zero v h p = absurd (p (omega arith))
digits_some (suc n) v h p = rw zeros_cons (go (eqb (v % 256) 0) refl (λ q. digits_some n (v / 256) (omega arith) q))
  where
    go : (z : Bool) → eqb (v % 256) 0 ≡ z → ((v / 256 ≡ 0 → ⊥) → every is_zero (digits n (v / 256)) ≡ false) →
        elim z as (λ x. Bool) [ true ↦ every is_zero (digits n (v / 256)) | false ↦ false ] ≡ false
    go true e rest = let low = eqb-true (v % 256) 0 e in rest (λ q. p (omega arith))
    go false e rest = refl

digits_next : (n v : ℕ) → 0 < n → digits n v ≡ v % 256 ∷ digits (n - 1) (v / 256)
unfolding digits
digits_next zero v h = absurd (omega arith)
digits_next (suc n) v h = let one : suc n - 1 ≡ n = omega arith in rw one

top_next : (n v : ℕ) → 0 < n → v < top n → v / 256 < top (n - 1)
unfolding top
top_next zero v h k = absurd (omega arith)
top_next (suc n) v h k = let one : suc n - 1 ≡ n = omega arith in rw one (omega arith)

-- the 8 bytes of a record, as one number
record_digits : (rd : Reader) (r a b : ℕ) → a ≡ rd r 1 → b ≡ rd r 2 → a < 4294967296 → digits 8 (a + 4294967296 * b) ≡ record_bytes rd r
unfolding digits record_bytes bytes_of
record_digits rd r a b ea eb small =
    let v0 : (a + 4294967296 * b) / 256 ≡ a / 256 + 16777216 * b = omega arith in
    let v1 : (a / 256 + 16777216 * b) / 256 ≡ a / 65536 + 65536 * b = omega arith in
    let v2 : (a / 65536 + 65536 * b) / 256 ≡ a / 16777216 + 256 * b = omega arith in
    let v3 : (a / 16777216 + 256 * b) / 256 ≡ b = omega arith in
    let d0 : (a + 4294967296 * b) % 256 ≡ a % 256 = omega arith in
    let d1 : (a / 256 + 16777216 * b) % 256 ≡ a / 256 % 256 = omega arith in
    let d2 : (a / 65536 + 65536 * b) % 256 ≡ a / 65536 % 256 = omega arith in
    let d3 : (a / 16777216 + 256 * b) % 256 ≡ a / 16777216 % 256 = omega arith in
    let b2 : b / 256 / 256 ≡ b / 65536 = omega arith in
    let b3 : b / 65536 / 256 ≡ b / 16777216 = omega arith in
    rw (v0, v1, v2, v3, d0, d1, d2, d3, b2, b3, ea, eb)

nothing_held : Held nothing
unfolding top
nothing_held = record { fits = omega arith; some = λ p. absurd (p refl) }

-- The ways out of `start`.
pub start_none : (rd : Reader) (r : ℕ) (s : Step) → s ≡ nothing → r ≡ 0 → Left rd (name_bytes rd (linked rd r)) s
unfolding rest_bytes left_bytes if_eq digits trimmed top name_bytes
start_none rd r s e z = record { left = rw (e, z, linked_zero rd); held = rw e nothing_held }

pub start_some : (rd : Reader) (r : ℕ) → (r ≡ 0 → ⊥) → (x : Record) → RecordIs rd r x → x.a < 4294967296 → x.b < 4294967296 →
    (after : ℕ) → after ≡ if_lt x.c r x.c 0 →
    Left rd (name_bytes rd (linked rd r)) (step false 0 (x.a + 4294967296 * x.b) 8 after)
unfolding rest_bytes lower top
start_some rd r p x is sa sb after e =
    let is_lower : after ≡ lower rd r 3 = e ∙ ap (λ (c : ℕ). if_lt c r c 0) is.c_is in
    record {
      left =
          ap (left_bytes rd after) (record_digits rd r x.a x.b is.a_is is.b_is sa) ∙ left_start rd r after ∙
          rw (is_lower, linked_step_lem rd r (omega arith));
      held = record { fits = omega arith; some = λ q. omega arith };
    }

-- Nothing is left, or a byte.
rest_none : (rd : Reader) (s : Step) → s.bytes ≡ 0 → s.after ≡ 0 → rest_bytes rd s ≡ []
unfolding rest_bytes left_bytes if_eq
rest_none rd s z e = rw (z, e) (trimmed_zeros (digits s.count 0) (digits_zero s.count))

count_some : (s : Step) → Held s → (a z : Bool) → eqb s.after 0 ≡ a → eqb s.bytes 0 ≡ z → both a z ≡ false → 0 < s.count
unfolding both top
count_some s h true true ea ez k = absurd (false≢true (sym k))
count_some s h true false ea ez k = go s.count h.fits
  where
    go : (n : ℕ) → s.bytes < top n → 0 < n
    go zero l = absurd (eqb-false s.bytes 0 ez (omega arith))
    go (suc n) l = omega arith
count_some s h false z ea ez k = h.some (eqb-false s.after 0 ea)

module _ (rd : Reader) (s : Step) (h : Held s) where
  -- the byte that is left, and those after it
  rest_some : (a z : Bool) → eqb s.after 0 ≡ a → eqb s.bytes 0 ≡ z → both a z ≡ false →
      rest_bytes rd s ≡ s.bytes % 256 ∷ left_bytes rd s.after (digits (s.count - 1) (s.bytes / 256))
  unfolding rest_bytes both
  rest_some true true ea ez k = absurd (false≢true (sym k))
  rest_some true false ea ez k =
      let bytes = digits_next s.count s.bytes (count_some s h true false ea ez k) in
      let some = digits_some s.count s.bytes h.fits (eqb-false s.bytes 0 ez) in
      ap (left_bytes rd s.after) bytes ∙ left_more rd s.after _ _ (rw (← bytes) (simp (both, ea) some))
  rest_some false z ea ez k =
      ap (left_bytes rd s.after) (digits_next s.count s.bytes (count_some s h false z ea ez k)) ∙ left_more rd s.after _ _ (simp (both, ea))

  -- the byte that is left, 0 for none
  pub peek : s.bytes % 256 ≡ get_or (rest_bytes rd s) 0 0
  unfolding both
  peek = go (eqb s.after 0) refl (eqb s.bytes 0) refl
    where
      go : (a : Bool) → eqb s.after 0 ≡ a → (z : Bool) → eqb s.bytes 0 ≡ z → s.bytes % 256 ≡ get_or (rest_bytes rd s) 0 0
      go true ea true ez = let z = eqb-true s.bytes 0 ez in rw (rest_none rd s z (eqb-true s.after 0 ea), z)
      go true ea false ez = rw (rest_some true false ea ez refl)
      go false ea z ez = rw (rest_some false z ea ez refl)

-- The ways out of `is_end`.
module _ (s : Step) where
  pub end_record : (s.after ≡ 0 → ⊥) → false ≡ both (eqb s.after 0) (eqb s.bytes 0)
  unfolding both
  end_record p = simp (both, ne_eqb s.after 0 p)

  pub end_bytes : s.after ≡ 0 → eqb s.bytes 0 ≡ both (eqb s.after 0) (eqb s.bytes 0)
  unfolding both
  end_bytes p = simp (both, eq-eqb s.after 0 p)

pub count_more : (s : Step) → Held s → (e : Bool) → e ≡ both (eqb s.after 0) (eqb s.bytes 0) → e ≡ false → 1 ≤ s.count
count_more s h e ee y = count_some s h (eqb s.after 0) (eqb s.bytes 0) refl refl (sym ee ∙ y)

-- The ways out of `next_byte`; `e` says whether no byte is left behind s.
module _ (rd : Reader) (s : Step) (h : Held s) (e : Bool) (ee : e ≡ both (eqb s.after 0) (eqb s.bytes 0)) where
  pub byte_none : e ≡ true → (u : Step) → u ≡ nothing → FirstByte rd (rest_bytes rd s) u
  unfolding read if_true both
  byte_none y u eu = record { first = rw eu (sym (go (eqb s.after 0) refl (sym ee ∙ y))); held = rw eu nothing_held }
    where
      go : (a : Bool) → eqb s.after 0 ≡ a → both a (eqb s.bytes 0) ≡ true → rest_bytes rd s ≡ []
      go true ea k = rest_none rd s (eqb-true s.bytes 0 k) (eqb-true s.after 0 ea)
      go false ea k = absurd (false≢true k)

  module _ (y : e ≡ false) where
    rest_is : rest_bytes rd s ≡ s.bytes % 256 ∷ left_bytes rd s.after (digits (s.count - 1) (s.bytes / 256))
    rest_is = rest_some rd s h (eqb s.after 0) (eqb s.bytes 0) refl refl (sym ee ∙ y)

    pub byte_more : (s.count ≡ 1 → ⊥) → FirstByte rd (rest_bytes rd s) (step true (s.bytes % 256) (s.bytes / 256) (s.count - 1) s.after)
    unfolding read if_true rest_bytes
    byte_more n = record {
      first = sym rest_is;
      held = record { fits = top_next s.count s.bytes (count_more s h e ee y) h.fits; some = λ p. omega (arith, count_more s h e ee y) };
    }

    pub byte_last : s.count ≡ 1 → (u : Step) → Left rd (name_bytes rd (linked rd s.after)) u →
        FirstByte rd (rest_bytes rd s) (step true (s.bytes % 256) u.bytes u.count u.after)
    unfolding read if_true rest_bytes digits
    byte_last one u l =
        let last : rest_bytes rd s ≡ s.bytes % 256 ∷ left_bytes rd s.after [] = rest_is ∙ rw one in
        record {
          first = sym (last ∙ ap (λ (bs : List ℕ). s.bytes % 256 ∷ bs) (left_none rd s.after ∙ sym l.left));
          held = record { fits = l.held.fits; some = l.held.some };
        }
