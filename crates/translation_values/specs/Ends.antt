-- The table of the concluding nodes of the records' blocks, filled in rising order.
use Prim.Native.Nat.{ℕ, suc, ◌+◌, ◌-◌, ◌<◌, ◌≤◌}
use Rattle.std.specs.Prelude.{◌≡◌, List, Bool, not, get_or, length, drop, set}
use Rattle.std.proofs.Math.Path.{refl, ap}
use Rattle.std.proofs.Common.{sym, ◌∙◌, get_or-set_same, get_or-set_other, drop-set-lt, eq-or-lt_of_le, ltb-true, ltb-false}
use Rattle.std.proofs.Math.Bool.{true, false}
use Rattle.std.proofs.Math.Logic.{⊎_elim}
use Rattle.std.proofs.Math.Dec.{ltb}
use native.Mathlib.Omega.{arith}
use Rattle.std.proofs.lemmas.Bool.{not-true, not-false}
use Rattle.reader.specs.Words.{Reader}
use Rattle.reader.specs.Tests.{if_lt}
use Rattle.reader.specs.Kinds.{modes, is_rule}
use Rattle.translation_rules.specs.Templates.{template}
use Rattle.translation_rules.specs.Output.{size, before, base_of, end_of, start_of}
use Rattle.translation_addresses.proofs.Addresses.{size_rule, size_other}

-- the table has the end of the block of each record below i, also where that is no rule node
pub record Ends (rd : Reader) (m n : ℕ) (table : List ℕ) (i : ℕ) : Type 0 where
  pub holds : (x : ℕ) → x < i → get_or table x 0 ≡ end_of rd m n x

-- The ways out of `size_at`.
pub record Sized (rd : Reader) (i s : ℕ) : Type 0 where
  pub is : s ≡ size rd i
  pub most : s ≤ 21

module _ (rd : Reader) (i k : ℕ) (b : Bool) (ek : k ≡ rd i 0) (eb : b ≡ is_rule modes.proof k) where
  pub sized_other : not b ≡ true → Sized rd i 0
  sized_other h = record { is = sym (size_other rd i (rw (← ek) (sym eb ∙ not-true b h))); most = omega arith }

  pub sized_rule : (s : ℕ) → not b ≡ false → s ≡ length (template k) → Sized rd i s
  sized_rule s h e =
      let z = size_rule rd i (rw (← ek) (sym eb ∙ not-false b h)) in
      let is : s ≡ size rd i = e ∙ ap (λ (x : ℕ). length (template x)) ek ∙ sym z.0 in
      record { is = is; most = omega (arith, z.2) }

-- what `base_after` returns, as an order
pub base_bounds : (m i base s r : ℕ) → r ≡ if_lt m i (base + s) base → (base ≤ r) × (r ≤ base + s)
unfolding if_lt
base_bounds m i base s r e = go (ltb m i) e
  where
    go : (b : Bool) → r ≡ (elim b as (λ x. ℕ) [ true ↦ base + s | false ↦ base ]) → (base ≤ r) × (r ≤ base + s)
    go true h = omega arith
    go false h = omega arith

-- Where the block after that of record i starts: that of a record of the obligation takes no room.
module _ (rd : Reader) (m n : ℕ) where
  pub base_first : m + n + 1 ≡ base_of rd m n 0
  unfolding base_of before
  base_first = let none : 0 - (m + 1) ≡ 0 = omega arith in rw none (omega arith)

  base_after_own : (i : ℕ) → i ≤ m → base_of rd m n (i + 1) ≡ base_of rd m n i
  unfolding base_of
  base_after_own i h = let same : i + 1 - (m + 1) ≡ i - (m + 1) = omega arith in rw same

  base_after_block : (i : ℕ) → m < i → base_of rd m n (i + 1) ≡ base_of rd m n i + size rd i
  unfolding base_of before
  base_after_block i h =
      let next : i + 1 - (m + 1) ≡ suc (i - (m + 1)) = omega arith in
      let own : m + suc (i - (m + 1)) ≡ i = omega arith in
      let own_size : size rd (m + suc (i - (m + 1))) ≡ size rd i = ap (size rd) own in
      rw next (omega arith)

  pub base_next : (i base s r : ℕ) → base ≡ base_of rd m n i → s ≡ size rd i → r ≡ if_lt m i (base + s) base → r ≡ base_of rd m n (i + 1)
  unfolding if_lt
  base_next i base s r eb es er = er ∙ go (ltb m i) refl
    where
      go : (b : Bool) → ltb m i ≡ b → elim b as (λ x. ℕ) [ true ↦ base + s | false ↦ base ] ≡ base_of rd m n (i + 1)
      go true e = rw (eb, es) (sym (base_after_block i (ltb-true m i e)))
      go false e = rw eb (sym (base_after_own i (ltb-false m i e)))

  pub base_last : (i base : ℕ) → i ≤ m + n + 1 → m + n < i → base ≡ base_of rd m n i → base ≡ start_of rd m n
  unfolding base_of start_of
  base_last i base p q e = let all : i - (m + 1) ≡ n = omega arith in e ∙ rw all

  -- The loop of `fill_ends`.
  pub ends_none : (table : List ℕ) → Ends rd m n table 0
  ends_none table = record { holds = λ x h. absurd (omega arith) }

  pub ends_more : (table : List ℕ) (i base s : ℕ) → i < length table → base ≡ base_of rd m n i → s ≡ size rd i → Ends rd m n table i →
      Ends rd m n (set table i (base + s - 1)) (i + 1)
  unfolding end_of
  ends_more table i base s p eb es filled = record { holds = λ x h. ⊎_elim (λ q. here x q) (λ q. lower x q) (eq-or-lt_of_le (at_most x h)) }
    where
      at_most : (x : ℕ) → x < i + 1 → x ≤ i
      at_most x h = omega arith

      here : (x : ℕ) → x ≡ i → get_or (set table i (base + s - 1)) x 0 ≡ end_of rd m n x
      here x q = rw q (get_or-set_same table i (base + s - 1) 0 p ∙ rw (eb, es))

      lower : (x : ℕ) → x < i → get_or (set table i (base + s - 1)) x 0 ≡ end_of rd m n x
      lower x q = get_or-set_other table i x (base + s - 1) 0 (omega arith) ∙ filled.holds x q

  pub ends_all : (table : List ℕ) (i : ℕ) → m + n < i → Ends rd m n table i → Ends rd m n table (m + n + 1)
  ends_all table i h filled = record { holds = λ x p. filled.holds x (omega arith) }

-- an entry up to `last` written: those past it stay
pub past_kept : (last i : ℕ) (table first : List ℕ) (v : ℕ) → i ≤ last → drop (last + 1) table ≡ drop (last + 1) first →
    drop (last + 1) (set table i v) ≡ drop (last + 1) first
past_kept last i table first v h e = drop-set-lt (last + 1) table i v (omega arith) ∙ e
