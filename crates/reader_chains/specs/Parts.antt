-- The parts of a record whose kind is read already.
use Rattle.std.specs.Prelude.{ℕ, ◌+◌, ◌*◌, ◌<◌, ◌≤◌, ◌≡◌, Bool, true, false, ltb}
use Rattle.std.proofs.Common.{arith}
use Rattle.reader.specs.Words.{Reader}
use Rattle.reader.specs.Tests.{if_lt}
use Rattle.reader.specs.Kinds.{role, role_at}
use Rattle.reader.specs.Trees.{lower, child}
use Rattle.reader.specs.TreeLaws.{lower_below}

-- what word w of record i, of kind k, refers to, where that is a part of its tree
unfoldable pub part_at : Reader → ℕ → ℕ → ℕ → ℕ
part_at rd k i w = if_lt (role k w) 10 0 (lower rd i w)

pub part_child : (rd : Reader) (k i w : ℕ) → k ≡ rd i 0 → part_at rd k i w ≡ child rd i w
unfolding part_at child role_at
part_child rd k i w e = rw e

pub part_below : (rd : Reader) (k i w : ℕ) → 0 < i → part_at rd k i w < i
unfolding part_at if_lt
part_below rd k i w h = go (ltb (role k w) 10)
  where
    go : (b : Bool) → elim b as (λ x. ℕ) [ true ↦ 0 | false ↦ lower rd i w ] < i
    go true = h
    go false = lower_below rd i w h

-- from a record to a part of it, where the measure is twice the record's number, and one more at the callee
pub part_falls : (rd : Reader) (k i w x t : ℕ) → 2 * i ≡ t → 0 < i → x ≡ part_at rd k i w → 2 * x + 1 < t
part_falls rd k i w x t e p h = omega (arith, part_below rd k i w p)

-- the same with c binders crossed, and at most one more crossed at the part
pub part_falls_below : (rd : Reader) (k i w x c e t : ℕ) → 2 * i ≡ t → (0 < i) × (c + i < 18446744073709551616) → x ≡ part_at rd k i w → e ≤ c + 1 →
    (2 * x + 1 < t) × (e + x < 18446744073709551616)
part_falls_below rd k i w x c e t eq p h q = let z : part_at rd k i w < i = part_below rd k i w p.0 in omega arith

-- the same where the measure is the record's number
pub part_falls_once : (rd : Reader) (k i w x c e t : ℕ) → i ≡ t → (i ≡ 0 → ⊥) → c + i < 18446744073709551616 → x ≡ part_at rd k i w → e ≤ c + 1 →
    (x < t) × (e + x < 18446744073709551616)
part_falls_once rd k i w x c e t eq pos p h q = let z : part_at rd k i w < i = part_below rd k i w (omega arith) in omega arith
