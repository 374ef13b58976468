-- The rows by kind: what holds of each of the fifteen rules, and of every other kind, holds of all.
use Rattle.std.specs.Prelude.{ℕ, zero, suc, ◌+◌, ◌-◌, ◌<◌, ◌≤◌, ◌≡◌, refl, List, Bool, true, false, ltb}
use Rattle.std.proofs.Common.{arith, ne_eqb, ltb-true, ltb-false}
use Rattle.reader.specs.Tests.{if_eq}
use Rattle.reader.specs.Trees.{Tree}
use Rattle.proof_rules.specs.Rules.{no_row, row}

-- k is no rule of a proof
abbrev pub NoRule : ℕ → Type 0
NoRule k = (j : ℕ) → 32 ≤ j → j ≤ 46 → k ≡ j → ⊥

pub row_none : (k : ℕ) (ps : List Tree) → NoRule k → row k ps ≡ no_row
unfolding row if_eq
row_none k ps h =
    simp (
      row,
      if_eq,
      ne_eqb k 32 (h 32 (omega arith) (omega arith)),
      ne_eqb k 33 (h 33 (omega arith) (omega arith)),
      ne_eqb k 34 (h 34 (omega arith) (omega arith)),
      ne_eqb k 35 (h 35 (omega arith) (omega arith)),
      ne_eqb k 36 (h 36 (omega arith) (omega arith)),
      ne_eqb k 37 (h 37 (omega arith) (omega arith)),
      ne_eqb k 38 (h 38 (omega arith) (omega arith)),
      ne_eqb k 39 (h 39 (omega arith) (omega arith)),
      ne_eqb k 40 (h 40 (omega arith) (omega arith)),
      ne_eqb k 41 (h 41 (omega arith) (omega arith)),
      ne_eqb k 42 (h 42 (omega arith) (omega arith)),
      ne_eqb k 43 (h 43 (omega arith) (omega arith)),
      ne_eqb k 44 (h 44 (omega arith) (omega arith)),
      ne_eqb k 45 (h 45 (omega arith) (omega arith)),
      ne_eqb k 46 (h 46 (omega arith) (omega arith)),
    )

module _ (P : ℕ → Type 0) (p32 : P 32) (p33 : P 33) (p34 : P 34) (p35 : P 35) (p36 : P 36) (p37 : P 37) (p38 : P 38) (p39 : P 39) (p40 : P 40) (p41 : P 41)
    (p42 : P 42) (p43 : P 43) (p44 : P 44) (p45 : P 45) (p46 : P 46) (other : (k : ℕ) → NoRule k → P k) where
  from_32 : (j k : ℕ) → k ≡ 32 + j → P k
  from_32 zero k e = rw e p32
  from_32 (suc zero) k e = rw e p33
  from_32 (suc (suc zero)) k e = rw e p34
  from_32 (suc (suc (suc zero))) k e = rw e p35
  from_32 (suc (suc (suc (suc zero)))) k e = rw e p36
  from_32 (suc (suc (suc (suc (suc zero))))) k e = rw e p37
  from_32 (suc (suc (suc (suc (suc (suc zero)))))) k e = rw e p38
  from_32 (suc (suc (suc (suc (suc (suc (suc zero))))))) k e = rw e p39
  from_32 (suc (suc (suc (suc (suc (suc (suc (suc zero)))))))) k e = rw e p40
  from_32 (suc (suc (suc (suc (suc (suc (suc (suc (suc zero))))))))) k e = rw e p41
  from_32 (suc (suc (suc (suc (suc (suc (suc (suc (suc (suc zero)))))))))) k e = rw e p42
  from_32 (suc (suc (suc (suc (suc (suc (suc (suc (suc (suc (suc zero))))))))))) k e = rw e p43
  from_32 (suc (suc (suc (suc (suc (suc (suc (suc (suc (suc (suc (suc zero)))))))))))) k e = rw e p44
  from_32 (suc (suc (suc (suc (suc (suc (suc (suc (suc (suc (suc (suc (suc zero))))))))))))) k e = rw e p45
  from_32 (suc (suc (suc (suc (suc (suc (suc (suc (suc (suc (suc (suc (suc (suc zero)))))))))))))) k e = rw e p46
  from_32 (suc (suc (suc (suc (suc (suc (suc (suc (suc (suc (suc (suc (suc (suc (suc j))))))))))))))) k e = other k (λ i low high same. omega arith)

  pub by_rule : (k : ℕ) → P k
  by_rule k = go (ltb k 32) refl
    where
      go : (b : Bool) → ltb k 32 ≡ b → P k
      go true e = let z : k < 32 = ltb-true k 32 e in other k (λ i low high same. omega arith)
      go false e = let z : 32 ≤ k = ltb-false k 32 e in from_32 (k - 32) k (omega arith)
