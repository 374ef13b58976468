-- The rows by kind: what holds of each of the seventeen rules, and of every other kind, holds of all.
use Rattle.std.specs.Prelude.{ℕ, zero, suc, ◌+◌, ◌-◌, ◌<◌, ◌≤◌, ◌≡◌, refl, List, Bool, true, false, ltb}
use Rattle.std.proofs.Common.{arith, ne_eqb, ltb-true, ltb-false}
use Rattle.reader.specs.Tests.{if_eq}
use Rattle.reader.specs.Trees.{Tree}
use Rattle.derivation_rules.specs.Rules.{State, no_row, row}

-- k is no rule of a derivation
abbrev pub NoRule : ℕ → Type 0
NoRule k = (j : ℕ) → 64 ≤ j → j ≤ 80 → k ≡ j → ⊥

pub row_none : (k : ℕ) (ps : List Tree) (st : State) → NoRule k → row k ps st ≡ no_row
unfolding row if_eq
row_none k ps st h =
    simp (
      row,
      if_eq,
      ne_eqb k 64 (h 64 (omega arith) (omega arith)),
      ne_eqb k 65 (h 65 (omega arith) (omega arith)),
      ne_eqb k 66 (h 66 (omega arith) (omega arith)),
      ne_eqb k 67 (h 67 (omega arith) (omega arith)),
      ne_eqb k 68 (h 68 (omega arith) (omega arith)),
      ne_eqb k 69 (h 69 (omega arith) (omega arith)),
      ne_eqb k 70 (h 70 (omega arith) (omega arith)),
      ne_eqb k 71 (h 71 (omega arith) (omega arith)),
      ne_eqb k 72 (h 72 (omega arith) (omega arith)),
      ne_eqb k 73 (h 73 (omega arith) (omega arith)),
      ne_eqb k 74 (h 74 (omega arith) (omega arith)),
      ne_eqb k 75 (h 75 (omega arith) (omega arith)),
      ne_eqb k 76 (h 76 (omega arith) (omega arith)),
      ne_eqb k 77 (h 77 (omega arith) (omega arith)),
      ne_eqb k 78 (h 78 (omega arith) (omega arith)),
      ne_eqb k 79 (h 79 (omega arith) (omega arith)),
      ne_eqb k 80 (h 80 (omega arith) (omega arith)),
    )

module _ (P : ℕ → Type 0) (p64 : P 64) (p65 : P 65) (p66 : P 66) (p67 : P 67) (p68 : P 68) (p69 : P 69) (p70 : P 70) (p71 : P 71) (p72 : P 72) (p73 : P 73)
    (p74 : P 74) (p75 : P 75) (p76 : P 76) (p77 : P 77) (p78 : P 78) (p79 : P 79) (p80 : P 80) (other : (k : ℕ) → NoRule k → P k) where
  from_64 : (j k : ℕ) → k ≡ 64 + j → P k
  from_64 zero k e = rw e p64
  from_64 (suc zero) k e = rw e p65
  from_64 (suc (suc zero)) k e = rw e p66
  from_64 (suc (suc (suc zero))) k e = rw e p67
  from_64 (suc (suc (suc (suc zero)))) k e = rw e p68
  from_64 (suc (suc (suc (suc (suc zero))))) k e = rw e p69
  from_64 (suc (suc (suc (suc (suc (suc zero)))))) k e = rw e p70
  from_64 (suc (suc (suc (suc (suc (suc (suc zero))))))) k e = rw e p71
  from_64 (suc (suc (suc (suc (suc (suc (suc (suc zero)))))))) k e = rw e p72
  from_64 (suc (suc (suc (suc (suc (suc (suc (suc (suc zero))))))))) k e = rw e p73
  from_64 (suc (suc (suc (suc (suc (suc (suc (suc (suc (suc zero)))))))))) k e = rw e p74
  from_64 (suc (suc (suc (suc (suc (suc (suc (suc (suc (suc (suc zero))))))))))) k e = rw e p75
  from_64 (suc (suc (suc (suc (suc (suc (suc (suc (suc (suc (suc (suc zero)))))))))))) k e = rw e p76
  from_64 (suc (suc (suc (suc (suc (suc (suc (suc (suc (suc (suc (suc (suc zero))))))))))))) k e = rw e p77
  from_64 (suc (suc (suc (suc (suc (suc (suc (suc (suc (suc (suc (suc (suc (suc zero)))))))))))))) k e = rw e p78
  from_64 (suc (suc (suc (suc (suc (suc (suc (suc (suc (suc (suc (suc (suc (suc (suc zero))))))))))))))) k e = rw e p79
  from_64 (suc (suc (suc (suc (suc (suc (suc (suc (suc (suc (suc (suc (suc (suc (suc (suc zero)))))))))))))))) k e = rw e p80
  from_64 (suc (suc (suc (suc (suc (suc (suc (suc (suc (suc (suc (suc (suc (suc (suc (suc (suc j))))))))))))))))) k e = other k (λ i low high same. omega arith)

  pub by_rule : (k : ℕ) → P k
  by_rule k = go (ltb k 64) refl
    where
      go : (b : Bool) → ltb k 64 ≡ b → P k
      go true e = let z : k < 64 = ltb-true k 64 e in other k (λ i low high same. omega arith)
      go false e = let z : 64 ≤ k = ltb-false k 64 e in from_64 (k - 64) k (omega arith)
