use Prim.Native.Nat.{ℕ}
use mathlib.Core.Path.{sym, ap}
use Rattle.reader.specs.Tests.{if_lt}
use Rattle.derivation_tables.specs.Tables.{digit, digits, columns, column, front_rest}
use Rattle.derivation_tables.proofs.tables.front.Goals as goal

pub returns-in-64 : goal.returns-in-64
unfolding digit digits columns column if_lt
returns-in-64 c = ap (λ (k : ℕ). columns k 1 7) (sym c.in-64.is)

pub returns-in-65 : goal.returns-in-65
unfolding digit digits columns column if_lt
returns-in-65 c = ap (λ (k : ℕ). columns k 1 7) (sym c.in-65.is)

pub returns-in-66 : goal.returns-in-66
unfolding digit digits columns column if_lt
returns-in-66 c = ap (λ (k : ℕ). columns k 1 7) (sym c.in-66.is)

pub returns-in-67 : goal.returns-in-67
unfolding digit digits columns column if_lt
returns-in-67 c = ap (λ (k : ℕ). columns k 1 7) (sym c.in-67.is)

pub returns-in-68 : goal.returns-in-68
unfolding digit digits columns column if_lt
returns-in-68 c = ap (λ (k : ℕ). columns k 1 7) (sym c.in-68.is)

pub returns-in-69 : goal.returns-in-69
unfolding digit digits columns column if_lt
returns-in-69 c = ap (λ (k : ℕ). columns k 1 7) (sym c.in-69.is)

pub returns-in-70 : goal.returns-in-70
unfolding digit digits columns column if_lt
returns-in-70 c = ap (λ (k : ℕ). columns k 1 7) (sym c.in-70.is)

pub returns-in-71 : goal.returns-in-71
unfolding digit digits columns column if_lt
returns-in-71 c = ap (λ (k : ℕ). columns k 1 7) (sym c.in-71.is)

pub returns-in-72 : goal.returns-in-72
unfolding digit digits columns column if_lt
returns-in-72 c = ap (λ (k : ℕ). columns k 1 7) (sym c.in-72.is)

pub returns-in-73 : goal.returns-in-73
unfolding digit digits columns column if_lt
returns-in-73 c = ap (λ (k : ℕ). columns k 1 7) (sym c.in-73.is)

pub returns-in-74 : goal.returns-in-74
unfolding digit digits columns column if_lt
returns-in-74 c = ap (λ (k : ℕ). columns k 1 7) (sym c.in-74.is)

pub returns-in-75 : goal.returns-in-75
unfolding digit digits columns column if_lt
returns-in-75 c = ap (λ (k : ℕ). columns k 1 7) (sym c.in-75.is)

pub returns-in-76 : goal.returns-in-76
unfolding digit digits columns column if_lt
returns-in-76 c = ap (λ (k : ℕ). columns k 1 7) (sym c.in-76.is)

pub returns-in-77 : goal.returns-in-77
unfolding digit digits columns column if_lt
returns-in-77 c = ap (λ (k : ℕ). columns k 1 7) (sym c.in-77.is)

pub returns-in-78 : goal.returns-in-78
unfolding digit digits columns column if_lt
returns-in-78 c = ap (λ (k : ℕ). columns k 1 7) (sym c.in-78.is)

pub returns-in-79 : goal.returns-in-79
unfolding digit digits columns column if_lt
returns-in-79 c = ap (λ (k : ℕ). columns k 1 7) (sym c.in-79.is)

pub returns-in-80 : goal.returns-in-80
unfolding digit digits columns column if_lt
returns-in-80 c = ap (λ (k : ℕ). columns k 1 7) (sym c.in-80.is)

pub returns-in_default : goal.returns-in_default
unfolding digit digits columns column if_lt
returns-in_default c = front_rest _ c.in_default.in_default-own.rest
