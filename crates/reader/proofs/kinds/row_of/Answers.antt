use mathlib.Core.Path.{sym, ap}
use native.Mathlib.Omega.{arith}
use Rattle.reader.specs.Tests.{if_lt}
use Rattle.reader.specs.TestLaws.{rest_past}
use Rattle.reader.specs.Kinds.{layout}
use Rattle.reader.specs.KindLaws.{unpacked, row_rule, row_none}
use Rattle.reader.proofs.kinds.row_of.Goals as goal

pub returns-in-1 : goal.returns-in-1
unfolding unpacked if_lt
returns-in-1 c = ap layout (sym c.in-1.is)

pub returns-in-2 : goal.returns-in-2
unfolding unpacked if_lt
returns-in-2 c = ap layout (sym c.in-2.is)

pub returns-in-3 : goal.returns-in-3
unfolding unpacked if_lt
returns-in-3 c = ap layout (sym c.in-3.is)

pub returns-in-4 : goal.returns-in-4
unfolding unpacked if_lt
returns-in-4 c = ap layout (sym c.in-4.is)

pub returns-in-5 : goal.returns-in-5
unfolding unpacked if_lt
returns-in-5 c = ap layout (sym c.in-5.is)

pub returns-in-6 : goal.returns-in-6
unfolding unpacked if_lt
returns-in-6 c = ap layout (sym c.in-6.is)

pub returns-in-7 : goal.returns-in-7
unfolding unpacked if_lt
returns-in-7 c = ap layout (sym c.in-7.is)

pub returns-in-8 : goal.returns-in-8
unfolding unpacked if_lt
returns-in-8 c = ap layout (sym c.in-8.is)

pub returns-in-9 : goal.returns-in-9
unfolding unpacked if_lt
returns-in-9 c = ap layout (sym c.in-9.is)

pub returns-in-10 : goal.returns-in-10
unfolding unpacked if_lt
returns-in-10 c = ap layout (sym c.in-10.is)

pub returns-in-11 : goal.returns-in-11
unfolding unpacked if_lt
returns-in-11 c = ap layout (sym c.in-11.is)

pub returns-in-12 : goal.returns-in-12
unfolding unpacked if_lt
returns-in-12 c = ap layout (sym c.in-12.is)

pub returns-in-13 : goal.returns-in-13
unfolding unpacked if_lt
returns-in-13 c = ap layout (sym c.in-13.is)

pub returns-in-14 : goal.returns-in-14
unfolding unpacked if_lt
returns-in-14 c = ap layout (sym c.in-14.is)

pub returns-in-15 : goal.returns-in-15
unfolding unpacked if_lt
returns-in-15 c = ap layout (sym c.in-15.is)

pub returns-in-16 : goal.returns-in-16
unfolding unpacked if_lt
returns-in-16 c = ap layout (sym c.in-16.is)

pub returns-in-17 : goal.returns-in-17
unfolding unpacked if_lt
returns-in-17 c = ap layout (sym c.in-17.is)

pub returns-in-18 : goal.returns-in-18
unfolding unpacked if_lt
returns-in-18 c = ap layout (sym c.in-18.is)

pub returns-in-19 : goal.returns-in-19
unfolding unpacked if_lt
returns-in-19 c = ap layout (sym c.in-19.is)

pub returns-in-20 : goal.returns-in-20
unfolding unpacked if_lt
returns-in-20 c = ap layout (sym c.in-20.is)

pub returns-in-21 : goal.returns-in-21
unfolding unpacked if_lt
returns-in-21 c = ap layout (sym c.in-21.is)

pub returns-in-22 : goal.returns-in-22
unfolding unpacked if_lt
returns-in-22 c = ap layout (sym c.in-22.is)

pub returns-in-23 : goal.returns-in-23
unfolding unpacked if_lt
returns-in-23 c = ap layout (sym c.in-23.is)

pub returns-then-k-ge32 : goal.returns-then-k-ge32
unfolding unpacked if_lt
returns-then-k-ge32 c = row_rule _ c.if-k-ge32.true

pub returns-else-k-ge32 : goal.returns-else-k-ge32
unfolding unpacked if_lt
returns-else-k-ge32 c =
    row_none c.args.k (omega arith) (λ h. rest_past 1 c.args.k 23 (omega (arith, h)) c.in_default.in_default-own.rest)
