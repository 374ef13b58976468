use mathlib.Core.Path.{sym, ap}
use native.Mathlib.Omega.{arith}
use Rattle.reader.specs.Tests.{if_eq, if_lt, if_true}
use Rattle.reader.specs.TestLaws.{rest_past}
use Rattle.reader.specs.Kinds.{is_symbol, is_number}
use Rattle.reader_equality.specs.Keys.{is_part}
use Rattle.reader_equality.specs.Shapes.{bit, packed, shape_of, shape_none}
use Rattle.reader_equality.proofs.shapes.shape_of.Goals as goal

pub returns-in-1 : goal.returns-in-1
unfolding bit packed shape_of is_symbol is_number is_part if_eq if_lt if_true
returns-in-1 c = ap shape_of (sym c.in-1.is)

pub returns-in-2 : goal.returns-in-2
unfolding bit packed shape_of is_symbol is_number is_part if_eq if_lt if_true
returns-in-2 c = ap shape_of (sym c.in-2.is)

pub returns-in-3 : goal.returns-in-3
unfolding bit packed shape_of is_symbol is_number is_part if_eq if_lt if_true
returns-in-3 c = ap shape_of (sym c.in-3.is)

pub returns-in-4 : goal.returns-in-4
unfolding bit packed shape_of is_symbol is_number is_part if_eq if_lt if_true
returns-in-4 c = ap shape_of (sym c.in-4.is)

pub returns-in-5 : goal.returns-in-5
unfolding bit packed shape_of is_symbol is_number is_part if_eq if_lt if_true
returns-in-5 c = ap shape_of (sym c.in-5.is)

pub returns-in-6 : goal.returns-in-6
unfolding bit packed shape_of is_symbol is_number is_part if_eq if_lt if_true
returns-in-6 c = ap shape_of (sym c.in-6.is)

pub returns-in-7 : goal.returns-in-7
unfolding bit packed shape_of is_symbol is_number is_part if_eq if_lt if_true
returns-in-7 c = ap shape_of (sym c.in-7.is)

pub returns-in-8 : goal.returns-in-8
unfolding bit packed shape_of is_symbol is_number is_part if_eq if_lt if_true
returns-in-8 c = ap shape_of (sym c.in-8.is)

pub returns-in-9 : goal.returns-in-9
unfolding bit packed shape_of is_symbol is_number is_part if_eq if_lt if_true
returns-in-9 c = ap shape_of (sym c.in-9.is)

pub returns-in-10 : goal.returns-in-10
unfolding bit packed shape_of is_symbol is_number is_part if_eq if_lt if_true
returns-in-10 c = ap shape_of (sym c.in-10.is)

pub returns-in-11 : goal.returns-in-11
unfolding bit packed shape_of is_symbol is_number is_part if_eq if_lt if_true
returns-in-11 c = ap shape_of (sym c.in-11.is)

pub returns-in-12 : goal.returns-in-12
unfolding bit packed shape_of is_symbol is_number is_part if_eq if_lt if_true
returns-in-12 c = ap shape_of (sym c.in-12.is)

pub returns-in-13 : goal.returns-in-13
unfolding bit packed shape_of is_symbol is_number is_part if_eq if_lt if_true
returns-in-13 c = ap shape_of (sym c.in-13.is)

pub returns-in-14 : goal.returns-in-14
unfolding bit packed shape_of is_symbol is_number is_part if_eq if_lt if_true
returns-in-14 c = ap shape_of (sym c.in-14.is)

pub returns-in-15 : goal.returns-in-15
unfolding bit packed shape_of is_symbol is_number is_part if_eq if_lt if_true
returns-in-15 c = ap shape_of (sym c.in-15.is)

pub returns-in-16 : goal.returns-in-16
unfolding bit packed shape_of is_symbol is_number is_part if_eq if_lt if_true
returns-in-16 c = ap shape_of (sym c.in-16.is)

pub returns-in-17 : goal.returns-in-17
unfolding bit packed shape_of is_symbol is_number is_part if_eq if_lt if_true
returns-in-17 c = ap shape_of (sym c.in-17.is)

pub returns-in-18 : goal.returns-in-18
unfolding bit packed shape_of is_symbol is_number is_part if_eq if_lt if_true
returns-in-18 c = ap shape_of (sym c.in-18.is)

pub returns-in-19 : goal.returns-in-19
unfolding bit packed shape_of is_symbol is_number is_part if_eq if_lt if_true
returns-in-19 c = ap shape_of (sym c.in-19.is)

pub returns-in-20 : goal.returns-in-20
unfolding bit packed shape_of is_symbol is_number is_part if_eq if_lt if_true
returns-in-20 c = ap shape_of (sym c.in-20.is)

pub returns-in-21 : goal.returns-in-21
unfolding bit packed shape_of is_symbol is_number is_part if_eq if_lt if_true
returns-in-21 c = ap shape_of (sym c.in-21.is)

pub returns-in-22 : goal.returns-in-22
unfolding bit packed shape_of is_symbol is_number is_part if_eq if_lt if_true
returns-in-22 c = ap shape_of (sym c.in-22.is)

pub returns-in-23 : goal.returns-in-23
unfolding bit packed shape_of is_symbol is_number is_part if_eq if_lt if_true
returns-in-23 c = ap shape_of (sym c.in-23.is)

pub returns-in_default : goal.returns-in_default
unfolding bit packed shape_of is_symbol is_number is_part if_eq if_lt if_true
returns-in_default c = shape_none c.args.k (λ h. rest_past 1 c.args.k 23 (omega (arith, h)) c.in_default.in_default-own.rest)
