use mathlib.Core.Path.{sym, ap}
use native.Mathlib.Omega.{arith}
use Rattle.reader.specs.Tests.{if_eq}
use Rattle.reader.specs.TestLaws.{rest_past}
use Rattle.reader.specs.Fetched.{word_in, word_none}
use Rattle.reader.proofs.Record.word_in.Goals as goal

pub returns-in-0 : goal.returns-in-0
unfolding word_in if_eq
returns-in-0 c = ap (word_in c.args.self) (sym c.in-0.is)

pub returns-in-1 : goal.returns-in-1
unfolding word_in if_eq
returns-in-1 c = ap (word_in c.args.self) (sym c.in-1.is)

pub returns-in-2 : goal.returns-in-2
unfolding word_in if_eq
returns-in-2 c = ap (word_in c.args.self) (sym c.in-2.is)

pub returns-in-3 : goal.returns-in-3
unfolding word_in if_eq
returns-in-3 c = ap (word_in c.args.self) (sym c.in-3.is)

pub returns-in_default : goal.returns-in_default
unfolding word_in if_eq
returns-in_default c = word_none c.args.self c.args.w (rest_past 0 c.args.w 4 (omega arith) c.in_default.in_default-own.rest)
