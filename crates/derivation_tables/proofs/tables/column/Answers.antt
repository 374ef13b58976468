use native.Mathlib.Omega.{arith}
use mathlib.Core.Path.{◌∙◌, sym, ap}
use Rattle.derivation_tables.specs.Tables.{column, column_at}
use Rattle.derivation_tables.proofs.tables.column.Goals as goal

pub returns-then-w-eq0 : goal.returns-then-w-eq0
returns-then-w-eq0 c = c.shapes.ensures ∙ ap (column c.args.k) (sym c.if-w-eq0.true)

pub returns-then-w-lt8 : goal.returns-then-w-lt8
returns-then-w-lt8 c = c.digit.ensures ∙ column_at _ _ 1 7 c.front.ensures c.args.w (omega arith) (omega arith)

pub returns : goal.returns
returns c = c.digit-2.ensures ∙ column_at _ _ 8 5 c.back.ensures c.args.w (omega arith) (omega arith)
