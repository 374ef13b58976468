use native.Mathlib.Omega.{arith}
use mathlib.Core.Path.{◌∙◌, ap}
use Rattle.derivation_tables.specs.Tables.{column}
use Rattle.derivation_tables.proofs.tables.added_by.Goals as goal

pub returns-then-b-eq0 : goal.returns-then-b-eq0
returns-then-b-eq0 c = c.column.ensures ∙ ap (column c.args.k) (omega arith)

pub returns : goal.returns
returns c = c.column-2.ensures ∙ ap (column c.args.k) (omega arith)
