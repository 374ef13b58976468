use native.Mathlib.Omega.{arith}
use mathlib.Core.Path.{sym, ◌∙◌}
use borrow.Author.Tests.{not-false}
use Rattle.reader.specs.TestLaws.{demands}
use Rattle.reader.specs.Records.{content_fault}
use Rattle.reader_records.specs.Tables.{looked_none, looked_before, looked_after, looked_names}
use Rattle.std.proofs.Common.{ap, not}
use Rattle.reader_records.proofs.faults.content_fault.Goals as goal

pub returns-then-not-weight_fits : goal.returns-then-not-weight_fits
unfolding content_fault
returns-then-not-weight_fits c =
    (search demands, c.requires.9, looked_names _ _ _ _ _ (looked_before _ 7 (omega arith) (omega arith)) c.requires.7)

pub returns-then-not-name_spelled : goal.returns-then-not-name_spelled
unfolding content_fault
returns-then-not-name_spelled c = (
  search demands,
  c.requires.9,
  looked_names _ _ _ _ _ (looked_before _ 8 (omega arith) (omega arith))
      c.requires.7,
)

pub name_is_free-requires : goal.name_is_free-requires
unfolding content_fault
name_is_free-requires c =
    let p = c.requires in (p.5, p.6, p.7, p.2, p.8, sym c.name_spelled.ensures ∙ not-false _ (ap not c.if-not-name_spelled.false))

pub returns-then-not-name_is_free : goal.returns-then-not-name_is_free
unfolding content_fault
returns-then-not-name_is_free c = (
  search demands,
  c.requires.9,
  looked_names _ _ _ _ _
      (looked_after _ 9 (omega arith)) c.name_is_free.ensures.1,
)

pub typing_fits-requires : goal.typing_fits-requires
unfolding content_fault
typing_fits-requires c = let p = c.requires in (p.0, p.4, p.9)

pub returns-then-not-typing_fits : goal.returns-then-not-typing_fits
unfolding content_fault
returns-then-not-typing_fits c =
    (search demands, c.typing_fits.ensures.1, looked_names _ _ _ _ _ (looked_after _ 10 (omega arith)) c.name_is_free.ensures.1)

pub returns : goal.returns
unfolding content_fault
returns c = (search demands, c.typing_fits.ensures.1, looked_names _ _ _ _ _ (looked_none _) c.name_is_free.ensures.1)
