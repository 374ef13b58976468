use mathlib.Core.Path.{refl}
use Rattle.reader.specs.TestLaws.{eq_yes, eq_no}
use Rattle.derivation_listed.proofs.filled.fill_entry.Goals as goal

pub returns-then-e-eq0 : goal.returns-then-e-eq0
returns-then-e-eq0 c = (eq_yes _ 0 _ _ _ c.if-e-eq0.true refl, eq_yes _ 0 _ _ _ c.if-e-eq0.true refl)

pub returns : goal.returns
returns c = (eq_no _ 0 _ _ _ c.if-e-eq0.false refl, eq_no _ 0 _ _ _ c.if-e-eq0.false c.store.ensures)
