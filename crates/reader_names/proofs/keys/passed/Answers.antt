use Rattle.reader_names.specs.NameKeys.{absorbed_small, passed_is}
use Rattle.reader_names.proofs.keys.passed.Goals as goal

pub absorbed-requires-2 : goal.absorbed-requires-2
absorbed-requires-2 c = absorbed_small _ _ _ c.absorbed.ensures

pub absorbed-requires-3 : goal.absorbed-requires-3
absorbed-requires-3 c = absorbed_small _ _ _ c.absorbed-2.ensures

pub absorbed-requires-4 : goal.absorbed-requires-4
absorbed-requires-4 c = absorbed_small _ _ _ c.absorbed-3.ensures

pub returns : goal.returns
returns c = search passed_is
