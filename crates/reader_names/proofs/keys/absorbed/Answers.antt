use native.Mathlib.Omega.{arith}
use Rattle.reader_names.specs.NameKeys.{stirred_small, absorbed_is}
use Rattle.reader_names.proofs.keys.absorbed.Goals as goal

pub stirred-requires-2 : goal.stirred-requires-2
stirred-requires-2 c = (search stirred_small, omega arith)

pub returns : goal.returns
returns c = search absorbed_is
