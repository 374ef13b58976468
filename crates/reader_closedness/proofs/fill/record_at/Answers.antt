use native.Mathlib.Omega.{arith}
use Rattle.reader.specs.Files.{words_small}
use Rattle.reader_closedness.proofs.fill.record_at.Goals as goal

pub returns : goal.returns
returns c = (c.record_at.ensures, omega (arith, c.record_at.ensures.a_is, words_small c.args.files.now c.args.i 1))
