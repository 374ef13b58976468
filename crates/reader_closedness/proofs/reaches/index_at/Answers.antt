use native.Mathlib.Omega.{arith}
use Rattle.reader.specs.Files.{words_small}
use Rattle.reader_closedness.proofs.reaches.index_at.Goals as goal

pub returns : goal.returns
returns c = (c.word_at.ensures, omega (arith, c.word_at.ensures, words_small c.args.files.now c.args.i 1))
