use native.Mathlib.Omega.{arith}
use mathlib.Core.Path.{sym}
use Rattle.reader.specs.Words.{word_from}
use Rattle.reader.specs.WordLaws.{word_is, word_past}
use Rattle.reader.proofs.words.word_past.Goals as goal

pub returns-then-s-i : goal.returns-then-s-i
unfolding word_from
returns-then-s-i c = let a = c.args in sym (word_past a.s.now a.i a.w (omega arith))

pub returns : goal.returns
unfolding word_from
returns c = let a = c.args in rw (word_is a.s.now a.i a.w c.requires) (cc)
