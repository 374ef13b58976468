use mathlib.Core.Path.{sym}
use Rattle.reader.specs.Words.{word_from}
use Rattle.reader.specs.WordLaws.{word_is, word_none}
use Rattle.reader.proofs.words.word_of.Goals as goal

pub returns-then-w-ge4 : goal.returns-then-w-ge4
unfolding word_from
returns-then-w-ge4 c = let a = c.args in sym (word_none a.s.now a.i a.w c.if-w-ge4.true)

pub returns : goal.returns
unfolding word_from
returns c = let a = c.args in rw (word_is a.s.now a.i a.w c.if-w-ge4.false) (cc)
