use Rattle.reader.specs.Files.{words}
use Rattle.reader.specs.TestLaws.{ifs}
use Rattle.reader.specs.Words.{through, word}
use Rattle.reader.proofs.Files.word_at.Goals as goal

pub returns-then-self-i : goal.returns-then-self-i
unfolding words through word
returns-then-self-i c = search ifs

pub returns : goal.returns
unfolding words through word
returns c = search ifs
