use Rattle.reader.specs.Files.{words}
use Rattle.reader.specs.Words.{word}
use Rattle.reader.specs.Fetched.{of_first, of_second}
use Rattle.reader.proofs.Files.record_at.Goals as goal

pub returns-then-self-i-2 : goal.returns-then-self-i-2
unfolding words word
returns-then-self-i-2 c = search of_second

pub returns-then-self-i : goal.returns-then-self-i
unfolding words word
returns-then-self-i c = search of_second

pub returns-then-self-i-3 : goal.returns-then-self-i-3
unfolding words word
returns-then-self-i-3 c = search of_first

pub returns : goal.returns
unfolding words word
returns c = search of_first
