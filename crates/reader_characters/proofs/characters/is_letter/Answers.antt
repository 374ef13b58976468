use Rattle.reader_characters.specs.Spelling.{eithers}
use Rattle.reader.specs.Names.{is_letter}
use Rattle.reader_characters.proofs.characters.is_letter.Goals as goal

pub returns-then-is_between : goal.returns-then-is_between
unfolding is_letter
returns-then-is_between c = search eithers

pub returns : goal.returns
unfolding is_letter
returns c = search eithers
