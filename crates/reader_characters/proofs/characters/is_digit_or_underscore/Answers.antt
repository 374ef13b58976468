use Rattle.reader_characters.specs.Spelling.{eithers}
use Rattle.reader.specs.Names.{is_digit_or_underscore}
use Rattle.reader_characters.proofs.characters.is_digit_or_underscore.Goals as goal

pub returns-then-is_between : goal.returns-then-is_between
unfolding is_digit_or_underscore
returns-then-is_between c = search eithers

pub returns : goal.returns
unfolding is_digit_or_underscore
returns c = search eithers
