use Rattle.reader_characters.specs.Spelling.{single_letter, single_other, single_none}
use Rattle.reader_characters.proofs.characters.single_of.Goals as goal

pub returns-then-is_letter : goal.returns-then-is_letter
returns-then-is_letter c = search single_letter

pub returns-then-is_digit_or_underscore : goal.returns-then-is_digit_or_underscore
returns-then-is_digit_or_underscore c = search single_other

pub returns : goal.returns
returns c = search single_none
