use Rattle.reader_characters.specs.Spelling.{accented_half, accented_pair}
use Rattle.reader_characters.proofs.characters.accented_character.Goals as goal

pub returns-then-not-last : goal.returns-then-not-last
returns-then-not-last c = search accented_half

pub returns : goal.returns
returns c = search accented_pair
