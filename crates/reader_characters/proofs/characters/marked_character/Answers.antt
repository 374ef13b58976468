use Rattle.reader_characters.specs.Spelling.{marked_cut, marked_whole}
use Rattle.reader_characters.proofs.characters.marked_character.Goals as goal

pub returns-then-not-last : goal.returns-then-not-last
returns-then-not-last c = search marked_cut

pub returns : goal.returns
returns c = search marked_whole
