use Rattle.reader_characters.specs.Spelling.{spelled_name, starts_none, starts_some}
use Rattle.reader_characters.proofs.characters.starts_well.Goals as goal

pub returns-then-not-s : goal.returns-then-not-s
returns-then-not-s c = let e = spelled_name _ _ _ _ c.start-before.ensures c.next_character-s.ensures in search starts_none

pub returns : goal.returns
returns c = let e = spelled_name _ _ _ _ c.start-before.ensures c.next_character-s.ensures in search starts_some
