use borrow.Author.Rules.{rules}
use Rattle.reader_characters.specs.Spelling.{character_none, character_accented, mark_ahead, character_marked, character_single}
use Rattle.reader_characters.proofs.characters.next_character.Goals as goal

pub returns-then-not-first : goal.returns-then-not-first
returns-then-not-first c = search character_none

pub returns-then-first-eq195 : goal.returns-then-first-eq195
returns-then-first-eq195 c = search character_accented

pub marked_character-requires : goal.marked_character-requires
marked_character-requires c = (search rules, search rules, search mark_ahead)

pub returns-then-first-eq204 : goal.returns-then-first-eq204
returns-then-first-eq204 c = search character_marked

pub returns : goal.returns
returns c = search character_single
