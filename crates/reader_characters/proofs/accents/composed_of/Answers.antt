use Rattle.reader_characters.specs.Composing.{unpacked, letters_of, letter_at, no_mark}
use Rattle.reader_characters.proofs.accents.composed_of.Goals as goal

pub returns-in-128 : goal.returns-in-128
unfolding unpacked letters_of
returns-in-128 c = letter_at _ _ 0 _ c.letters_of-letters.ensures (rw c.in-128.is)

pub returns-in-129 : goal.returns-in-129
unfolding unpacked letters_of
returns-in-129 c = letter_at _ _ 1 _ c.letters_of-letters.ensures (rw c.in-129.is)

pub returns-in-130 : goal.returns-in-130
unfolding unpacked letters_of
returns-in-130 c = letter_at _ _ 2 _ c.letters_of-letters.ensures (rw c.in-130.is)

pub returns-in-131 : goal.returns-in-131
unfolding unpacked letters_of
returns-in-131 c = letter_at _ _ 3 _ c.letters_of-letters.ensures (rw c.in-131.is)

pub returns-in-136 : goal.returns-in-136
unfolding unpacked letters_of
returns-in-136 c = letter_at _ _ 4 _ c.letters_of-letters.ensures (rw c.in-136.is)

pub returns-in-138 : goal.returns-in-138
unfolding unpacked letters_of
returns-in-138 c = letter_at _ _ 5 _ c.letters_of-letters.ensures (rw c.in-138.is)

pub returns-in-167 : goal.returns-in-167
unfolding unpacked letters_of
returns-in-167 c = letter_at _ _ 6 _ c.letters_of-letters.ensures (rw c.in-167.is)

pub returns-in_default : goal.returns-in_default
unfolding unpacked letters_of
returns-in_default c = no_mark _ _ c.in_default.in_default-own.rest
