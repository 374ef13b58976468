use mathlib.Core.Path.{sym, ap}
use Rattle.reader.specs.Tests.{both, if_true}
use Rattle.reader.specs.Accents.{letter_in, composed}
use Rattle.reader_characters.specs.Composing.{unpacked, letters_of, no_letters}
use Rattle.reader_characters.proofs.accents.letters_of.Goals as goal

pub returns-in-65 : goal.returns-in-65
unfolding unpacked letters_of composed letter_in if_true both
returns-in-65 c = ap letters_of (sym c.in-65.is)

pub returns-in-67 : goal.returns-in-67
unfolding unpacked letters_of composed letter_in if_true both
returns-in-67 c = ap letters_of (sym c.in-67.is)

pub returns-in-69 : goal.returns-in-69
unfolding unpacked letters_of composed letter_in if_true both
returns-in-69 c = ap letters_of (sym c.in-69.is)

pub returns-in-73 : goal.returns-in-73
unfolding unpacked letters_of composed letter_in if_true both
returns-in-73 c = ap letters_of (sym c.in-73.is)

pub returns-in-78 : goal.returns-in-78
unfolding unpacked letters_of composed letter_in if_true both
returns-in-78 c = ap letters_of (sym c.in-78.is)

pub returns-in-79 : goal.returns-in-79
unfolding unpacked letters_of composed letter_in if_true both
returns-in-79 c = ap letters_of (sym c.in-79.is)

pub returns-in-85 : goal.returns-in-85
unfolding unpacked letters_of composed letter_in if_true both
returns-in-85 c = ap letters_of (sym c.in-85.is)

pub returns-in-89 : goal.returns-in-89
unfolding unpacked letters_of composed letter_in if_true both
returns-in-89 c = ap letters_of (sym c.in-89.is)

pub returns-in-97 : goal.returns-in-97
unfolding unpacked letters_of composed letter_in if_true both
returns-in-97 c = ap letters_of (sym c.in-97.is)

pub returns-in-99 : goal.returns-in-99
unfolding unpacked letters_of composed letter_in if_true both
returns-in-99 c = ap letters_of (sym c.in-99.is)

pub returns-in-101 : goal.returns-in-101
unfolding unpacked letters_of composed letter_in if_true both
returns-in-101 c = ap letters_of (sym c.in-101.is)

pub returns-in-105 : goal.returns-in-105
unfolding unpacked letters_of composed letter_in if_true both
returns-in-105 c = ap letters_of (sym c.in-105.is)

pub returns-in-110 : goal.returns-in-110
unfolding unpacked letters_of composed letter_in if_true both
returns-in-110 c = ap letters_of (sym c.in-110.is)

pub returns-in-111 : goal.returns-in-111
unfolding unpacked letters_of composed letter_in if_true both
returns-in-111 c = ap letters_of (sym c.in-111.is)

pub returns-in-117 : goal.returns-in-117
unfolding unpacked letters_of composed letter_in if_true both
returns-in-117 c = ap letters_of (sym c.in-117.is)

pub returns-in-121 : goal.returns-in-121
unfolding unpacked letters_of composed letter_in if_true both
returns-in-121 c = ap letters_of (sym c.in-121.is)

pub returns-in_default : goal.returns-in_default
unfolding unpacked letters_of composed letter_in if_true both
returns-in_default c = no_letters _ c.in_default.in_default-own.rest
