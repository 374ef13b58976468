use Rattle.reader.specs.Tests.{if_eq}
use Rattle.reader.specs.Typing.{typing_of}
use Rattle.reader_typing.specs.Records.{typed_as, nothing_asked}
use Rattle.reader_typing.proofs.records.is_typed.Goals as goal

pub returns-in-7 : goal.returns-in-7
unfolding typing_of if_eq
returns-in-7 c = (search typed_as, c.requires.2)

pub returns-in-8 : goal.returns-in-8
unfolding typing_of if_eq
returns-in-8 c = (search typed_as, c.function_typed.ensures.1)

pub returns-in-10 : goal.returns-in-10
unfolding typing_of if_eq
returns-in-10 c = (search typed_as, c.requires.2)

pub returns-in-11 : goal.returns-in-11
unfolding typing_of if_eq
returns-in-11 c = (search typed_as, c.requires.2)

pub returns-in-12 : goal.returns-in-12
unfolding typing_of if_eq
returns-in-12 c = (search typed_as, c.requires.2)

pub returns-in-13 : goal.returns-in-13
unfolding typing_of if_eq
returns-in-13 c = (search typed_as, c.application_typed.ensures.1)

pub returns-in-19 : goal.returns-in-19
unfolding typing_of if_eq
returns-in-19 c = (search typed_as, c.requires.2)

pub returns-in-20 : goal.returns-in-20
unfolding typing_of if_eq
returns-in-20 c = (search typed_as, c.requires.2)

pub returns-in-21 : goal.returns-in-21
unfolding typing_of if_eq
returns-in-21 c = (search typed_as, c.requires.2)

pub returns-in-23 : goal.returns-in-23
unfolding typing_of if_eq
returns-in-23 c = (search typed_as, c.requires.2)

pub returns-in_default : goal.returns-in_default
unfolding typing_of if_eq
returns-in_default c = (search nothing_asked, c.requires.2)
