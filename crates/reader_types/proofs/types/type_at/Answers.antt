use Rattle.reader.specs.Tests.{if_eq}
use Rattle.reader_types.specs.Types.{type_by, type_as, no_term}
use Rattle.reader_types.proofs.types.type_at.Goals as goal

pub returns-in-7 : goal.returns-in-7
unfolding type_by if_eq
returns-in-7 c = search type_as

pub returns-in-9 : goal.returns-in-9
unfolding type_by if_eq
returns-in-9 c = search type_as

pub returns-in-10 : goal.returns-in-10
unfolding type_by if_eq
returns-in-10 c = search type_as

pub returns-in-11 : goal.returns-in-11
unfolding type_by if_eq
returns-in-11 c = search type_as

pub returns-in-12 : goal.returns-in-12
unfolding type_by if_eq
returns-in-12 c = search type_as

pub returns-in-13 : goal.returns-in-13
unfolding type_by if_eq
returns-in-13 c = search type_as

pub returns-in-23 : goal.returns-in-23
unfolding type_by if_eq
returns-in-23 c = search type_as

pub returns-in_default : goal.returns-in_default
unfolding type_by if_eq
returns-in_default c = search no_term
