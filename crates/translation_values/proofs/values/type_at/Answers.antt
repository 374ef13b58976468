use Rattle.reader.specs.Tests.{if_eq}
use Rattle.translation_rules.specs.Output.{type_record_by}
use Rattle.translation_values.specs.Values.{type_as, type_of_application}
use Rattle.translation_values.proofs.values.type_at.Goals as goal

pub returns-in-7 : goal.returns-in-7
unfolding type_record_by if_eq
returns-in-7 c = search (type_as 7)

pub returns-in-9 : goal.returns-in-9
unfolding type_record_by if_eq
returns-in-9 c = search (type_as 9)

pub returns-in-10 : goal.returns-in-10
unfolding type_record_by if_eq
returns-in-10 c = search (type_as 10)

pub returns-in-11 : goal.returns-in-11
unfolding type_record_by if_eq
returns-in-11 c = search (type_as 11)

pub returns-in-12 : goal.returns-in-12
unfolding type_record_by if_eq
returns-in-12 c = search (type_as 12)

pub returns-in-23 : goal.returns-in-23
unfolding type_record_by if_eq
returns-in-23 c = search (type_as 23)

pub returns-in_default : goal.returns-in_default
unfolding type_record_by if_eq
returns-in_default c = search type_of_application
