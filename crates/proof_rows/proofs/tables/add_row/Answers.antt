use mathlib.Core.Path.{sym, ap}
use Rattle.reader.specs.Tests.{if_eq, if_lt}
use Rattle.proof_forms.specs.Tables.{rule_entry}
use Rattle.proof_rows.specs.Tables.{half, adds_in, add_forms, add_form, adds_rest}
use Rattle.proof_rows.proofs.tables.add_row.Goals as goal

pub returns-in-32 : goal.returns-in-32
unfolding half adds_in add_forms add_form rule_entry if_eq if_lt
returns-in-32 c = ap add_forms (sym c.in-32.is)

pub returns-in-33 : goal.returns-in-33
unfolding half adds_in add_forms add_form rule_entry if_eq if_lt
returns-in-33 c = ap add_forms (sym c.in-33.is)

pub returns-in-34 : goal.returns-in-34
unfolding half adds_in add_forms add_form rule_entry if_eq if_lt
returns-in-34 c = ap add_forms (sym c.in-34.is)

pub returns-in-35 : goal.returns-in-35
unfolding half adds_in add_forms add_form rule_entry if_eq if_lt
returns-in-35 c = ap add_forms (sym c.in-35.is)

pub returns-in-36 : goal.returns-in-36
unfolding half adds_in add_forms add_form rule_entry if_eq if_lt
returns-in-36 c = ap add_forms (sym c.in-36.is)

pub returns-in-37 : goal.returns-in-37
unfolding half adds_in add_forms add_form rule_entry if_eq if_lt
returns-in-37 c = ap add_forms (sym c.in-37.is)

pub returns-in-38 : goal.returns-in-38
unfolding half adds_in add_forms add_form rule_entry if_eq if_lt
returns-in-38 c = ap add_forms (sym c.in-38.is)

pub returns-in-39 : goal.returns-in-39
unfolding half adds_in add_forms add_form rule_entry if_eq if_lt
returns-in-39 c = ap add_forms (sym c.in-39.is)

pub returns-in-40 : goal.returns-in-40
unfolding half adds_in add_forms add_form rule_entry if_eq if_lt
returns-in-40 c = ap add_forms (sym c.in-40.is)

pub returns-in-41 : goal.returns-in-41
unfolding half adds_in add_forms add_form rule_entry if_eq if_lt
returns-in-41 c = ap add_forms (sym c.in-41.is)

pub returns-in-42 : goal.returns-in-42
unfolding half adds_in add_forms add_form rule_entry if_eq if_lt
returns-in-42 c = ap add_forms (sym c.in-42.is)

pub returns-in-43 : goal.returns-in-43
unfolding half adds_in add_forms add_form rule_entry if_eq if_lt
returns-in-43 c = ap add_forms (sym c.in-43.is)

pub returns-in-44 : goal.returns-in-44
unfolding half adds_in add_forms add_form rule_entry if_eq if_lt
returns-in-44 c = ap add_forms (sym c.in-44.is)

pub returns-in-45 : goal.returns-in-45
unfolding half adds_in add_forms add_form rule_entry if_eq if_lt
returns-in-45 c = ap add_forms (sym c.in-45.is)

pub returns-in-46 : goal.returns-in-46
unfolding half adds_in add_forms add_form rule_entry if_eq if_lt
returns-in-46 c = ap add_forms (sym c.in-46.is)

pub returns-in_default : goal.returns-in_default
unfolding half adds_in add_forms add_form rule_entry if_eq if_lt
returns-in_default c = adds_rest _ c.in_default.in_default-own.rest
