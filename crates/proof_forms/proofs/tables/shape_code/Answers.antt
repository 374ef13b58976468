use Prim.Native.Nat.{◌-◌}
use mathlib.Core.Path.{sym, ap}
use Rattle.reader.specs.Tests.{if_lt}
use Rattle.proof_forms.specs.Tables.{shape_codes, rule_entry, shape_code, entry_rest}
use Rattle.proof_forms.proofs.tables.shape_code.Goals as goal

pub returns-in-32 : goal.returns-in-32
unfolding shape_code rule_entry if_lt
returns-in-32 c = ap shape_code (sym c.in-32.is)

pub returns-in-33 : goal.returns-in-33
unfolding shape_code rule_entry if_lt
returns-in-33 c = ap shape_code (sym c.in-33.is)

pub returns-in-34 : goal.returns-in-34
unfolding shape_code rule_entry if_lt
returns-in-34 c = ap shape_code (sym c.in-34.is)

pub returns-in-35 : goal.returns-in-35
unfolding shape_code rule_entry if_lt
returns-in-35 c = ap shape_code (sym c.in-35.is)

pub returns-in-36 : goal.returns-in-36
unfolding shape_code rule_entry if_lt
returns-in-36 c = ap shape_code (sym c.in-36.is)

pub returns-in-37 : goal.returns-in-37
unfolding shape_code rule_entry if_lt
returns-in-37 c = ap shape_code (sym c.in-37.is)

pub returns-in-38 : goal.returns-in-38
unfolding shape_code rule_entry if_lt
returns-in-38 c = ap shape_code (sym c.in-38.is)

pub returns-in-39 : goal.returns-in-39
unfolding shape_code rule_entry if_lt
returns-in-39 c = ap shape_code (sym c.in-39.is)

pub returns-in-40 : goal.returns-in-40
unfolding shape_code rule_entry if_lt
returns-in-40 c = ap shape_code (sym c.in-40.is)

pub returns-in-41 : goal.returns-in-41
unfolding shape_code rule_entry if_lt
returns-in-41 c = ap shape_code (sym c.in-41.is)

pub returns-in-42 : goal.returns-in-42
unfolding shape_code rule_entry if_lt
returns-in-42 c = ap shape_code (sym c.in-42.is)

pub returns-in-43 : goal.returns-in-43
unfolding shape_code rule_entry if_lt
returns-in-43 c = ap shape_code (sym c.in-43.is)

pub returns-in-44 : goal.returns-in-44
unfolding shape_code rule_entry if_lt
returns-in-44 c = ap shape_code (sym c.in-44.is)

pub returns-in-45 : goal.returns-in-45
unfolding shape_code rule_entry if_lt
returns-in-45 c = ap shape_code (sym c.in-45.is)

pub returns-in-46 : goal.returns-in-46
unfolding shape_code rule_entry if_lt
returns-in-46 c = ap shape_code (sym c.in-46.is)

pub returns-in_default : goal.returns-in_default
unfolding shape_code rule_entry if_lt
returns-in_default c = entry_rest shape_codes c.args.k (c.args.k - 32) c.in_default.in_default-own.rest
