use mathlib.Core.Path.{refl}
use Rattle.reader.specs.TestLaws.{rest_past}
use Rattle.reader.specs.Records.{may_be_zero, wanted_class}
use Rattle.reader_references.specs.References.{zero_in, class_in, packed_as, packed_none}
use Rattle.reader_references.proofs.references.reference_of.Goals as goal

pub returns-in-6 : goal.returns-in-6
unfolding zero_in class_in may_be_zero wanted_class
returns-in-6 c = packed_as _ _ _ refl refl c.in-6.is

pub returns-in-7 : goal.returns-in-7
unfolding zero_in class_in may_be_zero wanted_class
returns-in-7 c = packed_as _ _ _ refl refl c.in-7.is

pub returns-in-8 : goal.returns-in-8
unfolding zero_in class_in may_be_zero wanted_class
returns-in-8 c = packed_as _ _ _ refl refl c.in-8.is

pub returns-in-9 : goal.returns-in-9
unfolding zero_in class_in may_be_zero wanted_class
returns-in-9 c = packed_as _ _ _ refl refl c.in-9.is

pub returns-in-10 : goal.returns-in-10
unfolding zero_in class_in may_be_zero wanted_class
returns-in-10 c = packed_as _ _ _ refl refl c.in-10.is

pub returns-in-11 : goal.returns-in-11
unfolding zero_in class_in may_be_zero wanted_class
returns-in-11 c = packed_as _ _ _ refl refl c.in-11.is

pub returns-in-12 : goal.returns-in-12
unfolding zero_in class_in may_be_zero wanted_class
returns-in-12 c = packed_as _ _ _ refl refl c.in-12.is

pub returns-in-13 : goal.returns-in-13
unfolding zero_in class_in may_be_zero wanted_class
returns-in-13 c = packed_as _ _ _ refl refl c.in-13.is

pub returns-in-14 : goal.returns-in-14
unfolding zero_in class_in may_be_zero wanted_class
returns-in-14 c = packed_as _ _ _ refl refl c.in-14.is

pub returns-in-15 : goal.returns-in-15
unfolding zero_in class_in may_be_zero wanted_class
returns-in-15 c = packed_as _ _ _ refl refl c.in-15.is

pub returns-in-16 : goal.returns-in-16
unfolding zero_in class_in may_be_zero wanted_class
returns-in-16 c = packed_as _ _ _ refl refl c.in-16.is

pub returns-in-17 : goal.returns-in-17
unfolding zero_in class_in may_be_zero wanted_class
returns-in-17 c = packed_as _ _ _ refl refl c.in-17.is

pub returns-in_default : goal.returns-in_default
unfolding zero_in class_in may_be_zero wanted_class
returns-in_default c = packed_none c.args.role (λ h. rest_past 6 c.args.role 12 h c.in_default.in_default-own.rest)
