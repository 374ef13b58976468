use mathlib.Core.Path.{sym, ap}
use Rattle.reader.specs.Tests.{if_lt}
use Rattle.reader_bytes.specs.Bytes.{byte_of}
use Rattle.reader_bytes.specs.ByteLaws.{byte_rest}
use Rattle.derivation_bytes.specs.Bytes.{derivation_bytes, derivation_byte}
use Rattle.derivation_bytes.proofs.derivation_byte.Goals as goal

pub returns-in-64 : goal.returns-in-64
unfolding derivation_byte byte_of if_lt
returns-in-64 c = ap derivation_byte (sym c.in-64.is)

pub returns-in-65 : goal.returns-in-65
unfolding derivation_byte byte_of if_lt
returns-in-65 c = ap derivation_byte (sym c.in-65.is)

pub returns-in-66 : goal.returns-in-66
unfolding derivation_byte byte_of if_lt
returns-in-66 c = ap derivation_byte (sym c.in-66.is)

pub returns-in-67 : goal.returns-in-67
unfolding derivation_byte byte_of if_lt
returns-in-67 c = ap derivation_byte (sym c.in-67.is)

pub returns-in-68 : goal.returns-in-68
unfolding derivation_byte byte_of if_lt
returns-in-68 c = ap derivation_byte (sym c.in-68.is)

pub returns-in-69 : goal.returns-in-69
unfolding derivation_byte byte_of if_lt
returns-in-69 c = ap derivation_byte (sym c.in-69.is)

pub returns-in-70 : goal.returns-in-70
unfolding derivation_byte byte_of if_lt
returns-in-70 c = ap derivation_byte (sym c.in-70.is)

pub returns-in-71 : goal.returns-in-71
unfolding derivation_byte byte_of if_lt
returns-in-71 c = ap derivation_byte (sym c.in-71.is)

pub returns-in-72 : goal.returns-in-72
unfolding derivation_byte byte_of if_lt
returns-in-72 c = ap derivation_byte (sym c.in-72.is)

pub returns-in-73 : goal.returns-in-73
unfolding derivation_byte byte_of if_lt
returns-in-73 c = ap derivation_byte (sym c.in-73.is)

pub returns-in-74 : goal.returns-in-74
unfolding derivation_byte byte_of if_lt
returns-in-74 c = ap derivation_byte (sym c.in-74.is)

pub returns-in-75 : goal.returns-in-75
unfolding derivation_byte byte_of if_lt
returns-in-75 c = ap derivation_byte (sym c.in-75.is)

pub returns-in-76 : goal.returns-in-76
unfolding derivation_byte byte_of if_lt
returns-in-76 c = ap derivation_byte (sym c.in-76.is)

pub returns-in-77 : goal.returns-in-77
unfolding derivation_byte byte_of if_lt
returns-in-77 c = ap derivation_byte (sym c.in-77.is)

pub returns-in-78 : goal.returns-in-78
unfolding derivation_byte byte_of if_lt
returns-in-78 c = ap derivation_byte (sym c.in-78.is)

pub returns-in-79 : goal.returns-in-79
unfolding derivation_byte byte_of if_lt
returns-in-79 c = ap derivation_byte (sym c.in-79.is)

pub returns-in-80 : goal.returns-in-80
unfolding derivation_byte byte_of if_lt
returns-in-80 c = ap derivation_byte (sym c.in-80.is)

pub returns-in_default : goal.returns-in_default
unfolding derivation_byte byte_of if_lt
returns-in_default c = byte_rest 64 derivation_bytes c.args.k c.in_default.in_default-own.rest
