use native.Mathlib.Omega.{arith}
use Rattle.programs_lines.specs.LineLaws.{kept_on}
use Rattle.programs_lines.proofs.lines.put_number.Goals as goal

pub returns : goal.returns
returns c =
    let byte = c.put_byte-end.ensures in
    let number = c.put_decimal.ensures in
    (omega arith, omega arith, cc, kept_on _ _ _ _ _ number.0 number.3 byte.2)
