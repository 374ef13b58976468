use native.Mathlib.Omega.{arith}
use mathlib.Core.Path.{◌≡◌}
use mathlib.Core.List.{[]}
use lib.ListN.{drop, drop_of_length-le}
use Rattle.programs_lines.specs.LineLaws.{kept_on, numbers_line_of}
use Rattle.programs_lines.proofs.lines.put_numbers.Goals as goal

pub returns : goal.returns
returns c =
    let out = c.args.out.now in
    let none : drop 84 out ≡ [] = drop_of_length-le out {i = 84} (omega arith) in
    let fourth = c.put_number-fourth.ensures in
    let third = c.put_number-third.ensures in
    let second = c.put_number-second.ensures in
    let first = c.put_number.ensures in
    let two = kept_on _ _ _ _ _ third.0 third.3 fourth.3 in
    let three = kept_on _ _ _ _ _ second.0 second.3 two in
    record {
      whole = omega arith;
      inside = omega arith;
      stands = numbers_line_of _ _ _ _ _ _ _ _ _ none fourth.2 third.2 second.2 first.2;
      kept = kept_on _ _ _ _ _ first.0 first.3 three;
    }
