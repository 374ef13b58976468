use native.Mathlib.Omega.{arith}
use mathlib.Core.Path.{◌≡◌}
use mathlib.Core.List.{[]}
use lib.ListN.{drop, drop_of_length-le}
use Rattle.programs_lines.specs.LineLaws.{kept_on, translation_line_of}
use Rattle.programs_lines.proofs.lines.put_translation.Goals as goal

pub returns : goal.returns
returns c =
    let out = c.args.out.now in
    let none : drop 105 out ≡ [] = drop_of_length-le out {i = 105} (omega arith) in
    let bytes = c.put_number-fifth.ensures in
    let nodes = c.put_number-fourth.ensures in
    let at = c.put_number-third.ensures in
    let file = c.put_number-second.ensures in
    let refusal = c.put_number.ensures in
    let two = kept_on _ _ _ _ _ nodes.0 nodes.3 bytes.3 in
    let three = kept_on _ _ _ _ _ at.0 at.3 two in
    let four = kept_on _ _ _ _ _ file.0 file.3 three in
    record {
      whole = omega arith;
      inside = omega arith;
      stands = translation_line_of _ _ _ _ _ _ _ _ none bytes.2 nodes.2 at.2 file.2 refusal.2;
      kept = kept_on _ _ _ _ _ refusal.0 refusal.3 four;
    }
