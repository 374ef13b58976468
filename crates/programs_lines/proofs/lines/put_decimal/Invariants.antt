use mathlib.Core.Path.{◌≡◌}
use lib.ListN.{length, take, drop}
use Rattle.programs_lines.specs.LineLaws.{Writing}
use Rattle.programs_lines.proofs.lines.put_decimal.Given as goal

abbrev pub invariant-loop-rest : goal.invariant-loop-rest
invariant-loop-rest l =
    (length l.out ≡ length l.initial.out) × Writing l.n l.rest l.end l.begin l.out (drop l.end l.initial.out) × (take l.begin l.out ≡ take l.begin l.initial.out)

abbrev pub decreases-loop-rest : goal.decreases-loop-rest
decreases-loop-rest l = l.rest
