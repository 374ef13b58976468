use borrow.Author.Rules.{rules}
use native.Mathlib.Omega.{arith}
use mathlib.Core.Path.{refl}
use Rattle.programs_lines.specs.LineLaws.{kept_byte, writing_start, writing_turn, writing_end}
use Rattle.programs_lines.proofs.lines.put_decimal.Goals as goal

pub loop-rest-init : goal.loop-rest-init
loop-rest-init c = (refl, writing_start _ _ _ (omega arith), refl)

pub put_byte-begin-requires : goal.put_byte-begin-requires
put_byte-begin-requires c = (omega arith, omega arith)

pub loop-rest-smaller : goal.loop-rest-smaller
loop-rest-smaller c = omega arith

pub loop-rest-preserved : goal.loop-rest-preserved
loop-rest-preserved c =
    let put = c.put_byte-begin.ensures in
    let l = c.loop-rest.invariant in
    (search rules, writing_turn _ _ _ _ _ _ _ _ l.1 (omega arith) put.0 put.1, kept_byte _ _ _ _ _ put.0 put.2 l.2)

pub put_byte-requires : goal.put_byte-requires
put_byte-requires c = (omega arith, omega arith)

pub returns : goal.returns
returns c =
    let put = c.put_byte.ensures in
    let l = c.loop-rest.invariant in
    let w = writing_end _ _ _ _ _ _ _ _ l.1 (omega arith) put.0 put.1 in
    (w.0, w.1, w.2, kept_byte _ _ _ _ _ put.0 put.2 l.2)
