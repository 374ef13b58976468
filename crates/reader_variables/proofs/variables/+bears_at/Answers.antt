use native.Mathlib.Omega.{arith}
use Rattle.reader.specs.TestLaws.{both_stop, both_go}
use Rattle.reader_variables.specs.Variables.{bears_none, bears_index, bears_more, bears_part, bears_deeper}
use Rattle.reader_chains.specs.Parts.{part_falls_once}
use Rattle.std.proofs.Common.{ap, not}
use Rattle.reader_variables.proofs.variables.+bears_at.Goals as goal

pub returns-then-i-eq0 : goal.returns-then-i-eq0
returns-then-i-eq0 t c = search bears_none

pub returns-then-is_index : goal.returns-then-is_index
returns-then-is_index t c = search bears_index

pub bears_at-requires : goal.bears_at-requires
bears_at-requires t c =
    let f = part_falls_once _ _ _ _ _ _ _ t c.decreases c.if-i-eq0.false c.requires.0
    c.part_at-x.ensures (omega arith) in (f.0, (f.1, c.requires.1))

pub returns-then-not-bears_at : goal.returns-then-not-bears_at
returns-then-not-bears_at t c =
    bears_more _ _ _ _ _ _ c.if-i-eq0.false c.word_at-k.ensures _
    c.is_index.ensures c.if-is_index.false _
    (both_stop _ _ _ (bears_part _ _ _ _ _ _ _ _ _ c.part_at-x.ensures c.bears_at.ensures) (ap not c.if-not-bears_at.true))

pub bears_at-requires-2 : goal.bears_at-requires-2
bears_at-requires-2 t c =
    let f = part_falls_once _ _ _ _ _ _ _ t c.decreases
    c.if-i-eq0.false c.requires.0 c.part_at-y.ensures c.deeper.ensures.1 in (f.0, (f.1, c.requires.1))

pub returns-then-not-bears_at-2 : goal.returns-then-not-bears_at-2
returns-then-not-bears_at-2 t c =
    bears_more _ _ _ _ _ _ c.if-i-eq0.false
    c.word_at-k.ensures _ c.is_index.ensures
    c.if-is_index.false _ (both_go _ _ _ _ (bears_part _ _ _ _ _ _ _ _ _ c.part_at-x.ensures
    c.bears_at.ensures) (ap not c.if-not-bears_at.false)
    (both_stop _ _ _ (bears_deeper _ _ _ _ _ _ _ _ _ c.part_at-y.ensures c.deeper.ensures c.bears_at-2.ensures) (ap not c.if-not-bears_at-2.true)))

pub bears_at-requires-3 : goal.bears_at-requires-3
bears_at-requires-3 t c =
    let f = part_falls_once _ _ _ _ _ _ _ t c.decreases
    c.if-i-eq0.false c.requires.0 c.part_at-z.ensures (omega arith) in (f.0, (f.1, c.requires.1))

pub returns : goal.returns
returns t c =
    bears_more _ _ _ _ _ _ c.if-i-eq0.false
    c.word_at-k.ensures _
    c.is_index.ensures c.if-is_index.false _
    (both_go _ _ _ _ (bears_part _ _ _ _ _ _ _ _ _ c.part_at-x.ensures
    c.bears_at.ensures) (ap not c.if-not-bears_at.false)
    (both_go _ _ _ _ (bears_deeper _ _ _ _ _ _ _ _ _ c.part_at-y.ensures c.deeper.ensures
    c.bears_at-2.ensures) (ap not c.if-not-bears_at-2.false) (bears_part _ _ _ _ _ _ _ _ _ c.part_at-z.ensures c.bears_at-3.ensures)))
