use Rattle.std.proofs.Common.{◌≡◌, ◌+◌, ◌-◌, arith}
use Rattle.reader.specs.ChainLaws.{most_end, most_out, most_more}
use Rattle.reader.proofs.chains.at_most.Goals as goal

pub returns-then-at-eq0 : goal.returns-then-at-eq0
returns-then-at-eq0 c = search most_end

pub loop-preserved : goal.loop-preserved
loop-preserved c =
    let one : c.args.most - (c.loop.counter + 1) ≡ c.args.most - c.loop.counter - 1 = omega arith in
    rw one (most_more _ _ _ _ _ c.loop.invariant c.if-at-eq0.false (omega arith) _ c.lower_at-at.ensures)

pub returns : goal.returns
returns c = most_out _ _ _ _ _ c.loop.invariant (omega arith)
