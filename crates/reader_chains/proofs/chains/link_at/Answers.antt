use Rattle.std.proofs.Common.{◌≡◌, ◌+◌, ◌-◌, arith}
use Rattle.reader_chains.specs.Chains.{links_turn, links_out, links_end}
use Rattle.reader_chains.proofs.chains.link_at.Goals as goal

pub returns-then-l-eq0 : goal.returns-then-l-eq0
returns-then-l-eq0 c = search links_out

pub loop-preserved : goal.loop-preserved
loop-preserved c =
    let one : c.args.n - (c.loop.counter + 1) ≡ c.args.n - c.loop.counter - 1 = omega arith in
    rw one (links_turn _ _ _ _ _ _ (omega arith) c.if-l-eq0.false c.lower_at-l.ensures c.loop.invariant)

pub returns : goal.returns
returns c = links_end _ _ _ _ _ (omega arith) c.loop.invariant
