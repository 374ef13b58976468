use Rattle.std.proofs.Common.{◌≡◌, ◌<◌, [], length, rules, arith}
use Rattle.reader.specs.Chains.{linked}
use Rattle.reader.specs.Files.{words}
use Rattle.reader.specs.ChainLaws.{linked_length}
use Rattle.reader.specs.TreeLaws.{linked_zero, linked_step_lem}
use Rattle.reader.proofs.chains.LinksIterator.next.Goals as goal

pub returns-then-link-eq0-clause-steps : goal.returns-then-link-eq0-clause-steps
returns-then-link-eq0-clause-steps c =
    let none : linked (words c.args.self.now.files.now) c.args.self.now.next ≡ [] = rw c.if-link-eq0.true (linked_zero _) in (none, none)

pub returns-clause-steps : goal.returns-clause-steps
returns-clause-steps c = rw c.lower_at-self.ensures (linked_step_lem _ _ (omega arith))

pub returns-clause-goes : goal.returns-clause-goes
returns-clause-goes c =
    let s = c.args.self.now in
    let fewer : length (linked (words s.files.now) c.lower_at-self.result) < length (linked (words s.files.now) s.next) =
    rw (c.lower_at-self.ensures, linked_length (words s.files.now) s.next c.if-link-eq0.false) (omega arith) in
    search rules
