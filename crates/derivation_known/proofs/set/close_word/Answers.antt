use borrow.Author.Rules.{rules}
use native.Mathlib.Omega.{arith}
use Rattle.derivation_known.specs.Held.{closed_none, closed_later}
use Rattle.derivation_known.proofs.set.close_word.Goals as goal

pub returns-then-entry_at-eq0 : goal.returns-then-entry_at-eq0
returns-then-entry_at-eq0 c = (search rules, search closed_none)

pub loop-j-init : goal.loop-j-init
loop-j-init c = (search rules, search rules)

pub close_record-requires : goal.close_record-requires
close_record-requires c = let l = c.loop-j in (l.invariant.0, closed_later _ _ _ _ (omega arith) l.invariant.1)

pub returns : goal.returns
returns c = let l = c.loop-j in (l.invariant.0, closed_later _ _ _ _ (omega arith) l.invariant.1)
