use native.Mathlib.Omega.{arith}
use Rattle.derivation_members.specs.Members.{added_none, entry_same, entry_other, key_low}
use Rattle.derivation_members.proofs.members.entry_agrees.Goals as goal

pub overflow_add-result : goal.overflow_add-result
overflow_add-result c = let p = c.requires in omega (arith, key_low _ _ _ p.1 p.2)

pub returns-then-not-wanted : goal.returns-then-not-wanted
returns-then-not-wanted c = search entry_other

pub returns-then-e-eq0 : goal.returns-then-e-eq0
returns-then-e-eq0 c = search added_none

pub returns : goal.returns
returns c = search entry_same
