use borrow.Author.Rules.{rules}
use mathlib.Core.Path.{refl}
use Rattle.derivation_members.specs.Members.{frame_next, entry_normal, frames_end, frames_stop, frames_more}
use Rattle.derivation_members.proofs.members.added_agrees.Goals as goal

pub loop-f-init : goal.loop-f-init
loop-f-init c = refl

pub entry_at-e-requires : goal.entry_at-e-requires
entry_at-e-requires c = search frame_next

pub entry_agrees-requires : goal.entry_agrees-requires
entry_agrees-requires c = (λ given. search entry_normal, search rules, search rules)

pub returns-then-not-entry_agrees : goal.returns-then-not-entry_agrees
returns-then-not-entry_agrees c = search frames_stop

pub loop-f-preserved : goal.loop-f-preserved
loop-f-preserved c = search frames_more

pub returns : goal.returns
returns c = search frames_end
