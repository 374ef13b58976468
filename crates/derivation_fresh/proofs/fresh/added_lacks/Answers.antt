use borrow.Author.Rules.{rules}
use Rattle.derivation_members.specs.Members.{frame_next, frames_end, frames_stop, frames_more, entry_normal}
use Rattle.derivation_fresh.specs.Tops.{entry_topped}
use Rattle.derivation_fresh.proofs.fresh.added_lacks.Goals as goal

pub entry_at-e-requires : goal.entry_at-e-requires
entry_at-e-requires c = search frame_next

pub entry_lacks-requires : goal.entry_lacks-requires
entry_lacks-requires c = (search rules, λ given. search entry_normal, search entry_topped, search rules)

pub returns-then-not-entry_lacks : goal.returns-then-not-entry_lacks
returns-then-not-entry_lacks c = (search frames_stop, search rules)

pub loop-f-preserved : goal.loop-f-preserved
loop-f-preserved c = (search frames_more, search rules)

pub returns : goal.returns
returns c = (search frames_end, search rules)
