use Rattle.derivation_known.specs.Held.{rows_same, rows_then}
use Rattle.derivation_members.specs.Members.{frame_next}
use Rattle.derivation_gathered.proofs.gathered.gather_added.Goals as goal

pub loop-f-init : goal.loop-f-init
loop-f-init c = rows_same _

pub entry_at-e-requires : goal.entry_at-e-requires
entry_at-e-requires c = search frame_next

pub loop-f-preserved : goal.loop-f-preserved
loop-f-preserved c = rows_then _ _ _ c.loop-f.invariant c.gather_entry.ensures
