use Rattle.derivation_members.specs.Members.{frame_next}
use Rattle.derivation_gathered.proofs.gathered.include_added.Goals as goal

pub entry_at-e-requires : goal.entry_at-e-requires
entry_at-e-requires c = search frame_next
