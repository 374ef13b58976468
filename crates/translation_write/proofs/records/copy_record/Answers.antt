use native.Mathlib.Omega.{arith}
use Rattle.translation_write.specs.Put.{copied}
use Rattle.translation_write.proofs.records.copy_record.Goals as goal

pub returns : goal.returns
returns c = rw c.copy_from_slice.ensures.after (copied _ _ _ _ (omega arith) c.requires.0)
