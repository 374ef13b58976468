use lib.ListN.{get_or-eq_default}
use Rattle.reader.proofs.words.byte_at.Goals as goal

pub returns-else-k-s : goal.returns-else-k-s
returns-else-k-s c = let h = c.if-k-s.false in simp get_or-eq_default
