use Rattle.reader.specs.TestLaws.{ifs}
use Rattle.proof_references.proofs.lower_in.Goals as goal

pub returns-then-a-i : goal.returns-then-a-i
returns-then-a-i c = search ifs

pub returns-else-a-i : goal.returns-else-a-i
returns-else-a-i c = search ifs
