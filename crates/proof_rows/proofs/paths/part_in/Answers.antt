use Rattle.reader.specs.TestLaws.{ifs}
use Rattle.proof_rows.proofs.paths.part_in.Goals as goal

pub returns-then-role : goal.returns-then-role
returns-then-role c = search ifs

pub returns-else-role : goal.returns-else-role
returns-else-role c = search ifs
