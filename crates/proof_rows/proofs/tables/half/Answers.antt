use Rattle.reader.specs.TestLaws.{ifs}
use Rattle.proof_rows.specs.Tables.{half}
use Rattle.proof_rows.proofs.tables.half.Goals as goal

pub returns-then-w-eq0 : goal.returns-then-w-eq0
unfolding half
returns-then-w-eq0 c = search ifs

pub returns : goal.returns
unfolding half
returns c = search ifs
