use Rattle.proof_rows.specs.Paths.{path_is}
use Rattle.proof_rows.proofs.paths.path_record.Goals as goal

pub returns : goal.returns
returns c = search path_is
