use Rattle.reader.specs.TestLaws.{ifs}
use Rattle.proof_fits.specs.Fits.{closed_from}
use Rattle.proof_fits.proofs.closed_from.Goals as goal

pub returns-then-k-lt45 : goal.returns-then-k-lt45
unfolding closed_from
returns-then-k-lt45 c = search ifs

pub returns : goal.returns
unfolding closed_from
returns c = search ifs
