use Rattle.reader_references.specs.Items.{fit_stop, fit_go}
use Rattle.reader_references.proofs.references.references_fit.Goals as goal

pub returns-then-not-points_fit : goal.returns-then-not-points_fit
returns-then-not-points_fit c = search fit_stop

pub returns : goal.returns
returns c = search fit_go
