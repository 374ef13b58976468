use Rattle.reader.specs.KindLaws.{class_in}
use Rattle.reader.proofs.kinds.class_of.Goals as goal

pub returns : goal.returns
returns c = search class_in
