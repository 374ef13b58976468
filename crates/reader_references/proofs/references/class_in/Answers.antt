use mathlib.Core.Path.{refl}
use Rattle.reader_references.specs.References.{class_in}
use Rattle.reader_references.proofs.references.class_in.Goals as goal

pub returns : goal.returns
unfolding class_in
returns c = refl
