use mathlib.Core.Path.{refl}
use Rattle.reader_references.specs.References.{zero_in}
use Rattle.reader_references.proofs.references.zero_in.Goals as goal

pub returns : goal.returns
unfolding zero_in
returns c = refl
