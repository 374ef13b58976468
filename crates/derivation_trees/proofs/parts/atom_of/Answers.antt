use Rattle.derivation_trees.specs.Parts.{atom_not, atom_sign, atom_record}
use Rattle.derivation_trees.proofs.parts.atom_of.Goals as goal

pub returns-then-key-ge262144 : goal.returns-then-key-ge262144
returns-then-key-ge262144 c = search atom_not

pub returns-then-key-lt2 : goal.returns-then-key-lt2
returns-then-key-lt2 c = search atom_sign

pub returns : goal.returns
returns c = search atom_record
