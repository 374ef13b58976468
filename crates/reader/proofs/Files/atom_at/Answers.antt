use Rattle.reader.specs.SameLaws.{atom_symbol, atom_number, atom_none}
use Rattle.reader.proofs.Files.atom_at.Goals as goal

pub returns-then-is_symbol : goal.returns-then-is_symbol
returns-then-is_symbol c = search atom_symbol

pub returns-then-is_number : goal.returns-then-is_number
returns-then-is_number c = search atom_number

pub returns : goal.returns
returns c = search atom_none
