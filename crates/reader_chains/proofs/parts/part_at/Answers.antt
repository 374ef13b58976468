use Rattle.reader.specs.TestLaws.{ifs_of}
use Rattle.reader_chains.specs.Parts.{part_at}
use Rattle.reader_chains.proofs.parts.part_at.Goals as goal

pub returns-then-role_of : goal.returns-then-role_of
unfolding part_at
returns-then-role_of c = search ifs_of

pub returns : goal.returns
unfolding part_at
returns c = search ifs_of
