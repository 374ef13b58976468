use Rattle.reader.specs.TestLaws.{ifs}
use Rattle.reader_names.proofs.plain.after.Goals as goal

pub returns-then-x-r : goal.returns-then-x-r
returns-then-x-r c = search ifs

pub returns-else-x-r : goal.returns-else-x-r
returns-else-x-r c = search ifs
