use Rattle.reader.specs.TestLaws.{ifs}
use Rattle.reader_characters.proofs.bytes.smaller.Goals as goal

pub returns-then-c-r : goal.returns-then-c-r
returns-then-c-r c = search ifs

pub returns-else-c-r : goal.returns-else-c-r
returns-else-c-r c = search ifs
