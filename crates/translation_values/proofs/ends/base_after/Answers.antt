use Rattle.reader.specs.TestLaws.{ifs}
use Rattle.translation_values.proofs.ends.base_after.Goals as goal

pub returns-then-m-i : goal.returns-then-m-i
returns-then-m-i c = search ifs

pub returns-else-m-i : goal.returns-else-m-i
returns-else-m-i c = search ifs
