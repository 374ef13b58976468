use Rattle.reader.specs.TestLaws.{ifs}
use Rattle.reader.specs.Records.{has_class}
use Rattle.reader_references.specs.References.{class_read}
use Rattle.reader_references.proofs.references.has_class.Goals as goal

pub returns-then-c : goal.returns-then-c
unfolding has_class
returns-then-c c = search ifs

pub returns : goal.returns
unfolding has_class
returns c = search class_read
