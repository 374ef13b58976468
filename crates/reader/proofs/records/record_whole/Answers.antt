use Rattle.reader.specs.Fetched.{whole_is}
use Rattle.reader.proofs.records.record_whole.Goals as goal

pub returns : goal.returns
returns c = search whole_is
