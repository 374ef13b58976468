use Rattle.reader.specs.TestLaws.{boths}
use Rattle.reader_headers.specs.Roots.{is_open_below}
use Rattle.reader_headers.proofs.roots.is_open_below.Goals as goal

pub returns-then-not-indices_below : goal.returns-then-not-indices_below
unfolding is_open_below
returns-then-not-indices_below c = search boths

pub returns : goal.returns
unfolding is_open_below
returns c = search boths
