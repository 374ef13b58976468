use Rattle.reader_headers.specs.Headers.{header_kind, header_empty, header_count}
use Rattle.reader_headers.proofs.headers.header_fits.Goals as goal

pub returns-then-word_of-ne1 : goal.returns-then-word_of-ne1
returns-then-word_of-ne1 c = search header_kind

pub returns-then-count-eq0 : goal.returns-then-count-eq0
returns-then-count-eq0 c = search header_empty

pub returns : goal.returns
returns c = search header_count
