use Rattle.reader_headers.specs.Headers.{counts_header, counts_count}
use Rattle.reader_headers.proofs.headers.counts_fit.Goals as goal

pub returns-then-not-header_fits : goal.returns-then-not-header_fits
returns-then-not-header_fits c = search counts_header

pub returns : goal.returns
returns c = search counts_count
