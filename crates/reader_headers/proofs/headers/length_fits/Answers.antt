use Rattle.reader_headers.specs.Headers.{length_short, length_odd, length_whole}
use Rattle.reader_headers.proofs.headers.length_fits.Goals as goal

pub returns-then-s-lt16 : goal.returns-then-s-lt16
returns-then-s-lt16 c = search length_short

pub returns-then-s-ne0 : goal.returns-then-s-ne0
returns-then-s-ne0 c = search length_odd

pub returns : goal.returns
returns c = search length_whole
