use Rattle.reader_names.specs.Symbols.{bytes_first, bytes_second}
use Rattle.reader_names.proofs.has_bytes.Goals as goal

pub returns-then-word_at-ne0 : goal.returns-then-word_at-ne0
returns-then-word_at-ne0 c = search bytes_first

pub returns : goal.returns
returns c = search bytes_second
