use Rattle.reader_characters.specs.Laws.{end_record, end_bytes}
use Rattle.reader_characters.proofs.bytes.is_end.Goals as goal

pub returns-then-s-ne0 : goal.returns-then-s-ne0
returns-then-s-ne0 c = search end_record

pub returns : goal.returns
returns c = search end_bytes
