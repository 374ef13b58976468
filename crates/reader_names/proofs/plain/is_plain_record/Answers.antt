use Rattle.reader.specs.TestLaws.{boths}
use Rattle.reader_names.proofs.plain.is_plain_record.Goals as goal

pub returns-then-not-is_plain_word : goal.returns-then-not-is_plain_word
returns-then-not-is_plain_word c = search boths

pub returns : goal.returns
returns c = search boths
