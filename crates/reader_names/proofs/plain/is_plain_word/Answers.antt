use Rattle.reader_names.specs.Plain.{words}
use Rattle.reader_names.proofs.plain.is_plain_word.Goals as goal

pub returns-then-w-ge128 : goal.returns-then-w-ge128
returns-then-w-ge128 c = search words

pub returns-then-w-ge128-2 : goal.returns-then-w-ge128-2
returns-then-w-ge128-2 c = search words

pub returns-then-w-ge128-3 : goal.returns-then-w-ge128-3
returns-then-w-ge128-3 c = search words

pub returns-then-w-ge128-4 : goal.returns-then-w-ge128-4
returns-then-w-ge128-4 c = search words

pub returns : goal.returns
returns c = search words
