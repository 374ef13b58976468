use Rattle.reader_characters.specs.Laws.{count_more, byte_none, byte_more, byte_last}
use Rattle.reader_characters.proofs.bytes.next_byte.Goals as goal

pub returns-then-is_end : goal.returns-then-is_end
returns-then-is_end c = search byte_none

pub overflow_sub-result : goal.overflow_sub-result
overflow_sub-result c = search count_more

pub returns-then-s-ne1 : goal.returns-then-s-ne1
returns-then-s-ne1 c = search byte_more

pub returns : goal.returns
returns c = search byte_last
