use native.Mathlib.Omega.{arith}
use Rattle.translation_write.specs.Put.{stored16}
use Rattle.translation_write.proofs.records.put_record.Goals as goal

pub put_word-requires : goal.put_word-requires
put_word-requires c = omega arith

pub put_word-requires-2 : goal.put_word-requires-2
put_word-requires-2 c = omega arith

pub put_word-requires-3 : goal.put_word-requires-3
put_word-requires-3 c = omega arith

pub put_word-requires-4 : goal.put_word-requires-4
put_word-requires-4 c = omega arith

pub shape_of-buffer : goal.shape_of-buffer
shape_of-buffer c = omega arith

pub returns : goal.returns
returns c = search stored16
