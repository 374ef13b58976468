use native.Mathlib.Omega.{arith}
use lib.ListN.{length-set}
use Rattle.translation_write.specs.Put.{stored4}
use Rattle.translation_write.proofs.records.put_word.Goals as goal

pub bounds-buffer-at-2 : goal.bounds-buffer-at-2
bounds-buffer-at-2 c = simp length-set (omega arith)

pub bounds-buffer-at-3 : goal.bounds-buffer-at-3
bounds-buffer-at-3 c = simp length-set (omega arith)

pub bounds-buffer-at-4 : goal.bounds-buffer-at-4
bounds-buffer-at-4 c = simp length-set (omega arith)

pub shape_of-buffer : goal.shape_of-buffer
shape_of-buffer c = simp length-set

pub returns : goal.returns
returns c = let a = c.args in stored4 a.buffer.now a.at a.v c.requires
