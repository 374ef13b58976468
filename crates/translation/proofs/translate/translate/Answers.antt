use Prim.Native.Nat.{◌≤◌}
use native.Mathlib.Omega.{arith}
use mathlib.Core.Path.{refl}
use Rattle.reader.specs.Answers.{accepted}
use Rattle.translation.specs.Outcomes.{err_translates, count_few, short_translates, ready, done_translates}
use Rattle.translation.proofs.translate.translate.Goals as goal

pub returns-in_err-nodes : goal.returns-in_err-nodes
returns-in_err-nodes c = err_translates _ _ _ _ _ c.in_err-nodes.ensures c.from_residual.ensures.1

pub overflow_add-n : goal.overflow_add-n
overflow_add-n c = let accepts = c.in_ok-nodes.ensures in let few : c.word_of-n.result ≤ 3072 = search count_few in omega (arith, few)

pub overflow_mul-n : goal.overflow_mul-n
overflow_mul-n c = let accepts = c.in_ok-nodes.ensures in let few : c.word_of-n.result ≤ 3072 = search count_few in omega (arith, few)

pub overflow_add-n-2 : goal.overflow_add-n-2
overflow_add-n-2 c = let accepts = c.in_ok-nodes.ensures in let few : c.word_of-n.result ≤ 3072 = search count_few in omega (arith, few)

pub overflow_mul-n-2 : goal.overflow_mul-n-2
overflow_mul-n-2 c = let accepts = c.in_ok-nodes.ensures in let few : c.word_of-n.result ≤ 3072 = search count_few in omega (arith, few)

pub returns-then-buffer-n : goal.returns-then-buffer-n
returns-then-buffer-n c = short_translates _ _ _ (accepted c.in_ok-nodes.nodes) c.in_ok-nodes.ensures refl _ c.word_of-n.ensures (omega arith)

pub put_derivation-length-requires : goal.put_derivation-length-requires
put_derivation-length-requires c = let accepts = c.in_ok-nodes.ensures in search ready

pub returns : goal.returns
returns c = let accepts = c.in_ok-nodes.ensures in search done_translates
