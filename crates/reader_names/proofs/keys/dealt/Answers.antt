use mathlib.Core.Path.{refl}
use native.Mathlib.Omega.{arith}
use Rattle.reader_names.specs.NameKeys.{dealt, room_below}
use Rattle.reader_names.proofs.keys.dealt.Goals as goal

pub overflow_mul-result : goal.overflow_mul-result
unfolding dealt
overflow_mul-result c = omega (arith, room_below _ _ c.requires.0)

pub overflow_add-result : goal.overflow_add-result
unfolding dealt
overflow_add-result c = omega (arith, room_below _ _ c.requires.0, c.requires.1)

pub returns : goal.returns
unfolding dealt
returns c = refl
