use native.Mathlib.Omega.{arith}
use Rattle.reader_names.specs.NameKeys.{passed_small, mixed_is}
use Rattle.reader_names.proofs.keys.mixed.Goals as goal

pub passed-h-requires : goal.passed-h-requires
passed-h-requires c = search passed_small

pub overflow_mul-result : goal.overflow_mul-result
overflow_mul-result c = omega (arith, passed_small _ _ _ c.passed-h.ensures)

pub overflow_add-result : goal.overflow_add-result
overflow_add-result c = omega (arith, passed_small _ _ _ c.passed-h.ensures)

pub shifted-requires : goal.shifted-requires
shifted-requires c = passed_small _ _ _ c.passed-h.ensures

pub shifted-requires-2 : goal.shifted-requires-2
shifted-requires-2 c = omega (arith, passed_small _ _ _ c.passed-h.ensures)

pub shifted-requires-3 : goal.shifted-requires-3
shifted-requires-3 c = omega (arith, passed_small _ _ _ c.passed-h.ensures)

pub shifted-requires-4 : goal.shifted-requires-4
shifted-requires-4 c = omega (arith, passed_small _ _ _ c.passed-h.ensures)

pub returns : goal.returns
returns c = search mixed_is
