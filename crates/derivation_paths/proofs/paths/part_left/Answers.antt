use Rattle.derivation_paths.specs.Paths.{alone_none, alone_first, alone_second, alone_third}
use Rattle.derivation_paths.proofs.paths.part_left.Goals as goal

pub returns-then-three : goal.returns-then-three
returns-then-three c = search alone_first

pub returns-then-not-is_same : goal.returns-then-not-is_same
returns-then-not-is_same c = search alone_none

pub returns-then-two-2 : goal.returns-then-two-2
returns-then-two-2 c = search alone_third

pub returns-then-three-2 : goal.returns-then-three-2
returns-then-three-2 c = search alone_second

pub returns-else-three-2 : goal.returns-else-three-2
returns-else-three-2 c = search alone_none
