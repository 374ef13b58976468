use borrow.Author.Rules.{rules}
use native.Mathlib.Omega.{arith}
use Prim.Native.Nat.{◌+◌, ◌*◌}
use lib.ListN.{set, length-set}
use Rattle.derivation_frames.specs.Pushed.{four_written}
use Rattle.derivation_frames.proofs.frames.write.Goals as goal

pub bounds-frames-d-2 : goal.bounds-frames-d-2
bounds-frames-d-2 c = omega (arith, length-set c.args.frames.now (4 * c.args.d) c.args.start)

pub bounds-frames-d-3 : goal.bounds-frames-d-3
bounds-frames-d-3 c =
    omega (arith, length-set c.args.frames.now (4 * c.args.d) c.args.start, length-set (set c.args.frames.now (4 * c.args.d) c.args.start) (4 * c.args.d + 1) c.args.goal)

pub returns : goal.returns
returns c = four_written _ _ _ _ _ _ (search rules)
