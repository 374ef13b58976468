use native.Mathlib.Omega.{arith}
use Prim.Native.Nat.{◌+◌, ◌-◌}
use Rattle.std.proofs.Common.{ap, not}
use Rattle.reader_bodies.specs.Places.{refused_is, root_stop, root_go}
use Rattle.reader_bodies.specs.Tables.{part_long, cleared_part, cleared_back}
use Rattle.reader_bodies.proofs.bodies.root_and_naming.Goals as goal

pub returns-then-not-is_rule : goal.returns-then-not-is_rule
returns-then-not-is_rule c =
    let p = c.requires in
    (root_stop _ _ _ _ _ _ _ c.word_of-root.ensures c.word_at.ensures _ c.is_rule.ensures _ (ap not c.if-not-is_rule.true) (refused_is _ _ _ c.refused.ensures), p.3, p.4)

pub first_unnamed-requires : goal.first_unnamed-requires
first_unnamed-requires c =
    let p = c.requires in (
      p.0,
      part_long (c.args.last + 1 - 0) _
          c.args.named.now (omega arith) p.1,
      part_long
          (c.args.last + 1 - 0) _
          c.args.passed.now (omega arith) p.2,
      cleared_part
          (c.args.last + 1 - 0)
          c.args.named.now p.3,
      cleared_part
          (c.args.last + 1 - 0)
          c.args.passed.now p.4,
    )

pub returns : goal.returns
returns c =
    let p = c.requires in let f =
    c.first_unnamed.ensures in (
      search root_go,
      cleared_back (c.args.last + 1 - 0)
          c.args.named.now _ p.3 f.1,
      cleared_back
          (c.args.last + 1 - 0)
          c.args.passed.now _ p.4 f.2,
    )
