use Prim.Native.Nat.{◌-◌}
use Rattle.reader_equality.specs.Tables.{zeros_take, zeros_drop, zeros_join}
use Rattle.reader_typing.specs.Applications.{function_is}
use Rattle.reader_typing.proofs.applications.function_typed.Goals as goal

pub signature_below-requires : goal.signature_below-requires
signature_below-requires c = zeros_take (c.within-room.result - 0) c.args.seen.now c.requires

pub returns : goal.returns
returns c = (
  search function_is,
  zeros_join _ _ c.signature_below.ensures.1 (zeros_drop (c.within-room.result - 0)
      c.args.seen.now
      c.requires),
)
