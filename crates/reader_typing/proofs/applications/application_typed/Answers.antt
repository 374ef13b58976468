use Prim.Native.Nat.{◌-◌}
use Rattle.reader_equality.specs.Tables.{zeros_take, zeros_drop, zeros_join}
use Rattle.reader_typing.specs.Applications.{application_stop, application_go}
use Rattle.std.proofs.Common.{ap, not}
use Rattle.reader_typing.proofs.applications.application_typed.Goals as goal

pub returns-then-not-has_links : goal.returns-then-not-has_links
returns-then-not-has_links c = (search application_stop, c.requires.1)

pub signature_holds-requires : goal.signature_holds-requires
signature_holds-requires c = (
  c.requires.0,
  zeros_take (c.within-room.result - 0)
      c.args.seen.now
      c.requires.1,
)

pub returns : goal.returns
returns c = (
  application_go _ _ _ _ _ c.lower_at-f.ensures
      c.lower_at-c.ensures
      c.word_at-p.ensures _
      c.has_links.ensures (ap not c.if-not-has_links.false) _
      _ _ _ _ c.lower_at-t.ensures c.lower_at-a.ensures
      c.lower_at-s.ensures c.lower_at-type_arguments.ensures c.signature_holds.ensures.0,
  zeros_join _ _ c.signature_holds.ensures.1 (zeros_drop (c.within-room.result - 0)
      c.args.seen.now
      c.requires.1),
)
