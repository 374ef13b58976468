use Prim.Native.Nat.{ℕ}
use lib.ListN.{length-replicate}
use Rattle.derivation_listed.specs.Listed.{zeros_free}
use Rattle.derivation_listed.specs.Filled.{listed_space, filled_own, listed_every}
use Rattle.derivation_needs.proofs.needs.many_held.Goals as goal

pub place_all-requires : goal.place_all-requires
place_all-requires c = (
  zeros_free 8194,
  listed_space _ _ _ _ _ _ _ c.requires.0.framed c.fill-h.ensures.0
      c.fill-h.auto.listed (length-replicate {A = ℕ} 8194 0),
)

pub items_listed-requires : goal.items_listed-requires
items_listed-requires c =
    let p = c.requires in let f =
    c.fill-h.ensures.0 in (
      p.0.table,
      p.1,
      listed_space _ _ _ _ _ _ _ p.0.framed f
          c.fill-h.auto.listed c.place_all.auto.slots,
      c.place_all.ensures,
      filled_own _ _ _ _ _ f,
    )

pub returns : goal.returns
returns c = listed_every _ _ _ _ _ c.fill-h.ensures.0 _ _ c.items_listed.ensures
