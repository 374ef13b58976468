use borrow.Author.Rules.{rules}
use Rattle.derivation_members.specs.Members.{frame_in, start_in, chain_below}
use Rattle.derivation_listed.specs.Filled.{outside_then, chain_few, chain_of}
use Rattle.derivation_listed.proofs.filled.fill.Goals as goal

pub start_at-s-requires : goal.start_at-s-requires
start_at-s-requires c = search (frame_in, rules)

pub entry_at-c-requires : goal.entry_at-c-requires
entry_at-c-requires c = search start_in

pub fill_chain-h-requires : goal.fill_chain-h-requires
fill_chain-h-requires c =
    let p = c.requires in let s = c.start_at-s.ensures in let e = c.entry_at-c.ensures in
    (p.0, chain_below _ _ _ _ _ _ p.1 s e, chain_few _ _ _ _ _ p.1 s _ e, p.2)

pub fill_added-requires : goal.fill_added-requires
fill_added-requires c =
    let p = c.requires in (
      p.1,
      c.start_at-s.ensures,
      search rules,
      chain_of _ _ _ _ _ _ _ c.entry_at-c.ensures
          c.fill_chain-h.ensures.0,
    )

pub returns : goal.returns
returns c = let a = c.fill_added.ensures in (a.0, outside_then _ _ _ _ _ a.2 c.fill_chain-h.ensures.1 a.1)
