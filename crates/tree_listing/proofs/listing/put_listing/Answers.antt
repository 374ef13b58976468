use native.Mathlib.Omega.{arith}
use mathlib.Core.Path.{◌∙◌}
use Rattle.reader.specs.Files.{words}
use Rattle.tree_listing.specs.Filled.{answer_few, listing_filled}
use Rattle.tree_listing.proofs.listing.put_listing.Goals as goal

pub list_node-nodes-requires : goal.list_node-nodes-requires
list_node-nodes-requires c =
    let few = answer_few _ _ _ (c.of-a.ensures ∙ c.check_proof.ensures) in
    (omega (arith, c.append-first.ensures.ends), omega arith)

pub append_ending-requires : goal.append_ending-requires
append_ending-requires c =
    let few = answer_few _ _ _ (c.of-a.ensures ∙ c.check_proof.ensures) in
    omega (arith, c.append-first.ensures.ends, c.list_node-nodes.ensures.room)

pub returns : goal.returns
unfolding words
returns c =
    let e = c.new-files.ensures in
    listing_filled _ _ _ (c.of-a.ensures ∙ c.check_proof.ensures) _ _ _ _ _ _ _ _ _ _ c.word_of-m.ensures c.word_of-root.ensures
    c.append-first.ensures (rw (e.0, e.1, e.2) at c.list_node-nodes.ensures) c.append_ending.ensures
