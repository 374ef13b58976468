use borrow.Author.Rules.{rules}
use mathlib.Core.Path.{refl, ◌∙◌}
use Rattle.derivation_forms.specs.Formed.{item_in, rest_in, rest_falls}
use Rattle.derivation_known.specs.Held.{rows_same, rows_then}
use Rattle.derivation_gathered.proofs.gathered.gather_chain.Goals as goal

pub loop-l-init : goal.loop-l-init
loop-l-init c = (refl, search rules, rows_same _)

pub key_of-x-requires : goal.key_of-x-requires
key_of-x-requires c = (search rules, search item_in)

pub loop-l-smaller : goal.loop-l-smaller
loop-l-smaller c = search rest_falls

pub loop-l-preserved : goal.loop-l-preserved
loop-l-preserved c =
    let l = c.loop-l in let put = c.put_key in (put.auto.known ∙ l.invariant.0, search rest_in, rows_then _ _ _ l.invariant.2 put.ensures)
