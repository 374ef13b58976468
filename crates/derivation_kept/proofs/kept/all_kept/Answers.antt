use borrow.Author.Rules.{rules}
use Rattle.derivation_forms.specs.Formed.{item_in, rest_falls, key_normal}
use Rattle.derivation_kept.specs.Kept.{kept_no, kept_end, run_start, run_more}
use Rattle.std.proofs.Common.{ap, not}
use Rattle.derivation_kept.proofs.kept.all_kept.Goals as goal

pub loop-l-init : goal.loop-l-init
loop-l-init c = search run_start

pub returns-then-left-eq0 : goal.returns-then-left-eq0
returns-then-left-eq0 c = search kept_no

pub key_of-x-requires : goal.key_of-x-requires
key_of-x-requires c = (search rules, item_in _ _ _ _ c.loop-l-test.true c.link_at-link.ensures.item_is c.loop-l.invariant.inside)

pub is_closed_formula-requires : goal.is_closed_formula-requires
is_closed_formula-requires c = (search rules, search key_normal)

pub returns-then-not-is_closed_formula : goal.returns-then-not-is_closed_formula
returns-then-not-is_closed_formula c = search kept_no

pub sought-q-requires : goal.sought-q-requires
sought-q-requires c = let p = c.requires in let l = c.loop-l.invariant in (p.0.table, p.1, l.place, l.behind)

pub returns-then-q-eq0 : goal.returns-then-q-eq0
returns-then-q-eq0 c = search kept_no

pub loop-l-smaller : goal.loop-l-smaller
loop-l-smaller c = search rest_falls

pub loop-l-preserved : goal.loop-l-preserved
loop-l-preserved c =
    run_more _ _ _ _ _ _ _ c.loop-l.invariant c.loop-l-test.true c.if-left-eq0.false _ _ _ c.link_at-link.ensures.item_is c.link_at-link.ensures.next_is c.key_of-x.ensures _ c.is_closed_formula.ensures (ap not c.if-not-is_closed_formula.false) _ c.sought-q.ensures c.if-q-eq0.false

pub returns : goal.returns
returns c = search kept_end
