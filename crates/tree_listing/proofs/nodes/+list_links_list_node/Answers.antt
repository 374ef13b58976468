use borrow.Author.Rules.{rules}
use native.Mathlib.Omega.{arith}
use Rattle.tree_listing.specs.Lists.{none_left, links_end, links_listed, node_none, node_listed, number_falls}
use Rattle.tree_listing.proofs.nodes.+list_links_list_node.Goals as goal

pub list_links-returns-then-c-eq0 : goal.list_links-returns-then-c-eq0
list_links-returns-then-c-eq0 t c = links_end _ _ _ _ _ _ c.if-c-eq0.true

pub list_links-list_node-done-requires : goal.list_links-list_node-done-requires
list_links-list_node-done-requires t c = (number_falls _ _ _ _ t c.decreases c.if-c-eq0.false c.lower_at-x.ensures, search rules)

pub list_links-list_links-requires : goal.list_links-list_links-requires
list_links-list_links-requires t c =
    let first = c.list_node-done.ensures in (
      number_falls _ _ _ _ t c.decreases c.if-c-eq0.false c.lower_at-next.ensures,
      (omega (arith, first.room), omega (arith, first.remain)),
    )

pub list_links-returns : goal.list_links-returns
list_links-returns t c =
    links_listed _ _ _ _ _ _ _ _ _ _ _ _ _ _ c.if-c-eq0.false c.lower_at-x.ensures c.lower_at-next.ensures
    c.list_node-done.ensures c.list_links.ensures

pub list_node-returns-then-n-eq0 : goal.list_node-returns-then-n-eq0
list_node-returns-then-n-eq0 t c = node_none _ _ _ _ _ _ c.if-n-eq0.true

pub list_node-returns-then-left-eq0 : goal.list_node-returns-then-left-eq0
list_node-returns-then-left-eq0 t c = none_left _ _ _ _ _ c.if-left-eq0.true

pub list_node-append_node-end-requires : goal.list_node-append_node-end-requires
list_node-append_node-end-requires t c = omega arith

pub list_node-overflow_sub-left : goal.list_node-overflow_sub-left
list_node-overflow_sub-left t c = omega arith

pub list_node-overflow_add-depth : goal.list_node-overflow_add-depth
list_node-overflow_add-depth t c = omega arith

pub list_node-list_links-requires : goal.list_node-list_links-requires
list_node-list_links-requires t c = (
  number_falls _ _ _ _ t c.decreases c.if-n-eq0.false c.lower_at-c.ensures,
  (omega (arith, c.append_node-end.ensures.1), omega arith),
)

pub list_node-returns : goal.list_node-returns
list_node-returns t c =
    let line = c.append_node-end.ensures in
    node_listed _ _ _ _ _ _ _ _ _ _ _ _ c.if-n-eq0.false c.if-left-eq0.false c.lower_at-c.ensures line.0 line.1 c.list_links.ensures
