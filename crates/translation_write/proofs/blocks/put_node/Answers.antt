use native.Mathlib.Omega.{arith}
use borrow.Author.Tests.{not-false}
use mathlib.Core.Path.{sym, ◌∙◌}
use Rattle.translation_write.specs.Nodes.{base_fits, place_is, node_rule, node_other}
use Rattle.std.proofs.Common.{ap, not}
use Rattle.translation_write.proofs.blocks.put_node.Goals as goal

pub returns-then-not-is_rule : goal.returns-then-not-is_rule
returns-then-not-is_rule c =
    node_other _ _ _ _ c.requires.1 _ c.requires.2
    c.requires.3 _ _ c.word_at-k.ensures c.is_rule.ensures _ (ap not c.if-not-is_rule.true)

pub lines_of-count-requires : goal.lines_of-count-requires
lines_of-count-requires c = sym c.is_rule.ensures ∙ not-false _ (ap not c.if-not-is_rule.false)

pub overflow_add-base : goal.overflow_add-base
overflow_add-base c =
    omega (
      arith,
      (base_fits _ _ _ _ c.requires.1 _
          c.requires.2 c.requires.3 _ _
          c.word_at-k.ensures c.is_rule.ensures (ap not c.if-not-is_rule.false) _ _ c.lines_of-count.ensures c.entry_at-end.ensures _
          c.requires.0).0,
    )

pub overflow_sub-base : goal.overflow_sub-base
overflow_sub-base c =
    (base_fits _ _ _ _ c.requires.1 _ c.requires.2
    c.requires.3 _ _ c.word_at-k.ensures c.is_rule.ensures
    (ap not c.if-not-is_rule.false) _ _ c.lines_of-count.ensures c.entry_at-end.ensures _ c.requires.0).1

pub put_block-requires : goal.put_block-requires
put_block-requires c =
    place_is _ _ _ _ c.requires.1 _
    c.requires.2 c.requires.3 _ _
    c.word_at-k.ensures c.is_rule.ensures (ap not c.if-not-is_rule.false) _ _
    c.lines_of-count.ensures c.entry_at-end.ensures _ c.requires.0

pub returns : goal.returns
returns c =
    node_rule _ _ _ _ c.requires.1 _
    c.requires.2
    c.requires.3 _ _
    c.word_at-k.ensures c.is_rule.ensures
    (ap not c.if-not-is_rule.false) _ _ c.lines_of-count.ensures c.entry_at-end.ensures _ _
    c.put_block.ensures
