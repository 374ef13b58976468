use borrow.Author.Rules.{rules}
use mathlib.Core.Path.{sym, ◌∙◌}
use borrow.Author.Tests.{not-false}
use Rattle.reader_characters.specs.Spelling.{spelled_falls}
use Rattle.reader_names.specs.NameKeys.{key_nameless, key_start, step_small, value_small, key_stop, key_go, key_none, key_all}
use Rattle.std.proofs.Common.{ap, not}
use Rattle.reader_names.proofs.keys.parts_of.Goals as goal

pub returns-then-first-eq0 : goal.returns-then-first-eq0
returns-then-first-eq0 c = search key_nameless

pub loop-s-init : goal.loop-s-init
loop-s-init c = (search key_start, search step_small, search rules)

pub returns-then-not-has_room : goal.returns-then-not-has_room
returns-then-not-has_room c = search key_stop

pub dealt-key-requires : goal.dealt-key-requires
dealt-key-requires c =
    let l = c.loop-s.invariant in (sym c.has_room.ensures ∙ not-false _ (ap not c.if-not-has_room.false), value_small _ _ _ _ l.0 c.loop-s-test.true l.1)

pub loop-s-smaller : goal.loop-s-smaller
loop-s-smaller c = search spelled_falls

pub loop-s-preserved : goal.loop-s-preserved
loop-s-preserved c = (search key_go, search step_small, search rules)

pub returns-then-key-eq0 : goal.returns-then-key-eq0
returns-then-key-eq0 c = search key_none

pub returns : goal.returns
returns c = search key_all
