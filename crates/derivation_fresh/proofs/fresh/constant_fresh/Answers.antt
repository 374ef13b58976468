use borrow.Author.Rules.{rules}
use mathlib.Core.Path.{refl}
use Rattle.derivation_members.specs.Needs.{at_given, form_normal}
use Rattle.derivation_fresh.specs.Fresh.{fresh_none, fresh_one}
use Rattle.derivation_fresh.proofs.fresh.constant_fresh.Goals as goal

pub returns-then-k-ne77 : goal.returns-then-k-ne77
returns-then-k-ne77 c = (search fresh_none, refl, search rules)

pub form_key-key-requires : goal.form_key-key-requires
form_key-key-requires c = search at_given

pub atom_of-c-requires : goal.atom_of-c-requires
atom_of-c-requires c = search form_normal

pub returns : goal.returns
returns c =
    let f = c.is_fresh.ensures in (
      fresh_one _ _ _ _ c.word_at-k.ensures c.if-k-ne77.false _ _ _ _ _ _ _
          c.goal_at-goal.ensures c.form_key-key.ensures c.atom_of-c.ensures _ f.0,
      f.1,
      f.2,
    )
