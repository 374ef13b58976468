use borrow.Author.Rules.{rules}
use Rattle.derivation_forms.specs.Forms.{source_goal, source_in, source_part}
use Rattle.derivation_forms.proofs.forms.source_key.Goals as goal

pub returns-then-w-lt2 : goal.returns-then-w-lt2
returns-then-w-lt2 c = search source_goal

pub key_of-requires : goal.key_of-requires
key_of-requires c = (search rules, search source_in)

pub returns : goal.returns
returns c = search source_part
