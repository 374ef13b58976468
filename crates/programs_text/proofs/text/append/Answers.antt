use Rattle.std.proofs.Common.{◌+◌, ◌-◌, length, arith}
use Rattle.programs_text.specs.TextLaws.{text_appended}
use Rattle.programs_text.proofs.text.append.Goals as goal

pub returns : goal.returns
returns c = rw c.copy_from_slice.ensures.after (text_appended _ _ _ c.requires (c.args.at + length c.args.text.now - c.args.at) (omega arith))
