use native.Mathlib.Omega.{arith}
use Rattle.programs_lines.specs.LineLaws.{put_before, put_kept}
use Rattle.programs_lines.proofs.lines.put_byte.Goals as goal

pub returns : goal.returns
returns c = (omega arith, put_before _ _ _ c.requires.0 c.requires.1, put_kept c.args.out.now c.args.end c.args.byte)
