use native.Mathlib.Omega.{arith}
use Rattle.reader.specs.Files.{words_small}
use Rattle.reader_characters.proofs.bytes.fetched.Goals as goal

pub returns : goal.returns
returns c =
    let e = c.record_at.ensures in let small = words_small c.args.files.now c.args.r in
    (e, omega (arith, e.a_is, small 1), omega (arith, e.b_is, small 2))
