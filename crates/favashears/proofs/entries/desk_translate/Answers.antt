use Rattle.favashears.specs.Unpacked.{translation_unpacks}
use Rattle.favashears.proofs.entries.desk_translate.Goals as goal

pub returns : goal.returns
returns c =
    let numbers = c.numbers-bytes.ensures in
    let p = translation_unpacks _ _ _ _ c.pack.ensures _ _ _ _ _ numbers.0 numbers.1 c.translate-translated.ensures in
    record { fact_1 = p.0; fact_2 = p.1 }
