use Rattle.derivation_replacement.specs.Replaced.{fits_closed, fits_index}
use Rattle.derivation_replacement.specs.Settled.{settled_as, settled_known, settled_open}
use Rattle.derivation_replacement.proofs.replace.settled.Goals as goal

pub is_below-requires : goal.is_below-requires
is_below-requires c = let p = c.requires in (p.body, p.tables.room, p.tables.reached)

pub returns-then-is_below : goal.returns-then-is_below
returns-then-is_below c =
    let p = c.requires in settled_as _ _ _ _ _ _ _ c.answer_of.ensures (fits_closed _ _ _ _ _ _ p.whole p.body _ c.is_below.ensures c.if-is_below.true)

pub is_index-requires : goal.is_index-requires
is_index-requires c = c.requires.body

pub returns-then-is_index : goal.returns-then-is_index
returns-then-is_index c =
    let p = c.requires in settled_as _ _ _ _ _ _ _ c.answer_of-then-is_index.ensures (fits_index _ _ _ _ _ _ p.whole p.body _ c.is_below.ensures c.if-is_below.false _ c.is_index.ensures p.term c.if-is_index.true)

pub returns-then-fits_known : goal.returns-then-fits_known
returns-then-fits_known c = settled_known _ _ _ _ _ _ _ c.requires.facts c.fits_known.ensures c.if-fits_known.true

pub returns-else-fits_known : goal.returns-else-fits_known
returns-else-fits_known c = settled_open _ _ _ _ _ _ _ c.is_below.ensures c.if-is_below.false c.is_index.ensures c.if-is_index.false
