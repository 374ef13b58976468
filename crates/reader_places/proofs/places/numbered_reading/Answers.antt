use Rattle.reader_places.proofs.places.numbered_reading.Goals as goal

pub number_records-requires : goal.number_records-requires
number_records-requires c = c.requires.2

pub proof_reading-requires : goal.proof_reading-requires
proof_reading-requires c = (c.requires.0, c.requires.1, c.number_records.ensures)

pub returns : goal.returns
returns c = c.proof_reading.ensures
