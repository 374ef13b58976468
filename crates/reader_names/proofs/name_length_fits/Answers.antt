use Rattle.reader_names.specs.Symbols.{fits_is}
use Rattle.reader_names.proofs.name_length_fits.Goals as goal

pub returns : goal.returns
returns c = search fits_is
