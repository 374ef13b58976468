use Rattle.reader_weights.specs.Weights.{fits_light, fits_heavy}
use Rattle.reader_weights.proofs.weights.weight_fits.Goals as goal

pub returns-then-w-most_weight : goal.returns-then-w-most_weight
returns-then-w-most_weight c = search fits_light

pub returns : goal.returns
returns c = search fits_heavy
