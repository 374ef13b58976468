use Rattle.reader_headers.specs.Roots.{hypothesis_none, hypothesis_types, hypothesis_class, hypothesis_formula}
use Rattle.reader_headers.proofs.roots.hypothesis_fits.Goals as goal

pub returns-then-i-eq0 : goal.returns-then-i-eq0
returns-then-i-eq0 c = search hypothesis_none

pub returns-then-k : goal.returns-then-k
returns-then-k c = search hypothesis_types

pub returns-then-class_of : goal.returns-then-class_of
returns-then-class_of c = search hypothesis_class

pub returns : goal.returns
returns c = search hypothesis_formula
