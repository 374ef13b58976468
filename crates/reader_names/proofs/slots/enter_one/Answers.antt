use Rattle.reader_names.specs.Taken.{names_pass}
use Rattle.reader_names.proofs.slots.enter_one.Goals as goal

pub returns-then-name_of-eq0 : goal.returns-then-name_of-eq0
returns-then-name_of-eq0 c = search names_pass

pub returns : goal.returns
returns c = c.enter.ensures.names
