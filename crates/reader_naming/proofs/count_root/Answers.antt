use Rattle.reader_naming.specs.Totals.{root_counted, root_outside}
use Rattle.reader_naming.proofs.count_root.Goals as goal

pub returns-then-root-named : goal.returns-then-root-named
returns-then-root-named c = search root_counted

pub returns-else-root-named : goal.returns-else-root-named
returns-else-root-named c = search root_outside
