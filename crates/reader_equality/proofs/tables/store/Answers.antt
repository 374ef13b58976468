use Rattle.reader_equality.specs.Tables.{store_past}
use Rattle.reader_equality.proofs.tables.store.Goals as goal

pub returns-else-k-table : goal.returns-else-k-table
returns-else-k-table c = store_past _ _ _ c.if-k-table.false
