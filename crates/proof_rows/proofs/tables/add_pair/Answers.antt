use Rattle.proof_rows.specs.Tables.{pair_past, pair_first, pair_last}
use Rattle.proof_rows.proofs.tables.add_pair.Goals as goal

pub returns-then-b-ge2 : goal.returns-then-b-ge2
returns-then-b-ge2 c = search pair_past

pub returns-then-b-eq0 : goal.returns-then-b-eq0
returns-then-b-eq0 c = search pair_first

pub returns : goal.returns
returns c = search pair_last
