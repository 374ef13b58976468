use Rattle.reader.specs.TestLaws.{boths}
use Rattle.reader_names.specs.Symbols.{stands_none, stands_some}
use Rattle.reader_names.proofs.name_spelled.Goals as goal

pub returns-then-name-eq0 : goal.returns-then-name-eq0
returns-then-name-eq0 c = search stands_none

pub returns-then-not-all_have_bytes : goal.returns-then-not-all_have_bytes
returns-then-not-all_have_bytes c = search (stands_some, boths)

pub returns-then-not-is_spelled : goal.returns-then-not-is_spelled
returns-then-not-is_spelled c = search (stands_some, boths)

pub returns : goal.returns
returns c = search (stands_some, boths)
