use Rattle.reader_names.specs.Taken.{names_pass, free_none, looked_free}
use Rattle.reader_names.proofs.name_is_free.Goals as goal

pub returns-then-name-eq0 : goal.returns-then-name-eq0
returns-then-name-eq0 c = (search free_none, search names_pass)

pub returns : goal.returns
returns c = let p = c.requires in (looked_free _ _ _ _ p.4 p.5 c.enter.ensures, c.enter.ensures.names)
