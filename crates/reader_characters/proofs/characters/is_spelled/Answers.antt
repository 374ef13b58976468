use borrow.Author.Rules.{rules}
use Rattle.reader_characters.specs.Spelling.{spelled_name, spelled_start, spelled_stop, spelled_go, spelled_end, spelled_falls}
use Rattle.reader_characters.proofs.characters.is_spelled.Goals as goal

pub loop-s-init : goal.loop-s-init
loop-s-init c = (search (spelled_start, spelled_name), search rules)

pub returns-then-s-eq0 : goal.returns-then-s-eq0
returns-then-s-eq0 c = search spelled_stop

pub loop-s-smaller : goal.loop-s-smaller
loop-s-smaller c = search spelled_falls

pub loop-s-preserved : goal.loop-s-preserved
loop-s-preserved c = (search spelled_go, search rules)

pub returns : goal.returns
returns c = search spelled_end
