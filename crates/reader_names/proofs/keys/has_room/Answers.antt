use Rattle.reader_names.specs.NameKeys.{room_none, room_is}
use Rattle.reader_names.proofs.keys.has_room.Goals as goal

pub returns-then-c-eq0 : goal.returns-then-c-eq0
returns-then-c-eq0 c = search room_none

pub returns : goal.returns
returns c = search room_is
