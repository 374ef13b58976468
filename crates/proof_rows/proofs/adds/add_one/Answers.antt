use Rattle.proof_rows.specs.Grown.{grown_none, grown_one, room_here}
use Rattle.proof_rows.proofs.adds.add_one.Goals as goal

pub returns-then-form-eq0 : goal.returns-then-form-eq0
returns-then-form-eq0 c = search grown_none

pub bounds-memory-h : goal.bounds-memory-h
bounds-memory-h c = search room_here

pub returns : goal.returns
returns c = search grown_one
