use borrow.Author.Rules.{rules}
use Rattle.reader.specs.TestLaws.{demands}
use Rattle.proof_nodes.specs.Nodes.{fit_fault, room_of}
use Rattle.proof_nodes.proofs.nodes.fit_fault.Goals as goal

pub shape_of-scratch-then-not-fits : goal.shape_of-scratch-then-not-fits
unfolding fit_fault
shape_of-scratch-then-not-fits c = search rules

pub returns-then-not-fits : goal.returns-then-not-fits
unfolding fit_fault
returns-then-not-fits c = (search demands, c.fits.ensures.1)

pub shape_of-scratch-then-not-constant_fresh : goal.shape_of-scratch-then-not-constant_fresh
unfolding fit_fault
shape_of-scratch-then-not-constant_fresh c = search rules

pub returns-then-not-constant_fresh : goal.returns-then-not-constant_fresh
unfolding fit_fault
returns-then-not-constant_fresh c = (search demands, c.constant_fresh.ensures.1)

pub shape_of-scratch-then-not-has_room : goal.shape_of-scratch-then-not-has_room
unfolding fit_fault
shape_of-scratch-then-not-has_room c = search rules

pub returns-then-not-has_room : goal.returns-then-not-has_room
unfolding fit_fault
returns-then-not-has_room c = (search (demands, room_of), c.constant_fresh.ensures.1)

pub shape_of-scratch : goal.shape_of-scratch
unfolding fit_fault
shape_of-scratch c = search rules

pub returns : goal.returns
unfolding fit_fault
returns c = (search (demands, room_of), c.constant_fresh.ensures.1)
