use native.Mathlib.Omega.{arith}
use Prim.Native.Nat.{◌<◌, ◌≤◌}
use mathlib.Core.Path.{refl, ◌∙◌}
use Rattle.reader.specs.TestLaws.{demands}
use Rattle.derivation_nodes.specs.Nodes.{fit_at, depth_stop, depth_go}
use Rattle.derivation_nodes.proofs.nodes.fit_fault.Goals as goal

pub parts_fit-requires : goal.parts_fit-requires
parts_fit-requires c = let p = c.requires in (p.0, p.1.tables, p.2)

pub shape_of-known-then-not-parts_fit : goal.shape_of-known-then-not-parts_fit
shape_of-known-then-not-parts_fit c = c.parts_fit.auto.known

pub returns-then-not-parts_fit : goal.returns-then-not-parts_fit
returns-then-not-parts_fit c = (search (fit_at, demands), refl, c.parts_fit.ensures.1)

pub constant_fresh-requires : goal.constant_fresh-requires
constant_fresh-requires c = let p = c.requires in (p.0, p.1.tables.room, p.1.unmarked, c.parts_fit.ensures.1)

pub shape_of-reaches-then-not-constant_fresh : goal.shape_of-reaches-then-not-constant_fresh
shape_of-reaches-then-not-constant_fresh c = c.constant_fresh.auto.reaches

pub shape_of-known-then-not-constant_fresh : goal.shape_of-known-then-not-constant_fresh
shape_of-known-then-not-constant_fresh c = c.constant_fresh.auto.known ∙ c.parts_fit.auto.known

pub returns-then-not-constant_fresh : goal.returns-then-not-constant_fresh
returns-then-not-constant_fresh c = let f = c.constant_fresh.ensures in (search (fit_at, demands), f.1, f.2)

pub shape_of-reaches-then-not-has_room : goal.shape_of-reaches-then-not-has_room
shape_of-reaches-then-not-has_room c = c.constant_fresh.auto.reaches

pub shape_of-known-then-not-has_room : goal.shape_of-known-then-not-has_room
shape_of-known-then-not-has_room c = c.constant_fresh.auto.known ∙ c.parts_fit.auto.known

pub returns-then-not-has_room : goal.returns-then-not-has_room
returns-then-not-has_room c = let f = c.constant_fresh.ensures in (search (fit_at, demands), f.1, f.2)

pub shape_of-reaches-then-d-gt8192 : goal.shape_of-reaches-then-d-gt8192
shape_of-reaches-then-d-gt8192 c = c.constant_fresh.auto.reaches

pub shape_of-known-then-d-gt8192 : goal.shape_of-known-then-d-gt8192
shape_of-known-then-d-gt8192 c = c.constant_fresh.auto.known ∙ c.parts_fit.auto.known

pub returns-then-d-gt8192 : goal.returns-then-d-gt8192
returns-then-d-gt8192 c =
    let f = c.constant_fresh.ensures in (let deep : 8192 < c.args.d = omega arith in search (fit_at, demands, depth_stop), f.1, f.2)

pub shape_of-reaches : goal.shape_of-reaches
shape_of-reaches c = c.constant_fresh.auto.reaches

pub shape_of-known : goal.shape_of-known
shape_of-known c = c.constant_fresh.auto.known ∙ c.parts_fit.auto.known

pub returns : goal.returns
returns c =
    let f = c.constant_fresh.ensures in (let near : c.args.d ≤ 8192 = omega arith in search (fit_at, demands, depth_go), f.1, f.2)
