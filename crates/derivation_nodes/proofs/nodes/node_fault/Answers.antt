use mathlib.Core.Path.{refl}
use Rattle.std.proofs.lemmas.Result.{err_from_is_err_and}
use Rattle.reader.specs.RefusalLaws.{number_some}
use Rattle.reader.specs.TestLaws.{or_stop, or_go}
use Rattle.derivation_nodes.specs.Nodes.{node_is}
use Rattle.derivation_nodes.proofs.nodes.node_fault.Goals as goal

pub returns-then-kept_passes : goal.returns-then-kept_passes
returns-then-kept_passes c = (c.kept_passes.ensures.holds c.if-kept_passes.true, refl, c.requires.2)

pub returns-in_err-form_fault : goal.returns-in_err-form_fault
returns-in_err-form_fault c =
    let p = err_from_is_err_and c.from_residual.result c.from_residual.ensures.1 in
    rw (p.1, p.2) (node_is _ _ _ _ (or_stop _ _ _ c.in_err-form_fault.ensures (number_some _)), refl, c.requires.2)

pub returns : goal.returns
returns c = let f = c.fit_fault.ensures in (node_is _ _ _ _ (or_go _ _ _ _ c.in_ok-form_fault.ensures refl f.0), f.1, f.2)
