use borrow.Author.Rules.{rules}
use mathlib.Core.Path.{refl}
use Rattle.std.proofs.lemmas.Result.{err_from_is_err_and}
use Rattle.reader.specs.RefusalLaws.{number_some}
use Rattle.reader.specs.TestLaws.{or_stop, or_go}
use Rattle.proof_rows.specs.Grown.{parts_in}
use Rattle.proof_nodes.specs.Nodes.{at_parts, node_is}
use Rattle.proof_nodes.proofs.nodes.node_fault.Goals as goal

pub form_fault-requires : goal.form_fault-requires
form_fault-requires c = (search rules, search parts_in)

pub returns-in_err-form_fault : goal.returns-in_err-form_fault
returns-in_err-form_fault c =
    let p = err_from_is_err_and c.from_residual.result c.from_residual.ensures.1 in
    rw (p.1, p.2) (
      node_is _ _ _ _ _ c.references_of-node.ensures (or_stop _ _ _ c.in_err-form_fault.ensures (number_some _)),
      c.requires.0.blank,
    )

pub fit_fault-requires : goal.fit_fault-requires
fit_fault-requires c = (search at_parts, search rules)

pub returns : goal.returns
returns c = (
  node_is _ _ _ _ _ c.references_of-node.ensures (or_go _ _ _ _ c.in_ok-form_fault.ensures refl c.fit_fault.ensures.0),
  c.fit_fault.ensures.1,
)
