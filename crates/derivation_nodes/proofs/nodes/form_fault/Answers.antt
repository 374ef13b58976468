use borrow.Author.Rules.{rules}
use Rattle.reader.specs.TestLaws.{demands}
use Rattle.derivation_bytes.proofs.Rows.{derivation_byte_at}
use Rattle.derivation_nodes.specs.Nodes.{form_at}
use Rattle.derivation_nodes.proofs.nodes.form_fault.Goals as goal

pub parts_formed-requires : goal.parts_formed-requires
parts_formed-requires c = (search rules, search rules, search rules, search rules, search rules)

pub returns-then-not-parts_formed : goal.returns-then-not-parts_formed
returns-then-not-parts_formed c = search (form_at, demands)

pub returns-then-not-goal_fits : goal.returns-then-not-goal_fits
returns-then-not-goal_fits c = search (form_at, demands)

pub premises_fit-requires : goal.premises_fit-requires
premises_fit-requires c = (search derivation_byte_at, search rules)

pub returns-then-not-premises_fit : goal.returns-then-not-premises_fit
returns-then-not-premises_fit c = search (form_at, demands)

pub returns-then-not-members_fit : goal.returns-then-not-members_fit
returns-then-not-members_fit c = search (form_at, demands)

pub returns : goal.returns
returns c = search (form_at, demands)
