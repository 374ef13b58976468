use borrow.Author.Rules.{rules}
use borrow.Author.Tests.{not-false}
use Rattle.derivation_bytes.proofs.Rows.{derivation_byte_at}
use Rattle.derivation_forms.specs.Formed.{chain_in}
use Rattle.derivation_members.specs.Members.{frame_in, start_in, chain_below}
use Rattle.derivation_nodes.specs.Kept.{passes_no, passes_all}
use Rattle.derivation_nodes.proofs.nodes.kept_passes.Goals as goal

pub returns-then-x-ne65 : goal.returns-then-x-ne65
returns-then-x-ne65 c = search passes_no

pub premises_fit-requires : goal.premises_fit-requires
premises_fit-requires c = (search derivation_byte_at, search rules)

pub returns-then-not-premises_fit : goal.returns-then-not-premises_fit
returns-then-not-premises_fit c = search passes_no

pub start_at-s-requires : goal.start_at-s-requires
start_at-s-requires c = search (frame_in, rules)

pub entry_at-b-requires : goal.entry_at-b-requires
entry_at-b-requires c = search start_in

pub all_kept-requires : goal.all_kept-requires
all_kept-requires c = (search rules, search chain_below, search chain_in)

pub returns-then-d-le8192 : goal.returns-then-d-le8192
returns-then-d-le8192 c = search (passes_all, not-false)

pub returns : goal.returns
returns c = search passes_no
