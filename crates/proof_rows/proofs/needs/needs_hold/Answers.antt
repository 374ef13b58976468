use Rattle.proof_rows.specs.Tables.{needs_none, needs_missing, needs_one, needs_two}
use Rattle.proof_rows.proofs.needs.needs_hold.Goals as goal

pub returns-then-first-eq0 : goal.returns-then-first-eq0
returns-then-first-eq0 c = search needs_none

pub returns-then-not-form_holds : goal.returns-then-not-form_holds
returns-then-not-form_holds c = search needs_missing

pub returns-then-last-eq0 : goal.returns-then-last-eq0
returns-then-last-eq0 c = search needs_one

pub returns : goal.returns
returns c = search needs_two
