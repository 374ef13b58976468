use mathlib.Core.Path.{◌≡◌}
use Rattle.reader.specs.Files.{words}
use Rattle.reader.specs.Members.{member}
use Rattle.proof_members.specs.Keys.{decoded}
use Rattle.proof_members.specs.Sequents.{sequent, members_from}
use Rattle.proof_members.proofs.search.holds.Given as goal

abbrev pub invariant-loop-other : goal.invariant-loop-other
invariant-loop-other l =
    member (decoded (words l.files) l.key) (sequent (words l.files) l.memory l.h)
    ≡ member (decoded (words l.files) l.key) (members_from (words l.files) l.memory l.h l.other-index)
