use mathlib.Core.Path.{◌≡◌}
use Rattle.reader.specs.Files.{words}
use Rattle.reader.specs.Members.{member}
use Rattle.proof_members.specs.Sequents.{sequent, members_from}
use Rattle.proof_members.specs.Signs.{sign}
use Rattle.proof_members.proofs.search.holds_sign.Given as goal

abbrev pub invariant-loop-key : goal.invariant-loop-key
invariant-loop-key l =
    member (sign l.negation l.kind) (sequent (words l.files) l.memory l.h) ≡ member (sign l.negation l.kind) (members_from (words l.files) l.memory l.h l.key-index)
