use mathlib.Core.Path.{◌≡◌}
use Rattle.reader.specs.Files.{words}
use Rattle.reader.specs.Members.{is_fresh}
use Rattle.proof_members.specs.Sequents.{sequent, members_from}
use Rattle.proof_fresh.proofs.fresh.none_marked.Given as goal

abbrev pub invariant-loop-key : goal.invariant-loop-key
invariant-loop-key l = is_fresh (sequent (words l.files) l.memory l.h) l.c ≡ is_fresh (members_from (words l.files) l.memory l.h l.key-index) l.c
