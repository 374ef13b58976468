use lib.ListN.{length}
use Rattle.reader.specs.Files.{words}
use Rattle.derivation_fresh.specs.Tops.{Rising}
use Rattle.derivation_fresh.proofs.tops.top_of.Given as goal

abbrev pub invariant-loop-f : goal.invariant-loop-f
invariant-loop-f l = Rising (words l.files) (length l.keys) l.frames l.c l.d l.f l.top
