use Rattle.reader.specs.Files.{words}
use Rattle.derivation_filling.specs.Filling.{Filling}
use Rattle.derivation_filling.proofs.fill.key_all.Given as goal

abbrev pub invariant-loop-i : goal.invariant-loop-i
invariant-loop-i l = Filling (words l.files) l.keys l.slots l.i
