use Rattle.reader.specs.Files.{words}
use Rattle.derivation_known.specs.Known.{Known}
use Rattle.derivation_gathered.proofs.gathered.include_added.Given as goal

abbrev pub invariant-loop-f : goal.invariant-loop-f
invariant-loop-f l = Known (words l.files) l.known
