use Rattle.std.proofs.Common.{◌≡◌, ◌-◌, leb, length}
use Rattle.reader.specs.Files.{words}
use Rattle.reader.specs.Chains.{linked}
use Rattle.reader.proofs.chains.at_most.Given as goal

abbrev pub invariant-loop : goal.invariant-loop
invariant-loop l = leb (length (linked (words l.files) l.c)) l.most ≡ leb (length (linked (words l.files) l.at)) (l.most - l.counter)
