use Rattle.std.proofs.Common.{◌≡◌, ◌-◌}
use Rattle.reader.specs.Files.{words}
use Rattle.reader_chains.specs.Chains.{link_at}
use Rattle.reader_chains.proofs.chains.link_at.Given as goal

abbrev pub invariant-loop : goal.invariant-loop
invariant-loop l = link_at (words l.files) l.c l.n ≡ link_at (words l.files) l.l (l.n - l.counter)
