-- The greatest numbers that an answer has: refusals go up to 19, there are two files, and both together have fewer than 2²⁴ records.
use Rattle.std.specs.Prelude.{◌<◌, ◌≤◌}
use Rattle.reader.specs.declared.Answer.{Answer}

pub record Bounded (a : Answer) : Type 0 where
  pub refusal_at_most : a.refusal ≤ 19
  pub file_at_most : a.file ≤ 2
  pub record_below : a.at < 16777216
  pub nodes_below : a.nodes < 16777216
