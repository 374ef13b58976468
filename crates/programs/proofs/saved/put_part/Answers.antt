use Rattle.std.proofs.Common.{ℕ, List, ◌++◌, ap, ◌∙◌, arith}
use Rattle.io.proofs.Counting.{prefix_len_of_le}
use Rattle.programs.specs.Names.{part_end}
use Rattle.programs.proofs.saved.put_part.Goals as goal

pub returns : goal.returns
returns c = record {
  counts = prefix_len_of_le _ _ (omega arith);
  text = c.append.ensures.stands ∙ ap (λ (l : List ℕ). l ++ part_end) c.append-end.ensures.stands;
}
