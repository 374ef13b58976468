-- Numbers within their bits come back from the number that they are packed into.
use Rattle.std.specs.Prelude.{ℕ, ◌≡◌}
use Rattle.std.proofs.Common.{ap, ◌∙◌, arith}
use Rattle.reader.specs.declared.Answer.{Answer}
use Rattle.favashears_bounds.specs.Bounds.{Bounded}
use Rattle.favashears_pack.specs.Pack.{pack, refusal_in, file_in, record_in, nodes_in, Unpacks}

module _ (a : Answer) (b : Bounded a) where
  packed_refusal : refusal_in (pack a) ≡ a.refusal
  unfolding pack refusal_in
  packed_refusal = omega (arith, b.refusal_at_most)

  packed_file : file_in (pack a) ≡ a.file
  unfolding pack file_in
  packed_file = omega (arith, b.refusal_at_most, b.file_at_most)

  packed_record : record_in (pack a) ≡ a.at
  unfolding pack record_in
  packed_record = omega (arith, b.refusal_at_most, b.file_at_most, b.record_below)

  packed_nodes : nodes_in (pack a) ≡ a.nodes
  unfolding pack nodes_in
  packed_nodes = omega (arith, b.nodes_below)

  pub unpacks : (n : ℕ) → n ≡ pack a → Unpacks n a
  unpacks n e = record {
    refusal_is = ap refusal_in e ∙ packed_refusal;
    file_is = ap file_in e ∙ packed_file;
    record_is = ap record_in e ∙ packed_record;
    nodes_are = ap nodes_in e ∙ packed_nodes;
  }
