-- The address facts that the blocks' records rest on, from the laws of addresses.
use Rattle.std.specs.Prelude.{ℕ}
use Rattle.reader.specs.Words.{Reader}
use Rattle.translation_addresses.proofs.Addresses.{base_after, base_start, end_is, end_after, end_below, end_start}
use Rattle.translation_records.specs.Addresses.{Addresses}

pub addresses : (rd : Reader) (m n : ℕ) → Addresses rd m n
addresses rd m n = record {
  base_past = base_after rd m n;
  base_start = base_start rd m n;
  end_is = end_is rd m n;
  end_base = end_below rd m n;
  end_start = end_start rd m n;
  end_past = end_after rd m n;
}
