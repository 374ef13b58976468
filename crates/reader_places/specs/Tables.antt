-- Tables of which a part is lent, as long as the files need.
use Rattle.std.specs.Prelude.{ℕ, ◌+◌, ◌*◌, ◌≤◌, ◌≡◌, length, take, replicate}
use Rattle.std.proofs.lemmas.List.{length-replicate}
use Rattle.std.proofs.Common.{length-take-le, arith}

pub part_length : (n k : ℕ) → k ≤ n → length {A = ℕ} (take k (replicate n 0)) ≡ k
part_length n k h =
    let all : length {A = ℕ} (replicate n 0) ≡ n = length-replicate {A = ℕ} n 0 in
    length-take-le k (replicate n 0) (rw all h)

-- slots for a part of at most `most` entries
pub slots_long : (n size most : ℕ) → size ≤ most → 4096 + 2 * most ≤ n → 4096 + 2 * size ≤ length {A = ℕ} (replicate n 0)
slots_long n size most h g = let all : length {A = ℕ} (replicate n 0) ≡ n = length-replicate {A = ℕ} n 0 in rw all (omega arith)
