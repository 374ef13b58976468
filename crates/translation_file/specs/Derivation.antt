-- The whole file: header, copies, blocks, and the start's block.
use Prim.Native.Nat.{ℕ, ◌+◌, ◌*◌, ◌-◌, ◌<◌, ◌≤◌}
use Rattle.std.specs.Prelude.{◌≡◌, get_or}
use Rattle.std.proofs.Math.Path.{refl}
use Rattle.std.proofs.Common.{ap, ◌∙◌}
use mathlib.Core.List.{List, ◌++◌, append_assoc}
use Rattle.std.proofs.Math.ListN.{length, length-append}
use native.Mathlib.Omega.{arith}
use Rattle.reader.specs.Words.{Reader, word}
use Rattle.reader.specs.Places.{count_of, root_of}
use Rattle.translation_rules.specs.Templates.{lines_of_start}
use Rattle.translation_rules.specs.Output.{value, before, end_of, start_of, written, letters_of_start}
use Rattle.translation_rules.specs.Bytes.{bytes16, lines_bytes, blocks_bytes, copies_bytes, header_bytes, derivation_bytes}
use Rattle.translation_addresses.proofs.Addresses.{last_is, written_most, written_fits}
use Rattle.translation_values.specs.Ends.{Ends}
use Rattle.translation_write.specs.Put.{put, put_put}
use Rattle.translation_write.specs.Nodes.{Room, length_blocks}
use Rattle.translation_write.specs.Copies.{length_copies}

-- What the writer asks of the files: counts as the check admits them, the proof's records all there, its root among them, and 64 records of room for
-- each of the proof's and for the header.
pub record Ready (ob pf buffer : List ℕ) : Type 0 where
  pub few : count_of ob < 1024
  pub count : count_of pf ≤ 3072
  pub whole : 16 * (1 + count_of pf) ≤ length pf
  pub root : root_of pf ≤ count_of ob + count_of pf
  pub room : 16 * (64 * (count_of pf + 1)) ≤ length buffer

-- the start's block from record `base` on, where the root's block ends at record `end`
unfoldable pub start_bytes : ℕ → ℕ → ℕ → List ℕ
start_bytes base root end =
    bytes16 1 root 0 0 ++ (bytes16 68 0 0 0 ++ (bytes16 1 (base + 1) 0 0 ++ (bytes16 1 end 0 (base + 2) ++ bytes16 75 base (base + 3) 0)))

length_start : (base root end : ℕ) → length (start_bytes base root end) ≡ 80
unfolding start_bytes
length_start base root end = refl

-- The way out of `put_start`.
pub start_put : (r base root end : ℕ) (l0 l1 l2 l3 l4 l5 : List ℕ) → 16 * r + 80 ≤ length l0 →
    l1 ≡ put l0 (16 * r) (bytes16 1 root 0 0) → l2 ≡ put l1 (16 * (r + 1)) (bytes16 68 0 0 0) → l3 ≡ put l2 (16 * (r + 2)) (bytes16 1 (base + 1) 0 0) →
    l4 ≡ put l3 (16 * (r + 3)) (bytes16 1 end 0 (base + 2)) → l5 ≡ put l4 (16 * (r + 4)) (bytes16 75 base (base + 3) 0) →
    l5 ≡ put l0 (16 * r) (start_bytes base root end)
unfolding start_bytes
start_put r base root end l0 l1 l2 l3 l4 l5 h e1 e2 e3 e4 e5 =
    let b0 : List ℕ = bytes16 1 root 0 0 in
    let b1 : List ℕ = bytes16 68 0 0 0 in
    let b2 : List ℕ = bytes16 1 (base + 1) 0 0 in
    let b3 : List ℕ = bytes16 1 end 0 (base + 2) in
    let b4 : List ℕ = bytes16 75 base (base + 3) 0 in
    let p2 : l2 ≡ put l0 (16 * r) (b0 ++ b1) = e2 ∙ rw e1 (put_put l0 (16 * r) b0 b1 (16 * (r + 1)) (omega arith) (omega arith)) in
    let p3 : l3 ≡ put l0 (16 * r) (b0 ++ b1 ++ b2) = e3 ∙ rw p2 (put_put l0 (16 * r) (b0 ++ b1) b2 (16 * (r + 2)) (omega arith) (omega arith)) in
    let p4 : l4 ≡ put l0 (16 * r) (b0 ++ b1 ++ b2 ++ b3) =
    e4 ∙ rw p3 (put_put l0 (16 * r) (b0 ++ b1 ++ b2) b3 (16 * (r + 3)) (omega arith) (omega arith)) in
    e5 ∙ rw p4 (put_put l0 (16 * r) (b0 ++ b1 ++ b2 ++ b3) b4 (16 * (r + 4)) (omega arith) (omega arith))

start_is : (rd : Reader) (m n root : ℕ) →
    start_bytes (start_of rd m n) root (end_of rd m n root) ≡ lines_bytes rd (letters_of_start rd m n root) lines_of_start 5
unfolding start_bytes lines_bytes value
start_is rd m n root = let first : start_of rd m n + 0 ≡ start_of rd m n = omega arith in rw first

-- the file by its reader
unfoldable pub file_bytes : Reader → List ℕ → ℕ → ℕ → List ℕ
file_bytes rd pf m n =
    header_bytes rd m n
    ++ (copies_bytes rd pf m n ++ (blocks_bytes rd m n n ++ lines_bytes rd (letters_of_start rd m n (root_of pf)) lines_of_start 5))

module _ (rd : Reader) (m n : ℕ) where
  start_written : start_of rd m n + 5 ≡ m + (1 + written rd m n)
  start_written = omega (arith, last_is rd m n)

  -- the start's block has its place
  pub start_fits : (buffer : List ℕ) (start : ℕ) → Room rd m n buffer → start ≡ start_of rd m n →
      (m + n + 1 ≤ start) × (start < 4294967296) × (16 * (start - m) + 80 ≤ length buffer)
  unfolding start_of written
  start_fits buffer start p e =
      let most : written rd m n ≤ 22 * n + 5 = written_most rd m n in omega (arith, p.few, p.count, p.room)

  -- The way out of `put_file`.
  pub file_put : (pf table l0 l1 l2 l3 l4 : List ℕ) (start root end : ℕ) → Room rd m n l0 → 16 * (1 + n) ≤ length pf → Ends rd m n table (m + n + 1) →
      root_of pf ≤ m + n → start ≡ start_of rd m n → root ≡ root_of pf → end ≡ get_or table root 0 →
      l1 ≡ put l0 0 (bytes16 1 (start + 4 - m) (start + 4) m) → l2 ≡ put l1 16 (copies_bytes rd pf m n) →
      l3 ≡ put l2 (16 * (n + 1)) (blocks_bytes rd m n n) → l4 ≡ put l3 (16 * (start - m)) (start_bytes start root end) → l4 ≡ put l0 0 (file_bytes rd pf m n)
  unfolding file_bytes header_bytes start_of
  file_put pf table l0 l1 l2 l3 l4 start root end room whole filled within es er ee e1 e2 e3 e4 =
      let cs : List ℕ = copies_bytes rd pf m n in
      let bs : List ℕ = blocks_bytes rd m n n in
      let ss : List ℕ = start_bytes start root end in
      let copies_length : length cs ≡ 16 * n = length_copies rd pf m n (omega arith) in
      let blocks_length : length bs ≡ 16 * before rd m n = length_blocks rd m n n in
      let start_length : length ss ≡ 80 = length_start start root end in
      let all : start_of rd m n + 5 ≡ m + (1 + written rd m n) = start_written in
      let count : start + 4 - m ≡ written rd m n = omega arith in
      let header : l1 ≡ put l0 0 (header_bytes rd m n) = e1 ∙ rw (count, es) in
      let p2 : l2 ≡ put l0 0 (header_bytes rd m n ++ cs) = e2 ∙ rw header (put_put l0 0 (header_bytes rd m n) cs 16 refl (omega (arith, room.room))) in
      let two : length (header_bytes rd m n ++ cs) ≡ 16 + 16 * n = length-append (header_bytes rd m n) cs ∙ omega arith in
      let p3 : l3 ≡ put l0 0 (header_bytes rd m n ++ cs ++ bs) =
      e3 ∙ rw p2 (put_put l0 0 (header_bytes rd m n ++ cs) bs (16 * (n + 1)) (omega arith) (omega (arith, room.room))) in
      let three : length (header_bytes rd m n ++ cs ++ bs) ≡ 16 + 16 * n + 16 * before rd m n = length-append (header_bytes rd m n ++ cs) bs ∙ omega arith in
      let end_is : end ≡ end_of rd m n (root_of pf) = ee ∙ rw er (filled.holds (root_of pf) (omega arith)) in
      let ss_is : ss ≡ lines_bytes rd (letters_of_start rd m n (root_of pf)) lines_of_start 5 = rw (es, er, end_is) (start_is rd m n (root_of pf)) in
      let p4 : l4 ≡ put l0 0 (header_bytes rd m n ++ cs ++ bs ++ ss) =
      e4 ∙ rw p3 (put_put l0 0 (header_bytes rd m n ++ cs ++ bs) ss (16 * (start - m)) (omega arith) (omega (arith, room.room))) in
      p4 ∙ rw (← ss_is) (ap (put l0 0) (simp append_assoc))

  -- what `put_derivation` returns
  pub bytes_many : (start : ℕ) → start ≡ start_of rd m n → 16 * (start + 5 - m) ≡ 16 * (1 + written rd m n)
  bytes_many start e = omega (arith, start_written)

-- The files that are ready, with their counts read.
module _ (ob pf buffer : List ℕ) (ready : Ready ob pf buffer) (m n : ℕ) (em : m ≡ count_of ob) (en : n ≡ count_of pf) where
  pub room_ready : Room (word ob pf m) m n buffer
  room_ready =
      let fits : 1 + written (word ob pf m) m n ≤ 64 * (n + 1) = written_fits (word ob pf m) m n in
      record { few = omega (arith, ready.few); count = omega (arith, ready.count); room = omega (arith, ready.room) }

  pub file_is : (l : List ℕ) → l ≡ put buffer 0 (file_bytes (word ob pf m) pf m n) → l ≡ put buffer 0 (derivation_bytes ob pf)
  unfolding file_bytes derivation_bytes
  file_is l e = e ∙ rw (em, en)

  pub written_is : (r : ℕ) → r ≡ 16 * (1 + written (word ob pf m) m n) → r ≡ 16 * (1 + written (word ob pf (count_of ob)) (count_of ob) (count_of pf))
  written_is r e = e ∙ rw (em, en)
