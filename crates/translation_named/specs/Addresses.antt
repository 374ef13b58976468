-- Where the blocks stand: after the copied records, one after the other, and the start's block after them.
use Prim.Native.Nat.{ℕ, zero, suc, ◌+◌, ◌-◌, ◌<◌, ◌≤◌}
use Rattle.std.specs.Prelude.{◌≡◌, Bool, ◌⊎◌, length}
use Rattle.std.proofs.Math.Path.{refl, ap}
use Rattle.std.proofs.Math.Bool.{true, false}
use Rattle.std.proofs.Math.Logic.{inl, inr}
use Rattle.std.proofs.Math.Dec.{ltb}
use native.Mathlib.Omega.{arith}
use borrow.Author.Tests.{ltb-true, ltb-false}
use Rattle.reader.specs.Words.{Reader}
use Rattle.reader.specs.Kinds.{is_rule}
use Rattle.reader_laws.specs.Scan.{when_true, when_false}
use Rattle.translation_rules.specs.Templates.{template}
use Rattle.translation_rules.specs.Output.{size, before, base_of, end_of, start_of, written}
use Rattle.translation_named.specs.Cells.{template_sound}

-- a record of the block of a rule node
pub record InBlock (rd : Reader) (m n r : ℕ) : Type 0 where
  pub node : ℕ
  pub place : ℕ
  pub after : m < node
  pub within : node ≤ m + n
  pub rule : is_rule 1 (rd node 0) ≡ true
  pub inside : place < size rd node
  pub at : r ≡ base_of rd m n node + place

-- a record of the start's block
pub record InStart (rd : Reader) (m n r : ℕ) : Type 0 where
  pub place : ℕ
  pub inside : place < 5
  pub at : r ≡ start_of rd m n + place

-- the size of a block
pub size_rule : (rd : Reader) (i : ℕ) → is_rule 1 (rd i 0) ≡ true → size rd i ≡ length (template (rd i 0))
unfolding size
size_rule rd i h = when_true (length (template (rd i 0))) 0 (is_rule 1 (rd i 0)) h

pub size_none : (rd : Reader) (i : ℕ) → is_rule 1 (rd i 0) ≡ false → size rd i ≡ 0
unfolding size
size_none rd i h = when_false (length (template (rd i 0))) 0 (is_rule 1 (rd i 0)) h

pub size_some : (rd : Reader) (i : ℕ) → is_rule 1 (rd i 0) ≡ true → 0 < size rd i
size_some rd i h = omega (arith, size_rule rd i h, (template_sound (rd i 0) h).some)

module _ (rd : Reader) (m n : ℕ) where
  before_grows : (c d : ℕ) → before rd m c ≤ before rd m (c + d)
  unfolding before
  before_grows c zero = let same : c + 0 ≡ c = omega arith in rw same (omega arith)
  before_grows c (suc d) = let same : c + suc d ≡ suc (c + d) = omega arith in let rest = before_grows c d in rw same (omega arith)

  -- the block of record m + c + 1
  pub base_is : (c : ℕ) → base_of rd m n (m + suc c) ≡ m + n + 1 + before rd m c
  unfolding base_of
  base_is c = let same : m + suc c - (m + 1) ≡ c = omega arith in ap (λ (k : ℕ). m + n + 1 + before rd m k) same

  -- a block ends where the next starts
  block_end : (c : ℕ) → base_of rd m n (m + suc c) + size rd (m + suc c) ≡ m + n + 1 + before rd m (suc c)
  unfolding before
  block_end c = let here = base_is c in omega arith

  -- blocks stand after the copied records
  pub base_after : (i : ℕ) → m + n < base_of rd m n i
  unfolding base_of
  base_after i = omega arith

  -- a block ends before any later one
  pub base_grows : (i j : ℕ) → m < i → i < j → base_of rd m n i + size rd i ≤ base_of rd m n j
  base_grows i j p q =
      let first : m + suc (i - (m + 1)) ≡ i = omega arith in
      let second : m + suc (j - (m + 1)) ≡ j = omega arith in
      let gap : suc (i - (m + 1)) + (j - (i + 1)) ≡ j - (m + 1) = omega arith in
      let ends : base_of rd m n i + size rd i ≡ m + n + 1 + before rd m (suc (i - (m + 1))) = rw first at (block_end (i - (m + 1))) in
      let starts : base_of rd m n j ≡ m + n + 1 + before rd m (j - (m + 1)) = rw second at (base_is (j - (m + 1))) in
      let grows : before rd m (suc (i - (m + 1))) ≤ before rd m (j - (m + 1)) = rw gap at (before_grows (suc (i - (m + 1))) (j - (i + 1))) in
      omega arith

  -- and before the start's
  pub base_start : (i : ℕ) → m < i → i ≤ m + n → base_of rd m n i + size rd i ≤ start_of rd m n
  unfolding start_of
  base_start i p q =
      let first : m + suc (i - (m + 1)) ≡ i = omega arith in
      let gap : suc (i - (m + 1)) + (m + n - i) ≡ n = omega arith in
      let ends : base_of rd m n i + size rd i ≡ m + n + 1 + before rd m (suc (i - (m + 1))) = rw first at (block_end (i - (m + 1))) in
      let grows : before rd m (suc (i - (m + 1))) ≤ before rd m n = rw gap at (before_grows (suc (i - (m + 1))) (m + n - i)) in
      omega arith

  -- the concluding node is the last of the block
  pub end_is : (i : ℕ) → is_rule 1 (rd i 0) ≡ true → end_of rd m n i + 1 ≡ base_of rd m n i + size rd i
  unfolding end_of
  end_is i h = let some = size_some rd i h in omega arith

  -- where a record after the copied ones stands
  in_blocks : (c r : ℕ) → c ≤ n → m + n < r → r ≤ m + n + before rd m c → InBlock rd m n r
  unfolding before
  in_blocks zero r h p q = absurd (omega arith)
  in_blocks (suc c) r h p q = go (ltb (m + n + before rd m c) r) refl (λ t. in_blocks c r (omega arith) p t)
    where
      go : (b : Bool) → ltb (m + n + before rd m c) r ≡ b → (r ≤ m + n + before rd m c → InBlock rd m n r) → InBlock rd m n r
      go false e rest = rest (ltb-false (m + n + before rd m c) r e)
      go true e rest =
          let past : m + n + before rd m c < r = ltb-true (m + n + before rd m c) r e in
          here past (is_rule 1 (rd (m + suc c) 0)) refl
        where
          here : m + n + before rd m c < r → (b : Bool) → is_rule 1 (rd (m + suc c) 0) ≡ b → InBlock rd m n r
          here past false none = let empty = size_none rd (m + suc c) none in absurd (omega arith)
          here past true rule =
              let starts = base_is c in
              record {
                node = m + suc c;
                place = r - (m + n + 1 + before rd m c);
                after = omega arith;
                within = omega arith;
                rule = rule;
                inside = omega arith;
                at = omega arith;
              }

  pub locate : (r : ℕ) → m + n < r → r ≤ m + written rd m n → InBlock rd m n r ⊎ InStart rd m n r
  unfolding written start_of
  locate r p q = go (ltb (m + n + before rd m n) r) refl
    where
      go : (b : Bool) → ltb (m + n + before rd m n) r ≡ b → InBlock rd m n r ⊎ InStart rd m n r
      go false e = let within = ltb-false (m + n + before rd m n) r e in inl (in_blocks n r (omega arith) p within)
      go true e =
          let past = ltb-true (m + n + before rd m n) r e in
          inr (record { place = r - (m + n + 1 + before rd m n); inside = omega arith; at = omega arith })
