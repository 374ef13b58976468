-- Where the records of the translation stand: the blocks follow each other without gaps, and every record after the proof's own is of one block, at one
-- offset, or of the start's block.
use Prim.Native.Nat.{ℕ, zero, suc, ◌+◌, ◌*◌, ◌-◌, ◌<◌, ◌≤◌}
use Rattle.std.specs.Prelude.{◌≡◌, Bool, ◌⊎◌}
use Rattle.std.proofs.Math.Path.{refl, ap}
use Rattle.std.proofs.Common.{sym, ◌∙◌}
use Rattle.std.proofs.Math.Bool.{true, false}
use Rattle.std.proofs.Math.Logic.{inl, inr}
use Rattle.std.proofs.Math.Dec.{ltb}
use Rattle.std.proofs.Math.ListN.{length}
use native.Mathlib.Omega.{arith}
use borrow.Author.Tests.{ltb-true, ltb-false}
use Rattle.reader.specs.Words.{Reader}
use Rattle.reader.specs.Tests.{if_eq}
use Rattle.reader.specs.Kinds.{is_rule}
use Rattle.reader_laws.specs.Scan.{when_true, when_false, between_parts}
use Rattle.reader_laws.specs.Sums.{sum_to}
use Rattle.reader_laws.specs.Under.{one_rule}
use Rattle.translation_rules.specs.Templates.{template}
use Rattle.translation_rules.specs.Output.{size, before, base_of, end_of, start_of, written}
use Rattle.translation_addresses.proofs.Sizes.{template_sized}

-- Sizes.

-- the rules of a proof are kinds 32 to 46
proof_rule : (k : ℕ) → is_rule 1 k ≡ true → (32 ≤ k) × (k ≤ 46)
unfolding is_rule if_eq
proof_rule k h = between_parts 32 46 k h

module _ (rd : Reader) where
  pub size_rule : (i : ℕ) → is_rule 1 (rd i 0) ≡ true → (size rd i ≡ length (template (rd i 0))) × (1 ≤ size rd i) × (size rd i ≤ 21)
  unfolding size
  size_rule i h =
      let k = proof_rule (rd i 0) h in
      let s = template_sized (rd i 0) k.0 k.1 in
      let same : size rd i ≡ length (template (rd i 0)) = when_true (length (template (rd i 0))) 0 (is_rule 1 (rd i 0)) h in
      (same, omega (arith, s.least), omega (arith, s.most))

  pub size_other : (i : ℕ) → is_rule 1 (rd i 0) ≡ false → size rd i ≡ 0
  unfolding size
  size_other i h = when_false (length (template (rd i 0))) 0 (is_rule 1 (rd i 0)) h

  -- a block that has a record is that of a rule node
  pub size_given : (i : ℕ) → 0 < size rd i → is_rule 1 (rd i 0) ≡ true
  size_given i h = go (is_rule 1 (rd i 0)) refl
    where
      go : (b : Bool) → is_rule 1 (rd i 0) ≡ b → b ≡ true
      go true e = refl
      go false e = let none : size rd i ≡ 0 = size_other i e in absurd (omega arith)

  size_most : (i : ℕ) → size rd i ≤ 21
  size_most i = go (is_rule 1 (rd i 0)) refl
    where
      go : (b : Bool) → is_rule 1 (rd i 0) ≡ b → size rd i ≤ 21
      go true e = (size_rule i e).2
      go false e = let none : size rd i ≡ 0 = size_other i e in omega arith

  -- at most 21 records for a rule node, and none for another record
  size_rules : (i : ℕ) → size rd i ≤ 21 * one_rule 1 rd i
  size_rules i = go (is_rule 1 (rd i 0)) refl
    where
      go : (b : Bool) → is_rule 1 (rd i 0) ≡ b → size rd i ≤ 21 * one_rule 1 rd i
      go true e = let one : one_rule 1 rd i ≡ 1 = when_true 1 0 (is_rule 1 (rd i 0)) e in omega (arith, (size_rule i e).2)
      go false e = omega (arith, size_other i e)

-- Sums of sizes.
module _ (rd : Reader) (m : ℕ) where
  before_step : (c : ℕ) → before rd m (suc c) ≡ before rd m c + size rd (m + suc c)
  unfolding before
  before_step c = refl

  -- up to the block of record i, and with it
  before_with : (i : ℕ) → m < i → before rd m (i - m) ≡ before rd m (i - (m + 1)) + size rd i
  before_with i h =
      let next : suc (i - (m + 1)) ≡ i - m = omega arith in
      let own : m + suc (i - (m + 1)) ≡ i = omega arith in
      ap (before rd m) (sym next) ∙ before_step (i - (m + 1)) ∙ ap (λ (x : ℕ). before rd m (i - (m + 1)) + size rd x) own

  before_more : (c d : ℕ) → before rd m c ≤ before rd m (c + d)
  before_more c zero = let same : before rd m (c + 0) ≡ before rd m c = ap (before rd m) (omega arith) in omega arith
  before_more c (suc d) =
      let less : before rd m c ≤ before rd m (c + d) = before_more c d in
      let next : c + suc d ≡ suc (c + d) = omega arith in
      let step : before rd m (c + suc d) ≡ before rd m (c + d) + size rd (m + suc (c + d)) = ap (before rd m) next ∙ before_step (c + d) in
      omega arith

  -- more blocks have no fewer records
  before_grows : (c d : ℕ) → c ≤ d → before rd m c ≤ before rd m d
  before_grows c d h =
      let more : before rd m c ≤ before rd m (c + (d - c)) = before_more c (d - c) in
      let same : before rd m (c + (d - c)) ≡ before rd m d = ap (before rd m) (omega arith) in
      omega arith

  before_most : (c : ℕ) → before rd m c ≤ 21 * c
  unfolding before
  before_most zero = omega arith
  before_most (suc c) =
      let less : before rd m c ≤ 21 * c = before_most c in let own : size rd (m + suc c) ≤ 21 = size_most rd (m + suc c) in omega arith

  -- at most 21 for each rule node
  before_rules : (c : ℕ) → before rd m c ≤ 21 * sum_to (one_rule 1 rd) (m + c)
  unfolding before sum_to
  before_rules zero = omega arith
  before_rules (suc c) =
      let same : m + suc c ≡ suc (m + c) = omega arith in
      let split : sum_to (one_rule 1 rd) (m + suc c) ≡ one_rule 1 rd (m + suc c) + sum_to (one_rule 1 rd) (m + c) =
      ap (sum_to (one_rule 1 rd)) same ∙ ap (λ (x : ℕ). one_rule 1 rd x + sum_to (one_rule 1 rd) (m + c)) (sym same) in
      omega (arith, before_rules c, size_rules rd (m + suc c))

  -- a number below the sum falls into one summand
  record Falls (c q : ℕ) : Type 0 where
    block : ℕ
    offset : ℕ
    after : m < block
    within : block ≤ m + c
    inside : offset < size rd block
    is : q ≡ before rd m (block - (m + 1)) + offset

  falls : (c q : ℕ) → q < before rd m c → Falls c q
  unfolding before
  falls zero q h = absurd (omega arith)
  falls (suc c) q h = go (ltb q (before rd m c)) refl (λ less. falls c q less)
    where
      go : (b : Bool) → ltb q (before rd m c) ≡ b → (q < before rd m c → Falls c q) → Falls (suc c) q
      go true e below =
          let f = below (ltb-true q (before rd m c) e) in
          record { block = f.block; offset = f.offset; after = f.after; within = omega (arith, f.within); inside = f.inside; is = f.is }
      go false e below =
          let least : before rd m c ≤ q = ltb-false q (before rd m c) e in
          let own : m + suc c - (m + 1) ≡ c = omega arith in
          let same : before rd m (m + suc c - (m + 1)) ≡ before rd m c = ap (before rd m) own in
          let step : before rd m (suc c) ≡ before rd m c + size rd (m + suc c) = before_step c in
          record {
            block = m + suc c;
            offset = q - before rd m c;
            after = omega arith;
            within = omega arith;
            inside = omega arith;
            is = omega arith;
          }

-- The proof's records are m + 1 to m + n.
module _ (rd : Reader) (m n : ℕ) where
  -- every block comes after the proof's own records
  pub base_after : (i : ℕ) → m + n + 1 ≤ base_of rd m n i
  unfolding base_of
  base_after i = omega arith

  -- a block ends before that of a later record starts
  pub base_grows : (i j : ℕ) → m < i → i < j → j ≤ m + n → base_of rd m n i + size rd i ≤ base_of rd m n j
  unfolding base_of
  base_grows i j p q h =
      let own : before rd m (i - m) ≡ before rd m (i - (m + 1)) + size rd i = before_with rd m i p in
      let less : before rd m (i - m) ≤ before rd m (j - (m + 1)) = before_grows rd m (i - m) (j - (m + 1)) (omega arith) in
      omega arith

  -- and before the start's block does
  pub base_start : (i : ℕ) → m < i → i ≤ m + n → base_of rd m n i + size rd i ≤ start_of rd m n
  unfolding base_of start_of
  base_start i p h =
      let own : before rd m (i - m) ≡ before rd m (i - (m + 1)) + size rd i = before_with rd m i p in
      let less : before rd m (i - m) ≤ before rd m n = before_grows rd m (i - m) n (omega arith) in
      omega arith

  -- The concluding node of a rule node is the last record of its block.
  pub end_is : (i : ℕ) → is_rule 1 (rd i 0) ≡ true → end_of rd m n i + 1 ≡ base_of rd m n i + size rd i
  unfolding end_of
  end_is i h = let some : 1 ≤ size rd i = (size_rule rd i h).1 in omega arith

  pub end_after : (x : ℕ) → is_rule 1 (rd x 0) ≡ true → m + n < end_of rd m n x
  end_after x h =
      let same : end_of rd m n x + 1 ≡ base_of rd m n x + size rd x = end_is x h in
      let some : 1 ≤ size rd x = (size_rule rd x h).1 in
      let least : m + n + 1 ≤ base_of rd m n x = base_after x in
      omega arith

  pub end_below : (x i : ℕ) → m < x → x < i → i ≤ m + n → is_rule 1 (rd x 0) ≡ true → end_of rd m n x < base_of rd m n i
  end_below x i p q h r =
      let same : end_of rd m n x + 1 ≡ base_of rd m n x + size rd x = end_is x r in
      let grows : base_of rd m n x + size rd x ≤ base_of rd m n i = base_grows x i p q h in
      omega arith

  pub end_start : (x : ℕ) → m < x → x ≤ m + n → is_rule 1 (rd x 0) ≡ true → end_of rd m n x < start_of rd m n
  end_start x p h r =
      let same : end_of rd m n x + 1 ≡ base_of rd m n x + size rd x = end_is x r in
      let grows : base_of rd m n x + size rd x ≤ start_of rd m n = base_start x p h in
      omega arith

  -- the last record is the start's concluding node
  pub last_is : m + written rd m n ≡ start_of rd m n + 4
  unfolding written start_of
  last_is = omega arith

  -- record r is record `offset` of the block of rule node `block`
  pub record InBlock (r : ℕ) : Type 0 where
    pub block : ℕ
    pub offset : ℕ
    pub after : m < block
    pub within : block ≤ m + n
    pub rule : is_rule 1 (rd block 0) ≡ true
    pub inside : offset < size rd block
    pub is : r ≡ base_of rd m n block + offset

  -- record r is record `offset` of the start's block
  pub record InStart (r : ℕ) : Type 0 where
    pub offset : ℕ
    pub inside : offset < 5
    pub is : r ≡ start_of rd m n + offset

  -- every record after the proof's own is of a block
  pub locate : (r : ℕ) → m + n < r → r ≤ m + written rd m n → InBlock r ⊎ InStart r
  unfolding base_of start_of written
  locate r p h = go (ltb (r - (m + n + 1)) (before rd m n)) refl
    where
      go : (b : Bool) → ltb (r - (m + n + 1)) (before rd m n) ≡ b → InBlock r ⊎ InStart r
      go true e =
          let f = falls rd m n (r - (m + n + 1)) (ltb-true (r - (m + n + 1)) (before rd m n) e) in
          inl (record {
            block = f.block;
            offset = f.offset;
            after = f.after;
            within = f.within;
            rule = size_given rd f.block (omega (arith, f.inside));
            inside = f.inside;
            is = omega (arith, f.is);
          })
      go false e =
          let least : before rd m n ≤ r - (m + n + 1) = ltb-false (r - (m + n + 1)) (before rd m n) e in
          inr (record { offset = r - (m + n + 1 + before rd m n); inside = omega arith; is = omega arith })

  -- no block overlaps that of a later record
  blocks_apart : (i j o p : ℕ) → m < i → i < j → j ≤ m + n → o < size rd i → base_of rd m n i + o ≡ base_of rd m n j + p → ⊥
  blocks_apart i j o p a b c s e = let grows : base_of rd m n i + size rd i ≤ base_of rd m n j = base_grows i j a b c in omega arith

  -- two records of blocks at one address are the same
  pub same_block : (i j o p : ℕ) → m < i → i ≤ m + n → m < j → j ≤ m + n → o < size rd i → p < size rd j →
      base_of rd m n i + o ≡ base_of rd m n j + p → (i ≡ j) × (o ≡ p)
  same_block i j o p a b c d s t e = go (ltb i j) refl (ltb j i) refl
    where
      go : (x : Bool) → ltb i j ≡ x → (y : Bool) → ltb j i ≡ y → (i ≡ j) × (o ≡ p)
      go true l y k = absurd (blocks_apart i j o p a (ltb-true i j l) d s e)
      go false l true k = absurd (blocks_apart j i p o c (ltb-true j i k) b t (sym e))
      go false l false k =
          let less : j ≤ i = ltb-false i j l in
          let more : i ≤ j = ltb-false j i k in
          let same : i ≡ j = omega arith in
          let bases : base_of rd m n i ≡ base_of rd m n j = ap (base_of rd m n) same in
          (same, omega arith)

  -- no block overlaps the start's
  pub apart : (i o p : ℕ) → m < i → i ≤ m + n → o < size rd i → base_of rd m n i + o ≡ start_of rd m n + p → ⊥
  apart i o p a b s e = let ends : base_of rd m n i + size rd i ≤ start_of rd m n = base_start i a b in omega arith

  -- a record of the proof becomes at most 22, itself and its block
  pub written_most : written rd m n ≤ 22 * n + 5
  unfolding written
  written_most = let most : before rd m n ≤ 21 * n = before_most rd m n in omega arith

  -- so the derivation has room in 64 records for each of the proof's
  pub written_fits : 1 + written rd m n ≤ 64 * (n + 1)
  written_fits = let most : written rd m n ≤ 22 * n + 5 = written_most in omega arith

  -- beside the proof's own records and five for the start, at most 21 for each rule node
  pub written_rules : written rd m n ≤ n + 21 * sum_to (one_rule 1 rd) (m + n) + 5
  unfolding written
  written_rules = omega (arith, before_rules rd m n)
