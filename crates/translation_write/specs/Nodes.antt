-- The blocks of all records, one after the other, and that the table of ends serves for their conclusions.
use Prim.Native.Nat.{ℕ, zero, suc, ◌+◌, ◌*◌, ◌-◌, ◌<◌, ◌≤◌}
use Rattle.std.specs.Prelude.{◌≡◌, Bool, false, not}
use Rattle.std.proofs.Math.Path.{refl, ap}
use Rattle.std.proofs.Common.{sym, ◌∙◌}
use mathlib.Core.List.{List, []}
use Rattle.std.proofs.Math.Bool.{true}
use Rattle.std.proofs.Math.ListN.{get_or, length, length-append}
use Rattle.std.proofs.Math.Numerals.{add-one}
use native.Mathlib.Omega.{arith}
use Rattle.std.proofs.lemmas.Bool.{not-true, not-false}
use Rattle.reader.specs.Words.{Reader}
use Rattle.reader.specs.Tests.{if_true}
use Rattle.reader.specs.TestLaws.{true_yes, true_no}
use Rattle.reader.specs.Kinds.{modes, is_rule}
use Rattle.reader.specs.Trees.{lower}
use Rattle.reader.specs.Chains.{items, premises}
use Rattle.reader.specs.TreeLaws.{lower_below}
use Rattle.reader_chains.specs.Shapes.{lower_zero}
use Rattle.reader_chains.specs.Chains.{link_at, item_at, link_first, link_after, item_items}
use Rattle.translation_rules.specs.Templates.{Cell, none, part, inside, deeper, type_inside, bottom, own, conclusion, Line, template}
use Rattle.translation_rules.specs.Output.{Letters, value, no_line, size, before, base_of, end_of, start_of, written, letters_of}
use Rattle.translation_rules.specs.Bytes.{line_bytes, lines_bytes, block_bytes, blocks_bytes}
use Rattle.translation_addresses.proofs.Addresses.{size_rule, size_other, base_after, base_start, end_is, last_is, written_most}
use Rattle.translation_values.specs.Values.{letters_in}
use Rattle.translation_values.specs.Ends.{Ends}
use Rattle.translation_write.specs.Put.{put, put_nothing, put_put}
use Rattle.translation_write.specs.Blocks.{Place, block_lines, length_lines}

-- Items of chains are smaller than the chain's record.
module _ (rd : Reader) where
  lower_most : (i w : ℕ) → lower rd i w ≤ i
  lower_most zero w = let none : lower rd 0 w ≡ 0 = lower_zero rd w in omega arith
  lower_most (suc i) w = let less : lower rd (suc i) w < suc i = lower_below rd (suc i) w (omega arith) in omega arith

  link_most : (j c : ℕ) → link_at rd c j ≤ c
  link_most zero c = let first : link_at rd c 0 ≡ c = link_first rd c in omega arith
  link_most (suc j) c =
      let next : link_at rd c (suc j) ≡ link_at rd (lower rd c 3) j = link_after rd c j in
      let rest : link_at rd (lower rd c 3) j ≤ lower rd c 3 = link_most j (lower rd c 3) in
      let less : lower rd c 3 ≤ c = lower_most c 3 in
      omega arith

  premise_below : (i j : ℕ) → 0 < i → get_or (premises rd i) j 0 < i
  unfolding premises item_at
  premise_below i j h =
      let is : item_at rd (lower rd i 2) j ≡ get_or (items rd (lower rd i 2)) j 0 = item_items rd j (lower rd i 2) in
      let item : item_at rd (lower rd i 2) j ≤ link_at rd (lower rd i 2) j = lower_most (link_at rd (lower rd i 2) j) 1 in
      let link : link_at rd (lower rd i 2) j ≤ lower rd i 2 = link_most j (lower rd i 2) in
      let less : lower rd i 2 < i = lower_below rd i 2 h in
      omega arith

-- The bytes of lines by the values of their cells.
module _ (rd : Reader) (a b : Letters) (same : (x : Cell) → value rd a x ≡ value rd b x) where
  same_line : (x : Line) → line_bytes rd a x ≡ line_bytes rd b x
  same_line x = rw (same x.first, same x.second, same x.third)

  same_lines : (lines : List Line) (r : ℕ) → lines_bytes rd a lines r ≡ lines_bytes rd b lines r
  unfolding lines_bytes
  same_lines lines zero = refl
  same_lines lines (suc r) = rw (same_lines lines r, same_line (get_or lines r no_line))

-- The proof's records are m + 1 to m + n: the buffer has room for what they become.
pub record Room (rd : Reader) (m n : ℕ) (buffer : List ℕ) : Type 0 where
  pub few : m < 1024
  pub count : n ≤ 3072
  pub room : 16 * (1 + written rd m n) ≤ length buffer

pub room_kept : (rd : Reader) (m n : ℕ) (old now : List ℕ) → length now ≡ length old → Room rd m n old → Room rd m n now
room_kept rd m n old now e p = record { few = p.few; count = p.count; room = rw e p.room }

module _ (rd : Reader) (m n : ℕ) (table : List ℕ) (filled : Ends rd m n table (m + n + 1)) where
  -- the table serves for the conclusions of record i's premises
  same_values : (i : ℕ) → 0 < i → i ≤ m + n → (x : Cell) → value rd (letters_in rd table i (base_of rd m n i)) x ≡ value rd (letters_of rd m n i) x
  unfolding value
  same_values i p h none = refl
  same_values i p h (part j) = refl
  same_values i p h (inside w) = refl
  same_values i p h deeper = refl
  same_values i p h type_inside = refl
  same_values i p h bottom = refl
  same_values i p h (own r) = refl
  same_values i p h (conclusion j) =
      let less : get_or (premises rd i) j 0 < i = premise_below rd i j p in filled.holds (get_or (premises rd i) j 0) (omega arith)

  module _ (i : ℕ) (after : m < i) (within : i ≤ m + n) where
    -- What `put_node` reads off the table.
    module _ (k : ℕ) (b : Bool) (ek : k ≡ rd i 0) (eb : b ≡ is_rule modes.proof k) where
      is_rule_lem : not b ≡ false → is_rule modes.proof (rd i 0) ≡ true
      is_rule_lem h = rw (← ek) (sym eb ∙ not-false b h)

      module _ (yes : not b ≡ false) (count end : ℕ) (ec : count ≡ length (template k)) (ee : end ≡ get_or table i 0) where
        count_size : count ≡ size rd i
        count_size = ec ∙ ap (λ (x : ℕ). length (template x)) ek ∙ sym (size_rule rd i (is_rule_lem yes)).0

        end_base : end + 1 ≡ base_of rd m n i + size rd i
        end_base =
            let e : end ≡ end_of rd m n i = ee ∙ filled.holds i (omega arith) in
            let is : end_of rd m n i + 1 ≡ base_of rd m n i + size rd i = end_is rd m n i (is_rule_lem yes) in
            omega arith

        pub base_is : end + 1 - count ≡ base_of rd m n i
        base_is = omega (arith, count_size, end_base)

        pub base_fits : (buffer : List ℕ) → Room rd m n buffer → (end + 1 < 18446744073709551616) × (count ≤ end + 1)
        base_fits buffer p =
            let most : base_of rd m n i + size rd i ≤ start_of rd m n = base_start rd m n i after within in
            let last : m + written rd m n ≡ start_of rd m n + 4 = last_is rd m n in
            let all : written rd m n ≤ 22 * n + 5 = written_most rd m n in
            (omega (arith, end_base, p.few, p.count), omega (arith, count_size, end_base))

        pub place_is : (buffer : List ℕ) → Room rd m n buffer → Place rd m i (end + 1 - count) buffer
        place_is buffer p =
            let most : base_of rd m n i + size rd i ≤ start_of rd m n = base_start rd m n i after within in
            let last : m + written rd m n ≡ start_of rd m n + 4 = last_is rd m n in
            let all : written rd m n ≤ 22 * n + 5 = written_most rd m n in
            let least : m + n + 1 ≤ base_of rd m n i = base_after rd m n i in
            let lines : size rd i ≡ length (template (rd i 0)) = (size_rule rd i (is_rule_lem yes)).0 in
            rw base_is
            (record {
              rule = is_rule_lem yes;
              after = omega arith;
              small = omega (arith, p.few, p.count);
              room = omega (arith, p.room);
            })

        -- The ways out of `put_node`.
        pub node_rule : (old l : List ℕ) → l ≡ put old (16 * (end + 1 - count - m)) (block_lines rd table i (end + 1 - count) (length (template (rd i 0)))) →
            l ≡ put old (16 * (base_of rd m n i - m)) (block_bytes rd m n i)
        unfolding block_bytes block_lines
        node_rule old l e =
            let lines = same_lines rd (letters_in rd table i (base_of rd m n i)) (letters_of rd m n i) (same_values i (omega arith) within) (template (rd i 0)) (length (template (rd i 0))) in
            (rw base_is at e)
            ∙ ap (put old (16 * (base_of rd m n i - m))) (lines ∙ true_yes (is_rule modes.proof (rd i 0)) true _ _ _ (sym (is_rule_lem yes)) refl refl)

      pub node_other : (old : List ℕ) → not b ≡ true → old ≡ put old (16 * (base_of rd m n i - m)) (block_bytes rd m n i)
      unfolding block_bytes
      node_other old h =
          put_nothing old (16 * (base_of rd m n i - m))
          ∙ ap (put old (16 * (base_of rd m n i - m)))
          (true_no (is_rule modes.proof (rd i 0)) b _ _ _ (eb ∙ ap (is_rule modes.proof) ek) (not-true b h) refl)

-- The loop of `put_blocks`.
module _ (rd : Reader) (m n : ℕ) where
  length_block : (i : ℕ) → length (block_bytes rd m n i) ≡ 16 * size rd i
  unfolding block_bytes if_true
  length_block i = go (is_rule modes.proof (rd i 0)) refl
    where
      lines : List ℕ
      lines = lines_bytes rd (letters_of rd m n i) (template (rd i 0)) (length (template (rd i 0)))

      go : (b : Bool) → is_rule modes.proof (rd i 0) ≡ b → length {A = ℕ} (elim b as (λ x. List ℕ) [ true ↦ lines | false ↦ [] ]) ≡ 16 * size rd i
      go true e =
          length_lines rd (letters_of rd m n i) (template (rd i 0)) (length (template (rd i 0))) ∙ ap (λ (x : ℕ). 16 * x) (sym (size_rule rd i e).0)
      go false e = let none : size rd i ≡ 0 = size_other rd i e in omega arith

  pub length_blocks : (c : ℕ) → length (blocks_bytes rd m n c) ≡ 16 * before rd m c
  unfolding blocks_bytes before
  length_blocks zero = refl
  length_blocks (suc c) =
      length-append (blocks_bytes rd m n c) (block_bytes rd m n (m + suc c)) ∙ omega (arith, length_blocks c, length_block (m + suc c))

  pub blocks_none : (old : List ℕ) (at : ℕ) → old ≡ put old at (blocks_bytes rd m n 0)
  unfolding blocks_bytes
  blocks_none old at = put_nothing old at

  pub blocks_more : (old l now : List ℕ) (c : ℕ) → Room rd m n old → c < n → l ≡ put old (16 * (n + 1)) (blocks_bytes rd m n c) →
      now ≡ put l (16 * (base_of rd m n (m + c + 1) - m)) (block_bytes rd m n (m + c + 1)) → now ≡ put old (16 * (n + 1)) (blocks_bytes rd m n (c + 1))
  unfolding blocks_bytes base_of
  blocks_more old l now c p h e e1 =
      let own : m + c + 1 ≡ m + suc c = omega arith in
      let here : m + suc c - (m + 1) ≡ c = omega arith in
      let most : base_of rd m n (m + suc c) + size rd (m + suc c) ≤ start_of rd m n = base_start rd m n (m + suc c) (omega arith) (omega arith) in
      let last : m + written rd m n ≡ start_of rd m n + 4 = last_is rd m n in
      let own_base : base_of rd m n (m + suc c) ≡ m + n + 1 + before rd m c = ap (λ (x : ℕ). m + n + 1 + before rd m x) here in
      let size_of : length (block_bytes rd m n (m + suc c)) ≡ 16 * size rd (m + suc c) = length_block (m + suc c) in
      let length_of : length (blocks_bytes rd m n c) ≡ 16 * before rd m c = length_blocks c in
      let written_so : now ≡ put l (16 * (base_of rd m n (m + suc c) - m)) (block_bytes rd m n (m + suc c)) =
      e1 ∙ ap (λ (x : ℕ). put l (16 * (base_of rd m n x - m)) (block_bytes rd m n x)) own in
      written_so
      ∙ rw (e, add-one c)
      (put_put old (16 * (n + 1)) (blocks_bytes rd m n c) (block_bytes rd m n (m + suc c)) (16 * (base_of rd m n (m + suc c) - m))
      (omega arith) (omega (arith, p.room)))

  pub blocks_end : (old l : List ℕ) (at c : ℕ) → c ≤ n → n ≤ c → l ≡ put old at (blocks_bytes rd m n c) → l ≡ put old at (blocks_bytes rd m n n)
  blocks_end old l at c p q e = let same : c ≡ n = omega arith in e ∙ ap (λ (x : ℕ). put old at (blocks_bytes rd m n x)) same
