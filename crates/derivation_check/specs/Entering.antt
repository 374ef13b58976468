-- The walk over a pair that passes places 1 to 12, and the tables that it is lent.
use Rattle.std.specs.Prelude.{ℕ, zero, suc, ◌+◌, ◌<◌, ◌≤◌, ◌≡◌, refl, List, Bool, true, false, length, take}
use Rattle.std.proofs.Common.{sym, ap, ◌∙◌, length-take-le, arith}
use Rattle.std.proofs.lemmas.List.{length-replicate}
use borrow.Author.Tests.{eq-eqb, ne_eqb}
use Rattle.reader.specs.declared.Answer.{Answer}
use Rattle.reader.specs.Words.{Reader, word_of, word, record_count}
use Rattle.reader.specs.Tests.{if_eq}
use Rattle.reader.specs.Kinds.{is_rule}
use Rattle.reader.specs.Answers.{or_answer}
use Rattle.reader.specs.Places.{most_records, count_of, root_of, reading}
use Rattle.reader_bodies.specs.Places.{zeros}
use Rattle.reader_laws.specs.File.{ReadObligation, ReadSecond, beside, last_of, reading_parts, length_parts, header_parts, counts_parts}
use Rattle.reader_laws.specs.Parts.{bound_variable_first}
use Rattle.reader_laws.specs.Pair.{header_kind, pair_sound, rule_range, root_range, pair_goal_range, pair_hypotheses_range, pair_hypotheses_limit}
use Rattle.reader_laws.specs.Under.{under, root_under}
use Rattle.derivation_rules.specs.Check.{derivation_walk, derivation_answer}
use Rattle.derivation_trees.specs.Table.{Table}
use Rattle.derivation_closedness.specs.Reaches.{Indexed, Reached, Unmarked}
use Rattle.derivation_frames.specs.Frames.{state_of}
use Rattle.derivation_nodes.specs.Nodes.{Ready}
use Rattle.derivation_start.specs.Started.{Starting, Started}
use Rattle.derivation_walk.specs.Walked.{visit}
use Rattle.derivation_walk.specs.Turns.{Entering as Root}

-- the pair passes places 1 to 12, and the tables have their lengths
pub record Entering (ob s : List ℕ) (m : ℕ) (keys reaches frames : List ℕ) : Type 0 where
  pub read : (reading 2 ob s).refusal ≡ 0
  pub counted : m ≡ count_of ob
  pub all : length keys ≡ m + count_of s + 1
  pub far : length reaches ≡ m + count_of s + 1
  pub long : length frames ≡ 32776

-- tables with room for the records of any obligation and of derivation s, unless that is longer than any accepted one
pub record Lent (s keys reaches frames : List ℕ) : Type 0 where
  pub room : record_count s ≤ 200001 → 1023 + record_count s ≤ length keys
  pub far : record_count s ≤ 200001 → 1023 + record_count s ≤ length reaches
  pub small : length keys ≤ 201024
  pub long : length frames ≡ 32776

-- so many entries are room for them, and no more than the walk may be lent
pub record Sized (s : List ℕ) (size : ℕ) : Type 0 where
  pub room : record_count s ≤ 200001 → 1023 + record_count s ≤ size
  pub small : size ≤ 201024

-- Pairs that pass places 1 to 12.
module _ (ob s : List ℕ) (read : (reading 2 ob s).refusal ≡ 0) where
  both_read : ReadObligation ob × ReadSecond 2 ob s
  both_read = reading_parts 2 ob s read

  obligation_few : count_of ob < 1024
  unfolding most_records if_eq
  obligation_few =
      let a = length_parts 0 ob both_read.0.length_of in
      let b = header_parts ob both_read.0.header in
      omega (arith, a.2, b.1)

  derivation_counted : (record_count s ≤ 200001) × (count_of s + 1 ≡ record_count s)
  unfolding most_records if_eq
  derivation_counted = ((length_parts 2 s both_read.1.length_of).2, (header_parts s (counts_parts ob s both_read.1.counts).0).1)

  derivation_few : count_of s < 200001
  derivation_few = let few = derivation_counted in omega (arith, few.0, few.1)

-- The conditions of the calls of `walk_derivation`.
module _ (ob s : List ℕ) (m : ℕ) (keys reaches frames : List ℕ) (enter : Entering ob s m keys reaches frames) where
  pub enter_small : length keys ≤ 201024
  enter_small = omega (arith, enter.all, enter.counted, obligation_few ob s enter.read, derivation_few ob s enter.read)

  enter_last : length keys ≡ last_of ob s + 1
  enter_last = omega (arith, enter.all, enter.counted)

  same_reader : word ob s m ≡ beside ob s
  same_reader = ap (λ (x : ℕ). word ob s x) enter.counted

  pub enter_start : (table : List ℕ) → length table ≡ length keys → Table (word ob s m) table → Starting (word ob s m) table frames
  enter_start table l n =
      let p = both_read ob s enter.read in
      let goal = pair_goal_range 2 ob s p.0 p.1 in
      record {
        table = n;
        long = enter.long;
        chain = rw same_reader (omega (arith, enter_last, pair_hypotheses_range 2 ob s p.0 p.1));
        goal = rw same_reader (omega (arith, enter_last, goal.1));
        few = rw same_reader (pair_hypotheses_limit 2 ob s p.0 p.1);
      }

  pub enter_indexed : Indexed (word ob s m) (length reaches)
  enter_indexed = rw same_reader (record { low = λ i h e. go i h e })
    where
      go : (i : ℕ) → i < length reaches → beside ob s i 0 ≡ 9 → beside ob s i 1 < 64
      go zero h e = let one : beside ob s 0 0 ≡ 1 = header_kind ob s (both_read ob s enter.read).0 in absurd (omega arith)
      go (suc i) h e =
          let p = both_read ob s enter.read in
          let last : suc i ≤ last_of ob s = omega (arith, enter.far, enter.counted) in
          bound_variable_first 2 (beside ob s) (suc i) (pair_sound 2 ob s p.0 p.1 (suc i) (omega arith) last) e

  pub enter_ready : (table reached : List ℕ) → length table ≡ length keys → length reached ≡ length reaches → Table (word ob s m) table →
      Reached (word ob s m) reached (length reached) × Unmarked reached → Ready (word ob s m) table reached
  enter_ready table reached l k n r = record {
    tables = record { table = n; room = omega (arith, enter.all, enter.far); reached = r.0 };
    unmarked = r.1;
  }

  enter_header : is_rule 2 (word ob s m 0 0) ≡ false
  enter_header = rw same_reader (go (is_rule 2 (beside ob s 0 0)) refl)
    where
      go : (v : Bool) → is_rule 2 (beside ob s 0 0) ≡ v → v ≡ false
      go true e =
          let p = both_read ob s enter.read in
          absurd (omega (arith, (rule_range 2 ob s p.0 p.1 0 e).0))
      go false e = refl

  -- the root is to be entered
  pub enter_root : (table before after : List ℕ) (root : ℕ) → length table ≡ length keys → Table (word ob s m) table → Started (word ob s m) (length table) before after →
      root ≡ word_of s 0 2 → Root (word ob s m) table after 1 root 0
  enter_root table before after root l n started e =
      let p = both_read ob s enter.read in
      let most : under 2 (beside ob s) (root_of s) ≤ count_of s = root_under 2 ob s p.0 p.1 in
      record {
        here = record {
          table = n;
          small = omega (arith, enter_small);
          framed = started.framed;
          within = omega (arith, enter_last, (root_range 2 ob s p.0 p.1).1);
        };
        header = enter_header;
        rule = rw (e, same_reader) p.1.root;
        few = rw (e, same_reader) (omega (arith, derivation_few ob s enter.read));
      }

pub walked_from : (rd : Reader) (size : ℕ) (s before after : List ℕ) (root : ℕ) (r : Answer) → root ≡ word_of s 0 2 → Started rd size before after →
    r ≡ visit rd root (state_of rd after 1) 0 → r ≡ derivation_walk rd (root_of s)
unfolding derivation_walk visit
walked_from rd size s before after root r er started e = rw (← er, ← started.state) e

-- The ways out of `check_derivation`.
module _ (ob s : List ℕ) (a : Answer) (ea : a ≡ reading 2 ob s) where
  pub check_refused : (a.refusal ≡ 0 → ⊥) → a ≡ derivation_answer ob s
  unfolding derivation_answer or_answer
  check_refused h = simp (derivation_answer, or_answer, ← ea, ne_eqb a.refusal 0 h)

  module _ (z : a.refusal ≡ 0) where
    check_read : (reading 2 ob s).refusal ≡ 0
    check_read = ap (λ (x : Answer). x.refusal) (sym ea) ∙ z

    pub check_walked : (m : ℕ) (r : Answer) → m ≡ word_of ob 0 1 → r ≡ derivation_walk (word ob s m) (root_of s) → r ≡ derivation_answer ob s
    unfolding derivation_answer or_answer
    check_walked m r em e = simp (derivation_answer, or_answer, ← ea, eq-eqb a.refusal 0 z, ← em) e

    pub counts_few : (m n : ℕ) → m ≡ word_of ob 0 1 → n ≡ word_of s 0 1 → m + n + 1 ≤ 201024
    counts_few m n em en = omega (arith, obligation_few ob s check_read, derivation_few ob s check_read)

    -- the part of a table that the walk is lent
    part_within : (m n : ℕ) (table : List ℕ) → m ≡ word_of ob 0 1 → n ≡ word_of s 0 1 → (record_count s ≤ 200001 → 1023 + record_count s ≤ length table) → m + n + 1 ≤ length table
    part_within m n table em en room =
        let few = derivation_counted ob s check_read in
        omega (arith, obligation_few ob s check_read, few.1, room few.0)

    module _ (m n : ℕ) (em : m ≡ word_of ob 0 1) (en : n ≡ word_of s 0 1) (keys reaches frames : List ℕ) (lent : Lent s keys reaches frames) where
      pub keys_within : m + n + 1 ≤ length keys
      keys_within = part_within m n keys em en lent.room

      pub reaches_within : m + n + 1 ≤ length reaches
      reaches_within = part_within m n reaches em en lent.far

    pub entering : (m n size : ℕ) (keys reaches frames : List ℕ) → m ≡ word_of ob 0 1 → n ≡ word_of s 0 1 → size ≡ m + n + 1 → length keys ≡ size →
        length reaches ≡ size → length frames ≡ 32776 → Entering ob s m keys reaches frames
    entering m n size keys reaches frames em en es l f k =
        record { read = check_read; counted = em; all = l ∙ es ∙ rw en refl; far = f ∙ es ∙ rw en refl; long = k }

-- the part of a table that the walk is lent
pub prefix_length : (k : ℕ) (table : List ℕ) → k ≤ length table → length (take k table) ≡ k
prefix_length k table h = length-take-le k table h

-- Sizes for few records and for any number, and tables of zeros of such a size.
pub few_sized : (s : List ℕ) → record_count s ≤ 3073 → Sized s 4096
few_sized s h = record { room = λ p. omega arith; small = omega arith }

pub many_sized : (s : List ℕ) → Sized s 201024
many_sized s = record { room = λ p. omega arith; small = omega arith }

pub zeros_lent : (s frames : List ℕ) (n : ℕ) → Sized s n → length frames ≡ 32776 → Lent s (zeros n) (zeros n) frames
zeros_lent s frames n sized long =
    let e : length (zeros n) ≡ n = length-replicate {A = ℕ} n 0 in
    let all : record_count s ≤ 200001 → 1023 + record_count s ≤ length (zeros n) = λ p. rw e (sized.room p) in
    record { room = all; far = all; small = rw e sized.small; long = long }
