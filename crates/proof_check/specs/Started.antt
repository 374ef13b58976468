-- The start of the walk over a pair that passes places 1 to 12.
use Rattle.std.specs.Prelude.{ℕ, zero, suc, ◌+◌, ◌<◌, ◌≤◌, min, ◌≡◌, List, [], ◌∷◌, ◌++◌, true, length, take, replicate}
use Rattle.std.proofs.Math.Path.{refl}
use Rattle.std.proofs.Common.{sym, ap, ◌∙◌, append_assoc, append-nil, arith}
use Rattle.reader.specs.declared.Answer.{Answer}
use Rattle.reader.specs.Words.{Reader, word_of, word, record_count}
use Rattle.reader.specs.Tests.{if_eq}
use Rattle.reader.specs.Kinds.{is_rule}
use Rattle.reader.specs.Trees.{Tree, lower, tree}
use Rattle.reader.specs.Chains.{linked, item_trees}
use Rattle.reader.specs.TreeLaws.{lower_below, linked_step_lem}
use Rattle.reader.specs.AnswerLaws.{answer_stop, answer_go}
use Rattle.reader.specs.Places.{most_records, hypothesis_chain, negated_goal, count_of, root_of, obligation_reading, second_reading, reading}
use Rattle.reader_chains.specs.Chains.{trees_zero, trees_step}
use Rattle.reader_equality.specs.Least.{Numbered}
use Rattle.reader_equality.specs.Tables.{Zeros, zeros_take, zeros_made}
use Rattle.reader_laws.specs.File.{ReadObligation, ReadSecond, beside, last_of, reading_parts, length_parts, header_parts, counts_parts}
use Rattle.reader_laws.specs.Pair.{root_range, pair_goal_range, pair_hypotheses_range, pair_hypotheses_limit}
use Rattle.reader_laws.specs.Under.{under, root_under}
use Rattle.proof_rules.specs.Check.{start_sequent, proof_walk, proof_answer}
use Rattle.proof_members.specs.Makers.{Table}
use Rattle.proof_members.specs.Sequents.{sequent, Ready}
use Rattle.proof_members.specs.Added.{Added}
use Rattle.proof_nodes.specs.Nodes.{At}
use Rattle.proof_walk.specs.Walked.{visit}

-- the numbers are there, the memory is empty, and the obligation's header names what it should
pub record Starting (rd : Reader) (numbers memory : List ℕ) : Type 0 where
  pub table : Table rd numbers
  pub long : length memory ≡ 1024
  pub chain : hypothesis_chain rd < length numbers
  pub goal : negated_goal rd < length numbers
  pub few : length (linked rd (hypothesis_chain rd)) ≤ 256

-- the pair passes places 1 to 12, the tables have their lengths, the scratch table is zeros, and the numbers are there
pub record Entering (ob s : List ℕ) (m : ℕ) (numbers memory scratch : List ℕ) : Type 0 where
  pub read : (reading 1 ob s).refusal ≡ 0
  pub counted : m ≡ count_of ob
  pub all : length numbers ≡ m + count_of s + 1
  pub long : length memory ≡ 1024
  pub wide : length numbers ≤ length scratch
  pub blank : Zeros scratch
  pub numbered : Numbered (word ob s m) numbers (length numbers)

-- an empty sequent
pub ready_none : (rd : Reader) (numbers memory : List ℕ) → Starting rd numbers memory → Ready rd numbers memory 0
ready_none rd numbers memory s =
    record { table = s.table; long = s.long; low = omega arith; keys = record { each = λ i p. absurd (omega arith) } }

-- what is left of the hypotheses, after h were added
pub record Left (rd : Reader) (numbers memory : List ℕ) (h l : ℕ) : Type 0 where
  pub ready : Ready rd numbers memory h
  pub rest : sequent rd memory h ++ item_trees rd l ≡ item_trees rd (hypothesis_chain rd)
  pub few : h + length (linked rd l) ≤ 256
  pub within : l < length numbers

pub left_all : (rd : Reader) (numbers memory : List ℕ) (l : ℕ) → Starting rd numbers memory → l ≡ rd 0 2 → Left rd numbers memory 0 l
unfolding sequent
left_all rd numbers memory l s e =
    let most : length (linked rd (rd 0 2)) ≤ 256 = s.few in
    record { ready = ready_none rd numbers memory s; rest = rw e refl; few = rw e (omega arith); within = rw e s.chain }

module _ (rd : Reader) (numbers memory : List ℕ) (h l : ℕ) (left : Left rd numbers memory h l) (pos : l ≡ 0 → ⊥) where
  one_link : length (linked rd l) ≡ suc (length (linked rd (lower rd l 3)))
  one_link = ap length (linked_step_lem rd l (omega arith))

  pub left_room : h < 1024
  left_room = omega (arith, left.few)

  pub left_item : (x : ℕ) → x ≡ lower rd l 1 → x < length numbers
  left_item x e = omega (arith, left.within, lower_below rd l 1 (omega arith))

  pub left_next : (after : List ℕ) (x y : ℕ) → x ≡ lower rd l 1 → y ≡ lower rd l 3 → Added rd numbers memory h (tree rd x) after → Left rd numbers after (h + 1) y
  left_next after x y ex ey added =
      let below : lower rd l 3 < l = lower_below rd l 3 (omega arith) in
      record {
        ready = added.ready;
        rest = ap (λ (s : List Tree). s ++ item_trees rd y) added.more ∙ append_assoc (sequent rd memory h) (tree rd x ∷ []) (item_trees rd y)
            ∙ rw (ex, ey, ← trees_step rd l (omega arith)) left.rest;
        few = rw ey (omega (arith, left.few, one_link));
        within = omega (arith, left.within);
      }

pub left_none : (rd : Reader) (numbers memory : List ℕ) (h l : ℕ) → Left rd numbers memory h l → l ≡ 0 →
    Ready rd numbers memory h × (sequent rd memory h ≡ item_trees rd (hypothesis_chain rd)) × (h ≤ 256)
left_none rd numbers memory h l left z =
    let none : item_trees rd l ≡ [] = rw z (trees_zero rd) in
    (left.ready, sym (append-nil (sequent rd memory h)) ∙ ap (λ (t : List Tree). sequent rd memory h ++ t) (sym none) ∙ left.rest, omega (arith, left.few))

-- 256 were added, and no more are there
pub left_full : (rd : Reader) (numbers memory : List ℕ) (l : ℕ) → Left rd numbers memory 256 l →
    Ready rd numbers memory 256 × (sequent rd memory 256 ≡ item_trees rd (hypothesis_chain rd)) × (256 ≤ 256)
left_full rd numbers memory zero left = left_none rd numbers memory 256 0 left refl
left_full rd numbers memory (suc l) left =
    let more : length (linked rd (suc l)) ≡ suc (length (linked rd (lower rd (suc l) 3))) = ap length (linked_step_lem rd (suc l) (omega arith)) in
    absurd (omega (arith, left.few))

-- with the goal
pub start_stored : (rd : Reader) (numbers memory after : List ℕ) (h goal : ℕ) → goal ≡ rd 0 3 → sequent rd memory h ≡ item_trees rd (hypothesis_chain rd) →
    Added rd numbers memory h (tree rd goal) after → sequent rd after (h + 1) ≡ start_sequent rd
unfolding start_sequent
start_stored rd numbers memory after h goal eg es added = rw (added.more, es, eg) refl

pub goal_in : (rd : Reader) (numbers memory : List ℕ) (goal : ℕ) → Starting rd numbers memory → goal ≡ rd 0 3 → goal < length numbers
goal_in rd numbers memory goal s e = rw e s.goal

-- Pairs that pass places 1 to 12.
module _ (ob s : List ℕ) (read : (reading 1 ob s).refusal ≡ 0) where
  both_read : ReadObligation ob × ReadSecond 1 ob s
  both_read = reading_parts 1 ob s read

  pub obligation_few : count_of ob < 1024
  unfolding most_records if_eq
  obligation_few =
      let a = length_parts 0 ob both_read.0.length_of in
      let b = header_parts ob both_read.0.header in
      omega (arith, a.2, b.1)

  pub proof_few : count_of s < 3073
  unfolding most_records if_eq
  proof_few =
      let a = length_parts 1 s both_read.1.length_of in
      let b = header_parts s (counts_parts ob s both_read.1.counts).0 in
      omega (arith, a.2, b.1)

-- The conditions of the calls of `walk_proof`.
module _ (ob s : List ℕ) (m : ℕ) (numbers memory scratch : List ℕ) (enter : Entering ob s m numbers memory scratch) where
  enter_small : length numbers ≤ 4096
  enter_small = omega (arith, enter.all, enter.counted, obligation_few ob s enter.read, proof_few ob s enter.read)

  enter_last : length numbers ≡ last_of ob s + 1
  enter_last = omega (arith, enter.all, enter.counted)

  same_reader : word ob s m ≡ beside ob s
  same_reader = ap (λ (x : ℕ). word ob s x) enter.counted

  pub enter_start : Starting (word ob s m) numbers memory
  enter_start =
      let p = both_read ob s enter.read in
      let goal = pair_goal_range 1 ob s p.0 p.1 in
      record {
        table = record { numbered = enter.numbered; small = omega (arith, enter_small) };
        long = enter.long;
        chain = rw same_reader (omega (arith, enter_last, pair_hypotheses_range 1 ob s p.0 p.1));
        goal = rw same_reader (omega (arith, enter_last, goal.1));
        few = rw same_reader (pair_hypotheses_limit 1 ob s p.0 p.1);
      }

  pub enter_at : (after marks : List ℕ) (h root : ℕ) → length marks ≡ length scratch → Zeros marks → Ready (word ob s m) numbers after h →
      root ≡ word_of s 0 2 → At (word ob s m) numbers after marks h root
  enter_at after marks h root k z ready e =
      let p = both_read ob s enter.read in
      record {
        ready = ready;
        within = omega (arith, enter_last, (root_range 1 ob s p.0 p.1).1);
        marks = omega (arith, enter.wide);
        blank = z;
      }

  pub enter_rule : (root : ℕ) → root ≡ word_of s 0 2 → is_rule 1 (word ob s m root 0) ≡ true
  enter_rule root e = rw (e, same_reader) (both_read ob s enter.read).1.root

  pub enter_count : (root : ℕ) → root ≡ word_of s 0 2 → 0 + under 1 (word ob s m) root ≤ 4294967296
  enter_count root e =
      let p = both_read ob s enter.read in
      let most : under 1 (beside ob s) (root_of s) ≤ count_of s = root_under 1 ob s p.0 p.1 in
      rw (e, same_reader) (omega (arith, proof_few ob s enter.read))

pub walk_proof : (rd : Reader) (s after : List ℕ) (h root : ℕ) (r : Answer) → root ≡ word_of s 0 2 → sequent rd after h ≡ start_sequent rd →
    r ≡ visit rd root (sequent rd after h) 0 → r ≡ proof_walk rd (root_of s)
unfolding proof_walk visit
walk_proof rd s after h root r er es e = rw (← er, ← es) e

-- The way out of `check_proof` where the obligation is refused.
pub check_refused : (ob s : List ℕ) (a : Answer) → a ≡ obligation_reading ob → (a.refusal ≡ 0 → ⊥) → a ≡ proof_answer ob s
unfolding proof_answer reading
check_refused ob s a ea h = answer_stop (reading 1 ob s) _ a (answer_stop (obligation_reading ob) _ a ea h) h

-- The ways out of `check_numbered`, where it passes.
module _ (ob s : List ℕ) (first : (obligation_reading ob).refusal ≡ 0) (a : Answer) (ea : a ≡ second_reading 1 ob s) where
  both_is : a ≡ reading 1 ob s
  unfolding reading
  both_is = answer_go (obligation_reading ob) _ (obligation_reading ob) a refl first ea

  pub proof_refused : (a.refusal ≡ 0 → ⊥) → a ≡ proof_answer ob s
  unfolding proof_answer
  proof_refused h = answer_stop (reading 1 ob s) _ a both_is h

  module _ (z : a.refusal ≡ 0) where
    check_read : (reading 1 ob s).refusal ≡ 0
    check_read = ap (λ (x : Answer). x.refusal) (sym both_is) ∙ z

    pub check_walked : (m : ℕ) (r : Answer) → m ≡ count_of ob → r ≡ proof_walk (word ob s m) (root_of s) → r ≡ proof_answer ob s
    unfolding proof_answer
    check_walked m r em e = answer_go (reading 1 ob s) _ a r both_is z (rw (← em) e)

    module _ (m size : ℕ) (em : m ≡ count_of ob) (es : size ≡ min (m + record_count s) 4096) where
      size_is : size ≡ m + count_of s + 1
      size_is =
          let b = header_parts s (counts_parts ob s (both_read ob s check_read).1.counts).0 in
          omega (arith, b.1, obligation_few ob s check_read, proof_few ob s check_read)

      pub entering : (numbers memory scratch : List ℕ) → length numbers ≡ size → length memory ≡ 1024 → length scratch ≡ size → Zeros scratch →
          Numbered (word ob s m) numbers (length numbers) → Entering ob s m numbers memory scratch
      entering numbers memory scratch l k w z n =
          record { read = check_read; counted = em; all = l ∙ size_is; long = k; wide = omega arith; blank = z; numbered = n }

-- the part of the scratch table that is lent, as long as the table of numbers, whose length was kept
pub part_zeros : (k n : ℕ) → k ≡ n → Zeros (take k (replicate 4096 0))
part_zeros k n e = zeros_take k (replicate 4096 0) (zeros_made 4096)
