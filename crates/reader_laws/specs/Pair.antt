-- An obligation and a second file that both passed, through one numbering.
use Rattle.std.specs.Prelude.{ℕ, zero, suc, ◌+◌, ◌*◌, ◌-◌, ◌/◌, ◌%◌, ◌<◌, ◌≤◌, ◌≡◌, refl, List, [], Bool, true, false, eqb, ltb, leb, length}
use Rattle.std.proofs.Math.Path.{sym, ap}
use Rattle.std.proofs.Common.{subst, ◌∙◌, arith, ltb-true, ltb-false, le-leb, lt-ltb}
use Rattle.std.proofs.lemmas.Bool.{false≢true}
use Rattle.reader.specs.Words.{Reader, word_of, through, word, record_count}
use Rattle.reader.specs.WordLaws.{word_past}
use Rattle.reader.specs.Tests.{every, if_eq, if_lt, if_true, between}
use Rattle.reader.specs.Kinds.{is_rule, is_kind, is_symbol, class, class_at}
use Rattle.reader.specs.Trees.{tree, lower, ¬ᵗ◌}
use Rattle.reader.specs.Chains.{linked, items, item_trees, parts, premises}
use Rattle.reader.specs.Variables.{is_closed}
use Rattle.reader.specs.Weight.{is_weighed, weight}
use Rattle.reader.specs.Names.{name_space, name}
use Rattle.reader.specs.Typing.{is_typed}
use Rattle.reader.specs.Records.{most_weight, weight_fits, typing_fits}
use Rattle.reader.specs.Places.{hypothesis_chain, negated_goal, root_of, count_of, hypothesis_fits, namings}
use Rattle.reader_laws.specs.Scan.{when_less, when_not_less, between_parts}
use Rattle.reader_laws.specs.Record.{Sound, weight_limit, is_typed_lem, name_not_taken, symbol_named, names_differ}
use Rattle.reader_laws.specs.Parts.{Chain, not_tree, rule_parts, rule_premises}
use Rattle.reader_laws.specs.Links.{items_given}
use Rattle.reader_laws.specs.File.{alone, beside, last_of, ReadObligation, ReadSecond, length_parts, header_parts, counts_parts, goal_parts, hypotheses_link, each_hypothesis, hypotheses_limit}
use Rattle.reader_laws.specs.Agree.{lower_most, tree_agrees, linked_agrees, items_agrees, item_trees_agree, sound_agrees}

-- Words of the one numbering.

-- records 0 to m are the obligation's
pub word_first : (ob s : List ℕ) (m i w : ℕ) → i ≤ m → word ob s m i w ≡ word_of ob i w
unfolding word through
word_first ob s m i w h = when_not_less (word_of s (i - m) w) (word_of ob i w) m i h

-- those past m are the second file's
pub word_second : (ob s : List ℕ) (m i w : ℕ) → m < i → word ob s m i w ≡ word_of s (i - m) w
unfolding word through
word_second ob s m i w h = when_less (word_of s (i - m) w) (word_of ob i w) m i h

-- the obligation's records are the same by themselves and beside a second file
pub alone_beside : (ob s : List ℕ) (i w : ℕ) → i ≤ count_of ob → alone ob i w ≡ beside ob s i w
alone_beside ob s i w h = word_first ob [] (count_of ob) i w h ∙ sym (word_first ob s (count_of ob) i w h)

-- past the last record every word is 0
pub alone_past : (ob : List ℕ) (i w : ℕ) → count_of ob < i → alone ob i w ≡ 0
alone_past ob i w h = word_second ob [] (count_of ob) i w h ∙ word_past [] (i - count_of ob) w (omega arith)

file_end : (n c i : ℕ) → n % 16 ≡ 0 → c + 1 ≡ n / 16 → c < i → n ≤ 16 * i
file_end n c i r e h = omega arith

pub beside_past : (mode : ℕ) (ob s : List ℕ) → ReadSecond mode ob s → (i w : ℕ) → last_of ob s < i → beside ob s i w ≡ 0
unfolding record_count
beside_past mode ob s r i w h =
    let l = length_parts mode s r.length_of in
    let c = header_parts s (counts_parts ob s r.counts).0 in
    let past : count_of s < i - count_of ob = omega arith in
    word_second ob s (count_of ob) i w (omega arith)
    ∙ word_past s (i - count_of ob) w (file_end (length s) (count_of s) (i - count_of ob) l.1 c.1 past)

-- the header's kind
pub header_kind : (ob s : List ℕ) → ReadObligation ob → beside ob s 0 0 ≡ 1
header_kind ob s r = word_first ob s (count_of ob) 0 0 (omega arith) ∙ (header_parts ob r.header).0

-- Kinds.

-- rules are kinds from 32 on
pub rule_kind : (mode k : ℕ) → is_rule mode k ≡ true → (32 ≤ k) × (k ≤ 80)
unfolding is_rule if_eq
rule_kind mode k h = go (eqb mode 1) (eqb mode 2) h
  where
    go : (a b : Bool) → ◌≡◌ {A = Bool} (elim a [ true ↦ between 32 46 k | false ↦ elim b [ true ↦ between 64 80 k | false ↦ false ] ]) true → (32 ≤ k) × (k ≤ 80)
    go true b h =
        let low : 32 ≤ k = (between_parts 32 46 k h).0 in let high : k ≤ 46 = (between_parts 32 46 k h).1 in
        ((omega arith), (omega arith))
    go false true h =
        let low : 64 ≤ k = (between_parts 64 80 k h).0 in let high : k ≤ 80 = (between_parts 64 80 k h).1 in
        ((omega arith), (omega arith))
    go false false h = absurd (false≢true h)

-- an obligation has no rules
pub no_rule : (k : ℕ) → is_rule 0 k ≡ false
unfolding is_rule if_eq
no_rule k = refl

-- a kind that is no rule is 1 to 23
pub kind_or_rule : (mode k : ℕ) → is_kind mode k ≡ true → is_rule mode k ≡ false → (1 ≤ k) × (k ≤ 23)
unfolding is_kind if_lt
kind_or_rule mode k h r = go (ltb k 24) refl h
  where
    go : (b : Bool) → ltb k 24 ≡ b → ◌≡◌ {A = Bool} (elim b [ true ↦ ltb 0 k | false ↦ is_rule mode k ]) true → (1 ≤ k) × (k ≤ 23)
    go true e h = let low : 0 < k = ltb-true 0 k h in let high : k < 24 = ltb-true k 24 e in ((omega arith), (omega arith))
    go false e h = absurd (false≢true (sym r ∙ h))

-- those are kinds of every file
pub kind_of_all : (mode k : ℕ) → 1 ≤ k → k ≤ 23 → is_kind mode k ≡ true
unfolding is_kind
kind_of_all mode k p q = when_less (ltb 0 k) (is_rule mode k) k 24 (omega arith) ∙ lt-ltb 0 k (omega arith)

-- no file allows less weight than an obligation
pub least_weight : (mode : ℕ) → most_weight 0 ≤ most_weight mode
unfolding most_weight if_eq
least_weight mode = go (eqb mode 2)
  where
    go : (b : Bool) → 4096 ≤ elim b as (λ x. ℕ) [ true ↦ 16384 | false ↦ 4096 ]
    go true = omega arith
    go false = omega arith

-- a record without a fault in an obligation has none in any file
pub sound_anywhere : (mode : ℕ) (rd : Reader) (i : ℕ) → Sound 0 rd i → Sound mode rd i
unfolding weight_fits typing_fits if_true if_eq
sound_anywhere mode rd i s =
    let k = kind_or_rule 0 (rd i 0) s.kind (no_rule (rd i 0)) in
    record {
      kind = kind_of_all mode (rd i 0) k.0 k.1;
      range = s.range;
      reference = s.reference;
      name_length = s.name_length;
      chains = s.chains;
      weighs = weighs (is_weighed (rd i 0)) refl;
      named = s.named;
      free = s.free;
      typed = typed (eqb mode 2);
    }
  where
    weighs : (b : Bool) → is_weighed (rd i 0) ≡ b → ◌≡◌ {A = Bool} (elim b [ true ↦ leb (weight (tree rd i)) (most_weight mode) | false ↦ true ]) true
    weighs true e =
        let most : weight (tree rd i) ≤ most_weight 0 = weight_limit 0 rd i s e in
        let least : most_weight 0 ≤ most_weight mode = least_weight mode in
        le-leb (weight (tree rd i)) (most_weight mode) (omega arith)
    weighs false e = refl

    typed : (b : Bool) → ◌≡◌ {A = Bool} (elim b [ true ↦ true | false ↦ is_typed rd i ]) true
    typed true = refl
    typed false = is_typed_lem 0 rd i s (λ e. absurd (omega arith))

-- What the obligation says through the one numbering.
module _ (ob s : List ℕ) where
  pub obligation_tree : (j : ℕ) → j ≤ count_of ob → tree (alone ob) j ≡ tree (beside ob s) j
  obligation_tree = tree_agrees (alone ob) (beside ob s) (count_of ob) (alone_beside ob s)

  pub obligation_linked : (j : ℕ) → j ≤ count_of ob → linked (alone ob) j ≡ linked (beside ob s) j
  obligation_linked = linked_agrees (alone ob) (beside ob s) (count_of ob) (alone_beside ob s)

  pub obligation_items : (j : ℕ) → j ≤ count_of ob → items (alone ob) j ≡ items (beside ob s) j
  obligation_items = items_agrees (alone ob) (beside ob s) (count_of ob) (alone_beside ob s)

  pub obligation_item_trees : (j : ℕ) → j ≤ count_of ob → item_trees (alone ob) j ≡ item_trees (beside ob s) j
  obligation_item_trees = item_trees_agree (alone ob) (beside ob s) (count_of ob) (alone_beside ob s)

  pub obligation_goal : negated_goal (alone ob) ≡ negated_goal (beside ob s)
  obligation_goal = alone_beside ob s 0 3 (omega arith)

  pub obligation_hypotheses : hypothesis_chain (alone ob) ≡ hypothesis_chain (beside ob s)
  obligation_hypotheses = alone_beside ob s 0 2 (omega arith)

  module _ (r : ReadObligation ob) where
    pub obligation_sound : (i : ℕ) → 1 ≤ i → i ≤ count_of ob → Sound 0 (beside ob s) i
    obligation_sound = sound_agrees (alone ob) (beside ob s) (count_of ob) (alone_beside ob s) 0 r.sound

-- The places that the headers name are records.
module _ (ob : List ℕ) (r : ReadObligation ob) where
  -- the goal
  pub goal_range : (1 ≤ negated_goal (alone ob)) × (negated_goal (alone ob) ≤ count_of ob)
  goal_range = go (negated_goal (alone ob)) (goal_parts (alone ob) r.goal).0
    where
      go : (g : ℕ) → alone ob g 0 ≡ 18 → (1 ≤ g) × (g ≤ count_of ob)
      go zero e = let k : alone ob 0 0 ≡ 1 = header_kind ob [] r in absurd (omega arith)
      go (suc g) e = ((omega arith), within (ltb (count_of ob) (suc g)) refl)
        where
          within : (b : Bool) → ltb (count_of ob) (suc g) ≡ b → suc g ≤ count_of ob
          within true l = let z : alone ob (suc g) 0 ≡ 0 = alone_past ob (suc g) 0 (ltb-true (count_of ob) (suc g) l) in absurd (omega arith)
          within false l = ltb-false (count_of ob) (suc g) l

  -- the chain of hypotheses, where it is not 0
  pub hypotheses_range : hypothesis_chain (alone ob) ≤ count_of ob
  hypotheses_range = go (hypothesis_chain (alone ob)) (hypotheses_link (alone ob) r.hypotheses)
    where
      go : (c : ℕ) → ((c ≡ 0 → ⊥) → alone ob c 0 ≡ 1) → c ≤ count_of ob
      go zero e = omega arith
      go (suc c) e = within (ltb (count_of ob) (suc c)) refl
        where
          within : (b : Bool) → ltb (count_of ob) (suc c) ≡ b → suc c ≤ count_of ob
          within true l =
              let k : alone ob (suc c) 0 ≡ 1 = e (λ q. absurd (omega arith)) in
              let z : alone ob (suc c) 0 ≡ 0 = alone_past ob (suc c) 0 (ltb-true (count_of ob) (suc c) l) in
              absurd (omega arith)
          within false l = ltb-false (count_of ob) (suc c) l

-- What both files give together.
module _ (mode : ℕ) (ob s : List ℕ) (r : ReadObligation ob) (t : ReadSecond mode ob s) where
  -- no record of the pair has a fault
  pub pair_sound : (i : ℕ) → 1 ≤ i → i ≤ last_of ob s → Sound mode (beside ob s) i
  pair_sound i p q = go (ltb (count_of ob) i) refl
    where
      go : (b : Bool) → ltb (count_of ob) i ≡ b → Sound mode (beside ob s) i
      go true e = let more : count_of ob < i = ltb-true (count_of ob) i e in t.sound i (omega arith) q
      go false e = sound_anywhere mode (beside ob s) i (obligation_sound ob s r i p (ltb-false (count_of ob) i e))

  -- a rule node is a record of the second file
  pub rule_range : (n : ℕ) → is_rule mode (beside ob s n 0) ≡ true → (count_of ob + 1 ≤ n) × (n ≤ last_of ob s)
  rule_range n h = (low n (rule_kind mode (beside ob s n 0) h).0, high (ltb (last_of ob s) n) refl)
    where
      low : (n : ℕ) → 32 ≤ beside ob s n 0 → count_of ob + 1 ≤ n
      low zero l = let k : beside ob s 0 0 ≡ 1 = header_kind ob s r in absurd (omega arith)
      low (suc n) l = go (ltb (count_of ob) (suc n)) refl
        where
          go : (b : Bool) → ltb (count_of ob) (suc n) ≡ b → count_of ob + 1 ≤ suc n
          go true e = let more : count_of ob < suc n = ltb-true (count_of ob) (suc n) e in omega arith
          go false e =
              let own = obligation_sound ob s r (suc n) (omega arith) (ltb-false (count_of ob) (suc n) e) in
              let most : beside ob s (suc n) 0 ≤ 23 = (kind_or_rule 0 (beside ob s (suc n) 0) own.kind (no_rule (beside ob s (suc n) 0))).1 in
              absurd (omega arith)

      high : (b : Bool) → ltb (last_of ob s) n ≡ b → n ≤ last_of ob s
      high true e =
          let z : beside ob s n 0 ≡ 0 = beside_past mode ob s t n 0 (ltb-true (last_of ob s) n e) in
          let least : 32 ≤ beside ob s n 0 = (rule_kind mode (beside ob s n 0) h).0 in
          absurd (omega arith)
      high false e = ltb-false (last_of ob s) n e

  -- and so is the root
  pub root_range : (count_of ob + 1 ≤ root_of s) × (root_of s ≤ last_of ob s)
  root_range = rule_range (root_of s) t.root

  -- two symbols of one name space have different names
  pub symbols_differ : (i j : ℕ) → 1 ≤ i → i ≤ last_of ob s → 1 ≤ j → j ≤ last_of ob s → (i ≡ j → ⊥) →
      is_symbol (beside ob s i 0) ≡ true → is_symbol (beside ob s j 0) ≡ true → name_space (beside ob s i 0) ≡ name_space (beside ob s j 0) →
      name (beside ob s) i ≡ name (beside ob s) j → ⊥
  symbols_differ i j a b c d differ p q =
      let x = pair_sound i a b in
      let y = pair_sound j c d in
      names_differ (beside ob s) i j a c differ
      (name_not_taken mode (beside ob s) i x (symbol_named mode (beside ob s) i x p))
      (name_not_taken mode (beside ob s) j y (symbol_named mode (beside ob s) j y q))

  -- The goal and the hypotheses, through the one numbering.

  -- the goal is a record of the obligation
  pub pair_goal_range : (1 ≤ negated_goal (beside ob s)) × (negated_goal (beside ob s) ≤ count_of ob)
  pair_goal_range =
      let g = goal_range ob r in
      let same : negated_goal (alone ob) ≡ negated_goal (beside ob s) = obligation_goal ob s in
      (rw (← same) g.0, rw (← same) g.1)

  -- its kind is that of ¬
  pub pair_goal_kind : beside ob s (negated_goal (beside ob s)) 0 ≡ 18
  pair_goal_kind =
      ap (λ (g : ℕ). beside ob s g 0) (sym (obligation_goal ob s))
      ∙ sym (alone_beside ob s (negated_goal (alone ob)) 0 (goal_range ob r).1) ∙ (goal_parts (alone ob) r.goal).0

  -- it is closed
  pub pair_goal_closed : is_closed (tree (beside ob s) (negated_goal (beside ob s))) ≡ true
  pair_goal_closed =
      ap (λ (g : ℕ). is_closed (tree (beside ob s) g)) (sym (obligation_goal ob s))
      ∙ ap is_closed (sym (obligation_tree ob s (negated_goal (alone ob)) (goal_range ob r).1)) ∙ (goal_parts (alone ob) r.goal).1

  -- and the negation of the tree of its first word
  pub pair_goal_tree : tree (beside ob s) (negated_goal (beside ob s)) ≡ ¬ᵗ (tree (beside ob s) (beside ob s (negated_goal (beside ob s)) 1))
  pair_goal_tree =
      let g = pair_goal_range in
      not_tree 0 (beside ob s) (negated_goal (beside ob s)) (obligation_sound ob s r (negated_goal (beside ob s)) g.0 g.1) g.0 pair_goal_kind

  -- the chain of hypotheses is in the obligation
  pub pair_hypotheses_range : hypothesis_chain (beside ob s) ≤ count_of ob
  pair_hypotheses_range =
      let same : hypothesis_chain (alone ob) ≡ hypothesis_chain (beside ob s) = obligation_hypotheses ob s in rw (← same) (hypotheses_range ob r)

  -- its trees are those that the obligation has by itself
  pub pair_hypotheses_same : item_trees (alone ob) (hypothesis_chain (alone ob)) ≡ item_trees (beside ob s) (hypothesis_chain (beside ob s))
  pair_hypotheses_same =
      obligation_item_trees ob s (hypothesis_chain (alone ob)) (hypotheses_range ob r) ∙ ap (item_trees (beside ob s)) (obligation_hypotheses ob s)

  -- and each fits
  pub pair_hypotheses : every hypothesis_fits (item_trees (beside ob s) (hypothesis_chain (beside ob s))) ≡ true
  pair_hypotheses = ap (every hypothesis_fits) (sym pair_hypotheses_same) ∙ each_hypothesis (alone ob) r.hypotheses

  -- there are at most 256
  pub pair_hypotheses_limit : length (linked (beside ob s) (hypothesis_chain (beside ob s))) ≤ 256
  pair_hypotheses_limit =
      let same : linked (alone ob) (hypothesis_chain (alone ob)) ≡ linked (beside ob s) (hypothesis_chain (beside ob s)) =
      obligation_linked ob s (hypothesis_chain (alone ob)) (hypotheses_range ob r) ∙ ap (linked (beside ob s)) (obligation_hypotheses ob s) in
      let most : length (linked (alone ob) (hypothesis_chain (alone ob))) ≤ 256 = hypotheses_limit (alone ob) r.hypotheses in
      subst (λ (xs : List ℕ). length xs ≤ 256) same most

  -- they start with a link, unless there are none
  pub pair_hypotheses_link : (hypothesis_chain (beside ob s) ≡ 0 → ⊥) → class_at (beside ob s) (hypothesis_chain (beside ob s)) ≡ 1
  unfolding class_at class if_lt
  pair_hypotheses_link differ =
      let same : hypothesis_chain (alone ob) ≡ hypothesis_chain (beside ob s) = obligation_hypotheses ob s in
      let link : alone ob (hypothesis_chain (alone ob)) 0 ≡ 1 = hypotheses_link (alone ob) r.hypotheses (λ z. differ (sym same ∙ z)) in
      let kind : beside ob s (hypothesis_chain (beside ob s)) 0 ≡ 1 =
      ap (λ (g : ℕ). beside ob s g 0) (sym same) ∙ sym (alone_beside ob s (hypothesis_chain (alone ob)) 0 (hypotheses_range ob r)) ∙ link in
      ap class kind

  -- Rule nodes.

  -- a rule node has no fault, and is named exactly once
  pub rule_sound : (n : ℕ) → is_rule mode (beside ob s n 0) ≡ true → Sound mode (beside ob s) n
  rule_sound n h = let g = rule_range n h in t.sound n g.0 g.1

  pub rule_once : (n : ℕ) → is_rule mode (beside ob s n 0) ≡ true → if_eq (root_of s) n 1 0 + namings mode (beside ob s) n (last_of ob s) ≡ 1
  rule_once n h = let g = rule_range n h in t.once n g.0 g.1 h

  -- its parts and its premises are records, none of them 0
  pub rule_parts_given : (n : ℕ) → is_rule mode (beside ob s n 0) ≡ true → every (λ x. ltb 0 x) (parts (beside ob s) n) ≡ true
  unfolding parts
  rule_parts_given n h =
      let c : Chain (beside ob s) n 1 0 = rule_parts mode (beside ob s) n (rule_sound n h) (rule_kind mode (beside ob s n 0) h).0 in
      let most : n ≤ last_of ob s = (rule_range n h).1 in
      let least : lower (beside ob s) n 1 ≤ n = lower_most (beside ob s) n 1 in
      items_given mode (beside ob s) (last_of ob s) pair_sound (lower (beside ob s) n 1) (omega arith)
      (λ differ. ap (class_at (beside ob s)) c.names ∙ c.class (λ z. differ (c.names ∙ z)))

  pub rule_premises_given : (n : ℕ) → is_rule mode (beside ob s n 0) ≡ true → every (λ x. ltb 0 x) (premises (beside ob s) n) ≡ true
  unfolding premises
  rule_premises_given n h =
      let c : Chain (beside ob s) n 2 0 = rule_premises mode (beside ob s) n (rule_sound n h) (rule_kind mode (beside ob s n 0) h).0 in
      let most : n ≤ last_of ob s = (rule_range n h).1 in
      let least : lower (beside ob s) n 2 ≤ n = lower_most (beside ob s) n 2 in
      items_given mode (beside ob s) (last_of ob s) pair_sound (lower (beside ob s) n 2) (omega arith)
      (λ differ. ap (class_at (beside ob s)) c.names ∙ c.class (λ z. differ (c.names ∙ z)))
