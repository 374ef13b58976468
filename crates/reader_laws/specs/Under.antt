-- How many nodes a walk can enter, by the records alone: from the root of an accepted file, at most the second file's records.
use Prim.Native.Nat.{ℕ, zero, suc, ◌+◌, ◌*◌, ◌<◌, ◌≤◌}
use Rattle.std.specs.Prelude.{◌≡◌, Bool}
use Rattle.std.proofs.Math.Path.{refl, sym, ap}
use Rattle.std.proofs.Common.{◌∙◌, zero-mul, one-mul, mul-zero}
use mathlib.Core.List.{List}
use Rattle.std.proofs.Math.Bool.{true, false}
use native.Mathlib.Omega.{arith}
use Rattle.reader.specs.Words.{Reader}
use Rattle.reader.specs.Tests.{if_eq, if_true}
use Rattle.reader.specs.Down.{down}
use Rattle.reader.specs.DownLaws.{Local, down_zero, down_step}
use Rattle.reader.specs.Kinds.{is_rule}
use Rattle.reader.specs.Trees.{lower}
use Rattle.reader.specs.Chains.{items, premises}
use Rattle.reader.specs.TreeLaws.{below, lower_below, items_zero, items_step}
use Rattle.reader.specs.Places.{root_of, count_of, times_in, namings}
use Rattle.reader_laws.specs.Scan.{when_true, when_false}
use Rattle.reader_laws.specs.File.{beside, last_of, ReadObligation, ReadSecond}
use Rattle.reader_laws.specs.Pair.{rule_range, root_range, rule_once}
use Rattle.reader_laws.specs.Named.{names_of, names_rule}
use Rattle.reader_laws.specs.Sums.{sum_to, sum_same, sum_none, sum_most, sum_both, sum_one}

-- how many nodes a walk can enter at a record: as a node, and as a link of a chain of premises
pub record Unders : Type 0 where
  pub node : ℕ
  pub link : ℕ

-- record 0 is no node, and ends a chain
abbrev pub no_unders : Unders
no_unders = record { node = 0; link = 0 }

-- one step: a node itself and those of its premises; at a link those of its item, where that is a rule node, and those of the links after it
unfoldable pub under_step : ℕ → Reader → (ℕ → Unders) → ℕ → Unders
under_step mode rd sub i = record {
  node = 1 + (sub (lower rd i 2)).link;
  link = if_true (is_rule mode (rd (lower rd i 1) 0)) (sub (lower rd i 1)).node 0 + (sub (lower rd i 3)).link;
}

-- both, at record i
unfoldable pub unders : ℕ → Reader → ℕ → Unders
unders mode rd = down no_unders (under_step mode rd)

-- from rule node i
unfoldable pub under : ℕ → Reader → ℕ → ℕ
under mode rd i = (unders mode rd i).node

-- along a chain of premises from link c on
unfoldable pub under_links : ℕ → Reader → ℕ → ℕ
under_links mode rd c = (unders mode rd c).link

-- `under` of a rule node, and 0 of any other record
unfoldable under_rule : ℕ → Reader → ℕ → ℕ
under_rule mode rd x = if_true (is_rule mode (rd x 0)) (under mode rd x) 0

-- The unfolding laws.
module _ (mode : ℕ) (rd : Reader) where
  unders_local : Local (under_step mode rd)
  unfolding under_step
  unders_local f g i p h = rw (h _ (lower_below rd i 1 p), h _ (lower_below rd i 2 p), h _ (lower_below rd i 3 p))

  unders_step : (i : ℕ) → 0 < i → unders mode rd i ≡ under_step mode rd (unders mode rd) i
  unfolding unders
  unders_step i p = down_step no_unders (under_step mode rd) unders_local i p

  unders_zero : unders mode rd 0 ≡ no_unders
  unfolding unders
  unders_zero = down_zero no_unders (under_step mode rd)

  pub under_step_lem : (i : ℕ) → 0 < i → under mode rd i ≡ 1 + under_links mode rd (lower rd i 2)
  unfolding under under_links under_step
  under_step_lem i p = ap (λ (u : Unders). u.node) (unders_step i p)

  under_zero : under mode rd 0 ≡ 0
  unfolding under
  under_zero = ap (λ (u : Unders). u.node) unders_zero

  links_step : (c : ℕ) → 0 < c → under_links mode rd c ≡ under_rule mode rd (lower rd c 1) + under_links mode rd (lower rd c 3)
  unfolding under under_links under_rule under_step
  links_step c p = ap (λ (u : Unders). u.link) (unders_step c p)

  rule_under : (x : ℕ) → is_rule mode (rd x 0) ≡ true → under_rule mode rd x ≡ under mode rd x
  unfolding under_rule
  rule_under x r = when_true (under mode rd x) 0 (is_rule mode (rd x 0)) r

  other_under : (x : ℕ) → is_rule mode (rd x 0) ≡ false → under_rule mode rd x ≡ 0
  unfolding under_rule
  other_under x r = when_false (under mode rd x) 0 (is_rule mode (rd x 0)) r

  rule_under_zero : under_rule mode rd 0 ≡ 0
  rule_under_zero = go (is_rule mode (rd 0 0)) refl
    where
      go : (b : Bool) → is_rule mode (rd 0 0) ≡ b → under_rule mode rd 0 ≡ 0
      go true e = rule_under 0 e ∙ under_zero
      go false e = other_under 0 e

  pub under_links_lem : (c : ℕ) → 0 < c → is_rule mode (rd (lower rd c 1) 0) ≡ true →
      under_links mode rd c ≡ under mode rd (lower rd c 1) + under_links mode rd (lower rd c 3)
  under_links_lem c p r = links_step c p ∙ ap (λ (n : ℕ). n + under_links mode rd (lower rd c 3)) (rule_under (lower rd c 1) r)

  pub under_links_zero : under_links mode rd 0 ≡ 0
  unfolding under_links
  under_links_zero = ap (λ (u : Unders). u.link) unders_zero

-- `under` of the records that others name.
module _ (mode : ℕ) (rd : Reader) where
  -- 1 for a rule node, and 0 for any other record
  abbrev pub one_rule : ℕ → ℕ
  one_rule x = if_true (is_rule mode (rd x 0)) 1 0

  -- `under` of the rule nodes among records 1 to t, each as often as `times` says
  abbrev under_named : (ℕ → ℕ) → ℕ → ℕ
  under_named times t = sum_to (λ x. times x * under_rule mode rd x) t

  -- named equally often
  same_named : (a b : ℕ → ℕ) (t : ℕ) → ((x : ℕ) → a x ≡ b x) → under_named a t ≡ under_named b t
  same_named a b t h =
      sum_same (λ x. a x * under_rule mode rd x) (λ x. b x * under_rule mode rd x) t (λ x p q. ap (λ (n : ℕ). n * under_rule mode rd x) (h x))

  -- no record named
  none_named : (times : ℕ → ℕ) (t : ℕ) → ((x : ℕ) → times x ≡ 0) → under_named times t ≡ 0
  none_named times t h =
      sum_none (λ x. times x * under_rule mode rd x) t (λ x p q. ap (λ (n : ℕ). n * under_rule mode rd x) (h x) ∙ zero-mul (under_rule mode rd x))

  -- record y named once more
  one_more : (times : ℕ → ℕ) (y t : ℕ) → y ≤ t → under_named (λ x. if_eq y x 1 0 + times x) t ≡ under_rule mode rd y + under_named times t
  one_more times y t h =
      sum_both (under_rule mode rd) (λ x. if_eq y x 1 0) times t
      ∙ ap (λ (n : ℕ). n + under_named times t) (sum_one (under_rule mode rd) y t (rule_under_zero mode rd) h)

  -- a chain names its items
  chain_named : (t c : ℕ) → c ≤ t → under_links mode rd c ≡ under_named (λ x. times_in x (items rd c)) t
  unfolding times_in
  chain_named t = below (λ c. c ≤ t → under_links mode rd c ≡ under_named (λ x. times_in x (items rd c)) t) step
    where
      step : (c : ℕ) → ((j : ℕ) → j < c → j ≤ t → under_links mode rd j ≡ under_named (λ x. times_in x (items rd j)) t) →
          c ≤ t → under_links mode rd c ≡ under_named (λ x. times_in x (items rd c)) t
      step zero ih h = under_links_zero mode rd ∙ sym (none_named (λ x. times_in x (items rd 0)) t (λ x. ap (times_in x) (items_zero rd)))
      step (suc i) ih h =
          let p : 0 < suc i = omega arith in
          let item : lower rd (suc i) 1 < suc i = lower_below rd (suc i) 1 p in
          let rest : lower rd (suc i) 3 < suc i = lower_below rd (suc i) 3 p in
          links_step mode rd (suc i) p
          ∙ ap (λ (n : ℕ). under_rule mode rd (lower rd (suc i) 1) + n) (ih (lower rd (suc i) 3) rest (omega arith))
          ∙ sym (one_more (λ x. times_in x (items rd (lower rd (suc i) 3))) (lower rd (suc i) 1) t (omega arith))
          ∙ ap (λ (xs : List ℕ). under_named (λ x. times_in x xs) t) (sym (items_step rd (suc i) p))

  -- a rule node names its premises
  premises_named : (t j : ℕ) → 0 < j → j ≤ t → under_rule mode rd j ≡ one_rule j + under_named (names_of mode rd j) t
  unfolding premises names_of
  premises_named t j p h = go (is_rule mode (rd j 0)) refl
    where
      go : (b : Bool) → is_rule mode (rd j 0) ≡ b → under_rule mode rd j ≡ one_rule j + under_named (names_of mode rd j) t
      go true e =
          let one : one_rule j ≡ 1 = when_true 1 0 (is_rule mode (rd j 0)) e in
          let less : lower rd j 2 < j = lower_below rd j 2 p in
          let named : under_named (λ x. times_in x (premises rd j)) t ≡ under_named (names_of mode rd j) t =
          same_named (λ x. times_in x (premises rd j)) (names_of mode rd j) t (λ x. sym (names_rule mode rd j x e)) in
          omega (arith, rule_under mode rd j e, under_step_lem mode rd j p, chain_named t (lower rd j 2) (omega arith))
      go false e =
          let one : one_rule j ≡ 0 = when_false 1 0 (is_rule mode (rd j 0)) e in
          let none : under_named (names_of mode rd j) t ≡ 0 = none_named (names_of mode rd j) t (λ x. simp (names_of, e)) in
          omega (arith, other_under mode rd j e)

  -- over records 1 to t, `under` of the rule nodes is their number and `under` of what they name
  all_named : (last t : ℕ) → t ≤ last → sum_to (under_rule mode rd) t ≡ sum_to one_rule t + under_named (λ x. namings mode rd x t) last
  unfolding sum_to namings names_of
  all_named last zero h =
      let none : under_named (λ x. namings mode rd x 0) last ≡ 0 = none_named (λ x. namings mode rd x 0) last (λ x. refl) in omega arith
  all_named last (suc t) h =
      let both : under_named (λ x. namings mode rd x (suc t)) last ≡ under_named (names_of mode rd (suc t)) last + under_named (λ x. namings mode rd x t) last =
      sum_both (under_rule mode rd) (names_of mode rd (suc t)) (λ x. namings mode rd x t) last in
      omega (arith, premises_named last (suc t) (omega arith) h, all_named last t (omega arith))

  -- `under` of the root is the number of rule nodes, where each is named exactly once, counting the root
  root_rules : (root last : ℕ) → root ≤ last → is_rule mode (rd root 0) ≡ true →
      ((x : ℕ) → is_rule mode (rd x 0) ≡ true → if_eq root x 1 0 + namings mode rd x last ≡ 1) → under mode rd root ≡ sum_to one_rule last
  root_rules root last h r once =
      let same : sum_to (under_rule mode rd) last ≡ under_named often last =
      sum_same (under_rule mode rd) (λ x. often x * under_rule mode rd x) last (λ x p q. own x (is_rule mode (rd x 0)) refl) in
      omega (arith, one_more (λ x. namings mode rd x last) root last h, all_named last last (omega arith), rule_under mode rd root r)
    where
      often : ℕ → ℕ
      often x = if_eq root x 1 0 + namings mode rd x last

      own : (x : ℕ) (b : Bool) → is_rule mode (rd x 0) ≡ b → under_rule mode rd x ≡ often x * under_rule mode rd x
      own x true e = sym (ap (λ (n : ℕ). n * under_rule mode rd x) (once x e) ∙ one-mul (under_rule mode rd x))
      own x false e = let none = other_under mode rd x e in none ∙ sym (ap (λ (n : ℕ). often x * n) none ∙ mul-zero (often x))

-- the rule nodes of an accepted file are records of the second file
few_rules : (mode : ℕ) (ob s : List ℕ) → ReadObligation ob → ReadSecond mode ob s → sum_to (one_rule mode (beside ob s)) (last_of ob s) ≤ count_of s
unfolding if_true
few_rules mode ob s r t =
    sum_most (one_rule mode (beside ob s)) (count_of ob) (count_of s)
    (λ x p q. none x q (is_rule mode (beside ob s x 0)) refl) (λ x. most (is_rule mode (beside ob s x 0)))
  where
    none : (x : ℕ) → x ≤ count_of ob → (b : Bool) → is_rule mode (beside ob s x 0) ≡ b → one_rule mode (beside ob s) x ≡ 0
    none x q true e = let low : count_of ob + 1 ≤ x = (rule_range mode ob s r t x e).0 in absurd (omega arith)
    none x q false e = when_false 1 0 (is_rule mode (beside ob s x 0)) e

    most : (b : Bool) → if_true b 1 0 ≤ 1
    most true = omega arith
    most false = omega arith

-- from the root of an accepted file a walk can enter every rule node
pub root_all : (mode : ℕ) (ob s : List ℕ) → ReadObligation ob → ReadSecond mode ob s →
    under mode (beside ob s) (root_of s) ≡ sum_to (one_rule mode (beside ob s)) (last_of ob s)
root_all mode ob s r t =
    root_rules mode (beside ob s) (root_of s) (last_of ob s) (root_range mode ob s r t).1 t.root (rule_once mode ob s r t)

-- so at most as many nodes as the second file has records
pub root_under : (mode : ℕ) (ob s : List ℕ) → ReadObligation ob → ReadSecond mode ob s → under mode (beside ob s) (root_of s) ≤ count_of s
root_under mode ob s r t = omega (arith, root_all mode ob s r t, few_rules mode ob s r t)
