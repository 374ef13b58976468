-- A record of the kinds that templates write is without a fault where its words fit their roles and what it names is light.
use Rattle.std.specs.Prelude.{ℕ, ◌+◌, ◌<◌, ◌≤◌, ◌≡◌, refl, Bool, false, ltb, length}
use Rattle.std.proofs.Common.{sym, ◌∙◌, arith}
use Rattle.std.proofs.Math.Path.{ap}
use Rattle.std.proofs.Math.Bool.{true}
use Rattle.std.proofs.Math.Dec.{leb}
use borrow.Author.Tests.{eq-eqb, lt-ltb, le-leb}
use Rattle.reader.specs.Words.{Reader}
use Rattle.reader.specs.Tests.{between, if_eq, if_lt}
use Rattle.reader.specs.Kinds.{class, class_at, role, role_at, is_rule, is_kind}
use Rattle.reader.specs.Trees.{Tree, node, lower, child, atom, tree}
use Rattle.reader.specs.TreeLaws.{tree_zero, tree_step_lem, linked_zero}
use Rattle.reader.specs.Chains.{linked}
use Rattle.reader.specs.Weight.{is_weighed, own_weight, weight}
use Rattle.reader.specs.Names.{name_of, is_name}
use Rattle.reader.specs.Records.{in_range, range_at, may_be_zero, wanted_class, item_class, has_class, items_have_class, refers, refers_at}
use Rattle.reader.specs.Records.{name_length_fits, item_chains_fit, most_weight, weight_fits, name_spelled, name_is_free, typing_fits}
use Rattle.reader_laws.specs.Scan.{both_join, between_parts, when_equal, when_different, when_less, when_not_less}
use Rattle.reader_laws.specs.Record.{Sound, role_known}
use Rattle.translation_records.specs.Choices.{choose_equal, choose_less, choose_true}
use Rattle.translation_records.specs.Fits.{is_written}

-- one of the kinds that templates write
pub written_cases : {C : Type 0} (k : ℕ) → is_written k ≡ true →
    (k ≡ 1 → C) → (k ≡ 9 → C) → (k ≡ 18 → C) → (k ≡ 20 → C) → (64 ≤ k → k ≤ 80 → C) → C
unfolding is_written
written_cases {C} k h link bound not equal rule =
    let Claim : Bool → Type 0 = λ t. t ≡ true → C in
    choose_equal Claim k 1 (λ e t. link e)
    (λ _. choose_equal Claim k 9 (λ e t. bound e)
    (λ _. choose_equal Claim k 18 (λ e t. not e)
    (λ _. choose_equal Claim k 20 (λ e t. equal e)
    (λ _ t. rule (between_parts 64 80 k t).0 (between_parts 64 80 k t).1)))) h

-- none of them is a symbol or an application
written_plain : (k : ℕ) → is_written k ≡ true → (k ≡ 3 → ⊥) × (k ≡ 7 → ⊥) × (k ≡ 8 → ⊥) × (k ≡ 13 → ⊥)
written_plain k h =
    written_cases k h (λ e. omega arith) (λ e. omega arith) (λ e. omega arith) (λ e. omega arith) (λ p q. omega arith)

-- each is a kind of a derivation
written_kind : (k : ℕ) → is_written k ≡ true → is_kind 2 k ≡ true
unfolding is_kind is_rule if_eq if_lt between
written_kind k h =
    written_cases k h (λ e. rw e) (λ e. rw e) (λ e. rw e) (λ e. rw e)
    (λ p q. when_not_less (ltb 0 k) (is_rule 2 k) k 24 (omega arith) ∙ when_not_less false (leb k 80) k 64 p ∙ le-leb k 80 q)

-- references: 0 where that may be, or a smaller record of the wanted class
pub refers_none : (rd : Reader) (i r : ℕ) → may_be_zero r ≡ true → refers rd i r 0 ≡ true
unfolding refers if_eq
refers_none rd i r h = choose_less (λ (t : Bool). t ≡ true) r 6 (λ _. refl) (λ _. h)

pub refers_to : (rd : Reader) (i r a : ℕ) → 1 ≤ a → a < i → has_class rd (wanted_class r) a ≡ true → item_class r ≡ 0 → refers rd i r a ≡ true
unfolding refers items_have_class
refers_to rd i r a p q h none =
    let Holds : Bool → Type 0 = λ t. t ≡ true in
    choose_less Holds r 6 (λ _. refl)
    (λ _. choose_equal Holds a 0 (λ z. absurd (omega arith))
    (λ _. both_join _ _ (lt-ltb a i q) (both_join _ _ h (when_equal true _ (item_class r) 0 none))))

pub has_class_lem : (rd : Reader) (c a : ℕ) → class (rd a 0) ≡ c → has_class rd c a ≡ true
unfolding has_class class_at
has_class_lem rd c a e = choose_equal (λ (t : Bool). t ≡ true) c 0 (λ _. refl) (λ _. eq-eqb (class (rd a 0)) c e)

-- Weights.
weight_zero : (rd : Reader) → weight (tree rd 0) ≡ 0
unfolding weight
weight_zero rd = ap weight (tree_zero rd)

-- what a word names weighs no less than the part of the record's tree that it gives
pub child_weight : (rd : Reader) (i w : ℕ) → weight (tree rd (child rd i w)) ≤ weight (tree rd (rd i w))
unfolding child lower
child_weight rd i w =
    let Light : ℕ → Type 0 = λ x. weight (tree rd x) ≤ weight (tree rd (rd i w)) in
    let none : Light 0 = omega (arith, weight_zero rd) in
    choose_less Light (role_at rd i w) 10 (λ _. none) (λ _. choose_less Light (rd i w) i (λ _. omega arith) (λ _. none))

-- a word that is no part of the record's tree gives no weight
pub no_weight : (rd : Reader) (i w : ℕ) → role_at rd i w < 10 → weight (tree rd (child rd i w)) ≡ 0
unfolding child
no_weight rd i w h = ap (λ (x : ℕ). weight (tree rd x)) (when_less 0 (lower rd i w) (role_at rd i w) 10 h) ∙ weight_zero rd

node_weight : (k a : ℕ) (x y z : Tree) → weight (node k a x y z) ≤ 1 + weight x + weight y + weight z
unfolding weight own_weight if_eq
node_weight k a x y z =
    let own = choose_true (λ (n : ℕ). n ≤ 1) {x = 1} {y = 0} (is_weighed k) (λ _. omega arith) (λ _. omega arith) in
    choose_equal (λ (n : ℕ). n ≤ 1 + weight x + weight y + weight z) k 7 (λ _. omega arith) (λ _. omega arith)

-- a record weighs at most 1 and its parts
pub record_weight : (rd : Reader) (i : ℕ) → 1 ≤ i →
    weight (tree rd i) ≤ 1 + weight (tree rd (child rd i 1)) + weight (tree rd (child rd i 2)) + weight (tree rd (child rd i 3))
record_weight rd i p = rw (tree_step_lem rd i p) (node_weight (rd i 0) (atom rd i) (tree rd (child rd i 1)) (tree rd (child rd i 2)) (tree rd (child rd i 3)))

-- A record of a kind that templates write.
module _ (rd : Reader) (i k : ℕ) (e : rd i 0 ≡ k) (is : is_written k ≡ true) where
  nameless : name_of rd i ≡ 0
  unfolding name_of
  nameless =
      let p = written_plain k is in
      when_different _ _ (rd i 0) 3 (λ q. p.0 (sym e ∙ q))
      ∙ when_different _ _ (rd i 0) 7 (λ q. p.1 (sym e ∙ q)) ∙ when_different _ _ (rd i 0) 8 (λ q. p.2 (sym e ∙ q))

  chainless : item_chains_fit rd i ≡ true
  unfolding item_chains_fit
  chainless =
      let p = written_plain k is in
      when_different _ _ (rd i 0) 8 (λ q. p.2 (sym e ∙ q)) ∙ when_different _ _ (rd i 0) 13 (λ q. p.3 (sym e ∙ q))

  -- a link and a rule node have no weight; any other has at most 1 and three parts' weights
  light : (is_weighed k ≡ true → weight (tree rd i) ≤ 16384) → weight_fits 2 rd i ≡ true
  unfolding weight_fits most_weight if_eq
  light most =
      choose_true (λ (t : Bool). t ≡ true) (is_weighed (rd i 0))
      (λ h. le-leb (weight (tree rd i)) 16384 (most (sym (ap is_weighed e) ∙ h))) (λ _. refl)

  pub written_sound : ((w : ℕ) → 1 ≤ w → w ≤ 3 → (in_range (role k w) (rd i w) ≡ true) × (refers rd i (role k w) (rd i w) ≡ true)) →
      (is_weighed k ≡ true → weight (tree rd i) ≤ 16384) → Sound 2 rd i
  unfolding range_at refers_at name_length_fits name_spelled name_is_free typing_fits if_eq
  written_sound fits most = record {
    kind = ap (is_kind 2) e ∙ written_kind k is;
    range = λ w p q. ap (λ (r : ℕ). in_range r (rd i w)) (role_known rd i w k e) ∙ (fits w p q).0;
    reference = λ w p q. ap (λ (r : ℕ). refers rd i r (rd i w)) (role_known rd i w k e) ∙ (fits w p q).1;
    name_length = ap (λ (n : ℕ). leb (length (linked rd n)) 4) nameless ∙ ap (λ xs. leb (length xs) 4) (linked_zero rd);
    chains = chainless;
    weighs = light most;
    named = when_equal true (is_name rd i) (name_of rd i) 0 nameless;
    free = when_equal true _ (name_of rd i) 0 nameless;
    typed = refl;
  }
