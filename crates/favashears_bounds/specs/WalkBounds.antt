-- The answers of a walk over rule nodes, of any calculus: refusals are the nodes' own, in file 2, at the node where the walk began or one of a smaller number.
use Rattle.std.specs.Prelude.{ℕ, zero, suc, ◌+◌, ◌<◌, ◌≤◌, ◌≡◌, refl, Bool, true, false, eqb}
use Rattle.std.proofs.Common.{sym, subst, arith, eqb-true}
use Rattle.std.proofs.lemmas.Bool.{eqb-false}
use Rattle.reader.specs.declared.Answer.{Answer}
use Rattle.reader.specs.Words.{Reader}
use Rattle.reader.specs.Trees.{lower}
use Rattle.reader.specs.TreeLaws.{below, lower_below}
use Rattle.reader.specs.Walk.{walk_node, walk_links}
use Rattle.reader.specs.WalkLaws.{node_zero, node_go, node_stop, link_zero, link_go, link_stop}

-- an answer of the walk from record n on
pub record Within (n : ℕ) (a : Answer) : Type 0 where
  pub refusal_at_most : a.refusal ≤ 19
  pub file_at_most : a.file ≤ 2
  pub record_at_most : a.at ≤ n

-- so it is from a greater record on
within_more : {n p : ℕ} {a : Answer} → n ≤ p → Within n a → Within p a
within_more {n = n} {p = p} {a = a} h w = record {
  refusal_at_most = w.refusal_at_most;
  file_at_most = w.file_at_most;
  record_at_most = let own : a.at ≤ n = w.record_at_most in omega arith;
}

module _ {S : Type 0} (rd : Reader) (fault : S → ℕ → ℕ) (next : S → ℕ → ℕ → S) (most : (st : S) (n : ℕ) → fault st n ≤ 19) where
  abbrev visit : ℕ → S → ℕ → Answer
  visit = walk_node rd fault next

  abbrev follow : ℕ → ℕ → ℕ → S → ℕ → Answer
  follow = walk_links rd fault next

  record Walked (i : ℕ) : Type 0 where
    at_node : (st : S) (count : ℕ) → Within i (visit i st count)
    at_link : (n b : ℕ) (st : S) (count : ℕ) → Within i (follow i n b st count)

  -- record 0
  no_node : (st : S) (count : ℕ) → Within 0 (visit 0 st count)
  no_node st count =
      subst (Within 0) (sym (node_zero rd fault next st count))
      (record { refusal_at_most = omega arith; file_at_most = omega arith; record_at_most = omega arith })

  no_link : (n b : ℕ) (st : S) (count : ℕ) → Within 0 (follow 0 n b st count)
  no_link n b st count =
      subst (Within 0) (sym (link_zero rd fault next n b st count))
      (record { refusal_at_most = omega arith; file_at_most = omega arith; record_at_most = omega arith })

  -- a node, from its chain of premises
  node_turn : (n : ℕ) → 0 < n → Walked (lower rd n 2) → (st : S) (count : ℕ) → Within n (visit n st count)
  node_turn n p links st count = go (eqb (fault st n) 0) refl
    where
      go : (b : Bool) → eqb (fault st n) 0 ≡ b → Within n (visit n st count)
      go true e =
          subst (Within n) (sym (node_go rd fault next n st count p (eqb-true (fault st n) 0 e)))
          (within_more (omega (arith, lower_below rd n 2 p)) (links.at_link n 0 st (count + 1)))
      go false e =
          subst (Within n) (sym (node_stop rd fault next n st count p (eqb-false (fault st n) 0 e)))
          (record { refusal_at_most = most st n; file_at_most = omega arith; record_at_most = omega arith })

  -- a link, from its item and the link after it
  link_turn : (c : ℕ) → 0 < c → Walked (lower rd c 1) → Walked (lower rd c 3) → (n b : ℕ) (st : S) (count : ℕ) → Within c (follow c n b st count)
  link_turn c p item rest n b st count = go (eqb (visit (lower rd c 1) (next st n b) count).refusal 0) refl
    where
      go : (v : Bool) → eqb (visit (lower rd c 1) (next st n b) count).refusal 0 ≡ v → Within c (follow c n b st count)
      go true e =
          subst (Within c) (sym (link_go rd fault next n b st count c p (eqb-true _ 0 e)))
          (within_more (omega (arith, lower_below rd c 3 p)) (rest.at_link n (b + 1) st (visit (lower rd c 1) (next st n b) count).nodes))
      go false e =
          subst (Within c) (sym (link_stop rd fault next n b st count c p (eqb-false _ 0 e)))
          (within_more (omega (arith, lower_below rd c 1 p)) (item.at_node (next st n b) count))

  walked : (i : ℕ) → Walked i
  walked = below Walked step
    where
      step : (i : ℕ) → ((j : ℕ) → j < i → Walked j) → Walked i
      step zero ih = record { at_node = no_node; at_link = no_link }
      step (suc i) ih =
          let p : 0 < suc i = omega arith in
          let item = ih (lower rd (suc i) 1) (lower_below rd (suc i) 1 p) in
          let links = ih (lower rd (suc i) 2) (lower_below rd (suc i) 2 p) in
          let rest = ih (lower rd (suc i) 3) (lower_below rd (suc i) 3 p) in
          record { at_node = node_turn (suc i) p links; at_link = link_turn (suc i) p item rest }

  pub node_within : (n : ℕ) (st : S) (count : ℕ) → Within n (walk_node rd fault next n st count)
  node_within n = (walked n).at_node
