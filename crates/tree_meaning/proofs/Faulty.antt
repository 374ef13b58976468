-- Where the walk refuses, the last node that it enters is the record that its answer names.
use Rattle.std.specs.Prelude.{ℕ, zero, suc, ◌+◌, ◌<◌, ◌≡◌, Bool}
use Rattle.std.proofs.Math.Path.{refl, ap}
use Rattle.std.proofs.Common.{sym, ◌∙◌, arith}
use mathlib.Core.List.{List, [], ◌∷◌, ◌++◌, append_assoc}
use Rattle.std.proofs.Math.Bool.{true, false}
use Rattle.std.proofs.Math.Dec.{eqb}
use borrow.Author.Tests.{eqb-true, eqb-false}
use Rattle.reader.specs.declared.Answer.{Answer}
use Rattle.reader.specs.Words.{Reader}
use Rattle.reader.specs.Tests.{every}
use Rattle.reader.specs.Kinds.{is_rule}
use Rattle.reader.specs.Trees.{lower}
use Rattle.reader.specs.Chains.{items, premises}
use Rattle.reader.specs.TreeLaws.{below, lower_below, items_step}
use Rattle.reader.specs.Walk.{walk_node, walk_links}
use Rattle.reader.specs.WalkLaws.{node_go, node_stop, link_go, link_stop}
use Rattle.reader_laws.specs.Scan.{not_both_values, every_head}
use Rattle.tree_rules.specs.Order.{Node, node_at}
use Rattle.tree_meaning.specs.Walked.{Visit, with_first, go_on, Visits, visit_node, visit_from, EndsAt}
use Rattle.tree_meaning.proofs.WalkedLaws.{visited, followed, visits_zero, visited_node, visited_link, walk_entered}

-- nodes before others
ends_after : (r : ℕ) (earlier nodes : List Node) → EndsAt r nodes → EndsAt r (earlier ++ nodes)
ends_after r earlier nodes e = record {
  first = earlier ++ e.first;
  depth = e.depth;
  whole = ap (λ (l : List Node). earlier ++ l) e.whole ∙ sym (append_assoc earlier e.first (node_at e.depth r ∷ []));
}

-- A walk whose nodes, where they pass their tests, have rule nodes for premises; record 0 is none.
module _ {S : Type 0} (mode : ℕ) (rd : Reader) (fault : S → ℕ → ℕ) (next : S → ℕ → ℕ → S)
    (rules : (st : S) (n : ℕ) → fault st n ≡ 0 → every (λ x. is_rule mode (rd x 0)) (premises rd n) ≡ true)
    (header : is_rule mode (rd 0 0) ≡ false) where
  record Faulty (i : ℕ) : Type 0 where
    at_node : (st : S) (count depth : ℕ) → is_rule mode (rd i 0) ≡ true → (visited rd fault next i st depth).passes ≡ false →
        EndsAt (walk_node rd fault next i st count).at (visited rd fault next i st depth).nodes
    at_link : (n b : ℕ) (st : S) (count depth : ℕ) → every (λ x. is_rule mode (rd x 0)) (items rd i) ≡ true →
        (followed rd fault next i n b st depth).passes ≡ false →
        EndsAt (walk_links rd fault next i n b st count).at (followed rd fault next i n b st depth).nodes

  node_turn : (n : ℕ) → 0 < n → Faulty (lower rd n 2) → (st : S) (count depth : ℕ) → (visited rd fault next n st depth).passes ≡ false →
      EndsAt (walk_node rd fault next n st count).at (visited rd fault next n st depth).nodes
  unfolding visit_node premises
  node_turn n p links st count depth fails = go (eqb (fault st n) 0) refl
    where
      go : (t : Bool) → eqb (fault st n) 0 ≡ t → EndsAt (walk_node rd fault next n st count).at (visited rd fault next n st depth).nodes
      go true e =
          let pass : fault st n ≡ 0 = eqb-true (fault st n) 0 e in
          let chain : Visit = followed rd fault next (lower rd n 2) n 0 st (depth + 1) in
          let own : visited rd fault next n st depth ≡ with_first (node_at depth n) chain = visited_node rd fault next n p st count depth ∙ simp (visit_node, pass) in
          let same : (walk_node rd fault next n st count).at ≡ (walk_links rd fault next (lower rd n 2) n 0 st (count + 1)).at =
          ap (λ (a : Answer). a.at) (node_go rd fault next n st count p pass) in
          let chain_fails : chain.passes ≡ false = ap (λ (x : Visit). x.passes) (sym own) ∙ fails in
          rw (same, own) (ends_after _ (node_at depth n ∷ []) chain.nodes (links.at_link n 0 st (count + 1) (depth + 1) (rules st n pass) chain_fails))
      go false e =
          let wrong = eqb-false (fault st n) 0 e in
          let own : visited rd fault next n st depth ≡ record { passes = false; nodes = node_at depth n ∷ [] } =
          visited_node rd fault next n p st count depth ∙ simp (visit_node, e) in
          let same : (walk_node rd fault next n st count).at ≡ n = ap (λ (a : Answer). a.at) (node_stop rd fault next n st count p wrong) in
          rw (same, own) (record { first = []; depth = depth; whole = refl })

  -- a link, from its item and the link after it
  module _ (c : ℕ) (p : 0 < c) (item : Faulty (lower rd c 1)) (rest : Faulty (lower rd c 3)) (n b : ℕ) (st : S) (count depth : ℕ)
      (all : every (λ x. is_rule mode (rd x 0)) (items rd c) ≡ true) (fails : (followed rd fault next c n b st depth).passes ≡ false) where
    abbrev first : Answer
    first = walk_node rd fault next (lower rd c 1) (next st n b) count

    abbrev one : Visit
    one = visited rd fault next (lower rd c 1) (next st n b) depth

    abbrev others : Visit
    others = followed rd fault next (lower rd c 3) n (b + 1) st depth

    nodes_all : (is_rule mode (rd (lower rd c 1) 0) ≡ true) × (every (λ x. is_rule mode (rd x 0)) (items rd (lower rd c 3)) ≡ true)
    nodes_all = every_head (λ x. is_rule mode (rd x 0)) (lower rd c 1) (items rd (lower rd c 3)) (rw (items_step rd c p) at all)

    link_turn : EndsAt (walk_links rd fault next c n b st count).at (followed rd fault next c n b st depth).nodes
    unfolding go_on visit_from
    link_turn = go one.passes refl
      where
        accepts : eqb first.refusal 0 ≡ one.passes
        accepts = (walk_entered rd fault next (lower rd c 1) (next st n b) count depth).accepts

        go : (t : Bool) → one.passes ≡ t → EndsAt (walk_links rd fault next c n b st count).at (followed rd fault next c n b st depth).nodes
        go true e =
            let own : followed rd fault next c n b st depth ≡ record { passes = others.passes; nodes = one.nodes ++ others.nodes } =
            visited_link rd fault next c p n b st count depth ∙ simp (go_on, e) in
            let same : (walk_links rd fault next c n b st count).at ≡ (walk_links rd fault next (lower rd c 3) n (b + 1) st first.nodes).at =
            ap (λ (a : Answer). a.at) (link_go rd fault next n b st count c p (eqb-true _ 0 (accepts ∙ e))) in
            let others_fail : others.passes ≡ false = ap (λ (x : Visit). x.passes) (sym own) ∙ fails in
            rw (same, own) (ends_after _ one.nodes others.nodes (rest.at_link n (b + 1) st first.nodes depth nodes_all.1 others_fail))
        go false e =
            let own : followed rd fault next c n b st depth ≡ one = visited_link rd fault next c p n b st count depth ∙ simp (go_on, e) in
            let same : (walk_links rd fault next c n b st count).at ≡ first.at =
            ap (λ (a : Answer). a.at) (link_stop rd fault next n b st count c p (eqb-false _ 0 (accepts ∙ e))) in
            rw (same, own) (item.at_node (next st n b) count depth nodes_all.0 e)

  faulty : (i : ℕ) → Faulty i
  faulty = below Faulty step
    where
      no_link : (n b : ℕ) (st : S) (depth : ℕ) → (followed rd fault next 0 n b st depth).passes ≡ true
      no_link n b st depth = ap (λ (w : Visits S). (w.link n b st depth).passes) (visits_zero rd fault next)

      step : (i : ℕ) → ((j : ℕ) → j < i → Faulty j) → Faulty i
      step zero ih = record {
        at_node = λ st count depth r fails. not_both_values (is_rule mode (rd 0 0)) r header;
        at_link = λ n b st count depth all fails. not_both_values (followed rd fault next 0 n b st depth).passes (no_link n b st depth) fails;
      }
      step (suc i) ih =
          let p : 0 < suc i = omega arith in
          let item = ih (lower rd (suc i) 1) (lower_below rd (suc i) 1 p) in
          let links = ih (lower rd (suc i) 2) (lower_below rd (suc i) 2 p) in
          let rest = ih (lower rd (suc i) 3) (lower_below rd (suc i) 3 p) in
          record { at_node = λ st count depth r fails. node_turn (suc i) p links st count depth fails; at_link = link_turn (suc i) p item rest }

  -- the walk from rule node n
  pub walk_faulty : (n : ℕ) (st : S) (count depth : ℕ) → is_rule mode (rd n 0) ≡ true → (visit_from rd fault next n st depth).passes ≡ false →
      EndsAt (walk_node rd fault next n st count).at (visit_from rd fault next n st depth).nodes
  unfolding visit_from
  walk_faulty n = (faulty n).at_node
