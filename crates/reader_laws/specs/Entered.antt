-- A walk over rule nodes, of any calculus, enters no more nodes than `under` says, and where it accepts, exactly as many.
use Rattle.std.specs.Prelude.{ℕ, zero, suc, ◌+◌, ◌<◌, ◌≤◌, ◌≡◌, Bool}
use Rattle.std.proofs.Math.Path.{refl, sym, ap}
use Rattle.std.proofs.Common.{◌∙◌, arith}
use mathlib.Core.List.{List, [], ◌∷◌}
use Rattle.std.proofs.Math.Bool.{true, false}
use Rattle.std.proofs.Math.Dec.{eqb}
use borrow.Author.Tests.{eqb-true, eqb-false}
use Rattle.reader.specs.declared.Answer.{Answer}
use Rattle.reader.specs.Words.{Reader}
use Rattle.reader.specs.Tests.{every}
use Rattle.reader.specs.Kinds.{is_rule}
use Rattle.reader.specs.Trees.{lower}
use Rattle.reader.specs.Chains.{items, premises}
use Rattle.reader.specs.TreeLaws.{below, lower_below, items_step, items_end, items_more}
use Rattle.reader.specs.Walk.{walk_node, walk_links}
use Rattle.reader.specs.WalkLaws.{node_zero, node_go, node_stop, link_zero, link_go, link_stop, Each, Inherited, sound}
use Rattle.reader_laws.specs.Scan.{every_head}
use Rattle.reader_laws.specs.Under.{under, under_links, under_step_lem, under_links_lem, under_links_zero}

-- A walk whose nodes, where they pass their tests, have rule nodes for premises.
module _ {S : Type 0} (mode : ℕ) (rd : Reader) (fault : S → ℕ → ℕ) (next : S → ℕ → ℕ → S)
    (rules : (st : S) (n : ℕ) → fault st n ≡ 0 → every (λ x. is_rule mode (rd x 0)) (premises rd n) ≡ true) where
  -- the walk at a node, and at a link
  abbrev visit : ℕ → S → ℕ → Answer
  visit = walk_node rd fault next

  abbrev follow : ℕ → ℕ → ℕ → S → ℕ → Answer
  follow = walk_links rd fault next

  -- the claim at a node, and at a link of a chain of rule nodes
  abbrev AtNode : ℕ → Type 0
  AtNode n = (st : S) (count : ℕ) → is_rule mode (rd n 0) ≡ true → (visit n st count).nodes ≤ count + under mode rd n

  abbrev AtLink : ℕ → Type 0
  AtLink c = (n b : ℕ) (st : S) (count : ℕ) → every (λ x. is_rule mode (rd x 0)) (items rd c) ≡ true →
      (follow c n b st count).nodes ≤ count + under_links mode rd c

  record Counted (i : ℕ) : Type 0 where
    at_node : AtNode i
    at_link : AtLink i

  -- record 0
  no_node : AtNode 0
  no_node st count r =
      let same : (visit 0 st count).nodes ≡ count = ap (λ (a : Answer). a.nodes) (node_zero rd fault next st count) in omega arith

  no_link : AtLink 0
  no_link n b st count h =
      let same : (follow 0 n b st count).nodes ≡ count = ap (λ (a : Answer). a.nodes) (link_zero rd fault next n b st count) in omega arith

  -- a node, from its chain of premises
  node_turn : (n : ℕ) → 0 < n → AtLink (lower rd n 2) → AtNode n
  unfolding premises
  node_turn n p links st count r = go (eqb (fault st n) 0) refl
    where
      go : (b : Bool) → eqb (fault st n) 0 ≡ b → (visit n st count).nodes ≤ count + under mode rd n
      go true e =
          let pass : fault st n ≡ 0 = eqb-true (fault st n) 0 e in
          let same : (visit n st count).nodes ≡ (follow (lower rd n 2) n 0 st (count + 1)).nodes =
          ap (λ (a : Answer). a.nodes) (node_go rd fault next n st count p pass) in
          omega (arith, links n 0 st (count + 1) (rules st n pass), under_step_lem mode rd n p)
      go false e =
          let same : (visit n st count).nodes ≡ count + 1 =
          ap (λ (a : Answer). a.nodes) (node_stop rd fault next n st count p (eqb-false (fault st n) 0 e)) in
          omega (arith, under_step_lem mode rd n p)

  -- a link, from its item and the link after it
  module _ (c : ℕ) (p : 0 < c) (item : AtNode (lower rd c 1)) (rest : AtLink (lower rd c 3)) (n b : ℕ) (st : S) (count : ℕ) where
    abbrev first : Answer
    first = visit (lower rd c 1) (next st n b) count

    link_on : is_rule mode (rd (lower rd c 1) 0) ≡ true → every (λ x. is_rule mode (rd x 0)) (items rd (lower rd c 3)) ≡ true →
        (follow c n b st count).nodes ≤ count + under_links mode rd c
    link_on r all = go (eqb first.refusal 0) refl
      where
        own : first.nodes ≤ count + under mode rd (lower rd c 1)
        own = item (next st n b) count r

        go : (v : Bool) → eqb first.refusal 0 ≡ v → (follow c n b st count).nodes ≤ count + under_links mode rd c
        go true e =
            let same : (follow c n b st count).nodes ≡ (follow (lower rd c 3) n (b + 1) st first.nodes).nodes =
            ap (λ (a : Answer). a.nodes) (link_go rd fault next n b st count c p (eqb-true first.refusal 0 e)) in
            omega (arith, own, rest n (b + 1) st first.nodes all, under_links_lem mode rd c p r)
        go false e =
            let same : (follow c n b st count).nodes ≡ first.nodes =
            ap (λ (a : Answer). a.nodes) (link_stop rd fault next n b st count c p (eqb-false first.refusal 0 e)) in
            omega (arith, own, under_links_lem mode rd c p r)

  link_turn : (c : ℕ) → 0 < c → AtNode (lower rd c 1) → AtLink (lower rd c 3) → AtLink c
  link_turn c p item rest n b st count h =
      let parts = every_head (λ x. is_rule mode (rd x 0)) (lower rd c 1) (items rd (lower rd c 3)) (rw (items_step rd c p) at h) in
      link_on c p item rest n b st count parts.0 parts.1

  counted : (i : ℕ) → Counted i
  counted = below Counted step
    where
      step : (i : ℕ) → ((j : ℕ) → j < i → Counted j) → Counted i
      step zero ih = record { at_node = no_node; at_link = no_link }
      step (suc i) ih =
          let p : 0 < suc i = omega arith in
          let item = ih (lower rd (suc i) 1) (lower_below rd (suc i) 1 p) in
          let links = ih (lower rd (suc i) 2) (lower_below rd (suc i) 2 p) in
          let rest = ih (lower rd (suc i) 3) (lower_below rd (suc i) 3 p) in
          record { at_node = node_turn (suc i) p links.at_link; at_link = link_turn (suc i) p item.at_node rest.at_link }

  -- the walk from node n enters at most `under n` nodes
  pub node_count : (n : ℕ) (st : S) (count : ℕ) → is_rule mode (rd n 0) ≡ true → (walk_node rd fault next n st count).nodes ≤ count + under mode rd n
  node_count n = (counted n).at_node

  -- and along a chain of rule nodes, from link c on, at most `under_links c`
  pub link_count : (c n b : ℕ) (st : S) (count : ℕ) → every (λ x. is_rule mode (rd x 0)) (items rd c) ≡ true →
      (walk_links rd fault next c n b st count).nodes ≤ count + under_links mode rd c
  link_count c = (counted c).at_link

  -- An accepting walk from a rule node enters every node that `under` counts.
  abbrev Full : S → ℕ → ℕ → Type 0
  Full st n k = is_rule mode (rd n 0) ≡ true → k ≡ under mode rd n

  -- along a chain of rule nodes, from link c on
  links_full : (c n b : ℕ) (st : S) (xs : List ℕ) (k : ℕ) → items rd c ≡ xs → every (λ x. is_rule mode (rd x 0)) xs ≡ true →
      Each Full next st n b xs k → k ≡ under_links mode rd c
  unfolding Each
  links_full c n b st [] k e all h = h ∙ sym (ap (under_links mode rd) (items_end rd c e) ∙ under_links_zero mode rd)
  links_full c n b st (x ∷ xs) k e all h =
      let p = items_more rd c x xs e in
      let r = every_head (λ y. is_rule mode (rd y 0)) x xs all in
      let rest = links_full (lower rd c 3) n (b + 1) st xs h.1 p.2 r.1 h.3 in
      omega (arith, h.4, h.2 r.0, rest, under_links_lem mode rd c p.0 (rw p.1 r.0), ap (under mode rd) p.1)

  node_full : Inherited rd fault next Full
  unfolding premises
  node_full st n k p pass h r =
      omega (arith, under_step_lem mode rd n p, links_full (lower rd n 2) n 0 st (premises rd n) k refl (rules st n pass) h)

  -- an accepting walk from rule node n enters exactly `under n` nodes
  pub accepted_count : (n : ℕ) (st : S) (count : ℕ) → is_rule mode (rd n 0) ≡ true → (walk_node rd fault next n st count).refusal ≡ 0 →
      (walk_node rd fault next n st count).nodes ≡ count + under mode rd n
  accepted_count n st count r h =
      let s = sound rd fault next Full node_full n st count h in omega (arith, ap (λ (a : Answer). a.nodes) s.2, s.1 r)
