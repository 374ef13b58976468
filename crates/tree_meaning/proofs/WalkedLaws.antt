-- The walk enters as many nodes as it counts, the first ones in walk order, and all of them where it accepts.
use Rattle.std.specs.Prelude.{ℕ, zero, suc, ◌+◌, ◌<◌, ◌≡◌, refl, Bool, eqb, length, take}
use Rattle.std.proofs.Math.Path.{sym, ap}
use Rattle.std.proofs.Common.{◌∙◌, arith}
use mathlib.Core.List.{List, [], ◌∷◌, ◌++◌, append_assoc, append-nil}
use Rattle.std.proofs.Math.Bool.{true, false}
use Rattle.std.proofs.lemmas.Bool.{false≢true}
use Rattle.std.proofs.Math.ListN.{length-append}
use Rattle.std.proofs.Math.Seq.{take-append_seam}
use borrow.Author.Tests.{eqb-true, eqb-false, eq-eqb, ne_eqb}
use Rattle.reader.specs.declared.Answer.{Answer}
use Rattle.reader.specs.Words.{Reader}
use Rattle.reader.specs.DownLaws.{Local, down_zero, down_step}
use Rattle.reader.specs.Trees.{lower}
use Rattle.reader.specs.TreeLaws.{below, lower_below}
use Rattle.reader.specs.Walk.{walk_node, walk_links}
use Rattle.reader.specs.WalkLaws.{node_zero, node_go, node_stop, link_zero, link_go, link_stop}
use Rattle.tree_rules.specs.Order.{Node, node_at, order}
use Rattle.tree_rules.specs.OrderLaws.{order_from, order_zero, order_node, order_end, order_link}
use Rattle.tree_meaning.specs.Walked.{Visit, go_on, Visits, visit_node, visit_link, visit_step, no_visits, visits, visit_from}

-- The walk answers a, having counted `count` nodes before, and enters e; `all` are the nodes that it would enter if no test failed.
pub record Agrees (a : Answer) (count : ℕ) (e : Visit) (all : List Node) : Type 0 where
  pub accepts : eqb a.refusal 0 ≡ e.passes
  pub counts : a.nodes ≡ count + length e.nodes
  pub rest : List Node
  pub whole : all ≡ e.nodes ++ rest
  pub none : e.passes ≡ true → rest ≡ []

-- where it accepts, it enters all
pub all_entered : {a : Answer} {count : ℕ} {e : Visit} {all : List Node} → Agrees a count e all → e.passes ≡ true → all ≡ e.nodes
all_entered {e = e} w h = w.whole ∙ ap (λ (l : List Node). e.nodes ++ l) (w.none h) ∙ append-nil e.nodes

-- the nodes entered are the first ones
pub first_entered : {a : Answer} {e : Visit} {all : List Node} → Agrees a 0 e all → take a.nodes all ≡ e.nodes
first_entered {a = a} {e = e} w = let n : a.nodes ≡ length e.nodes = omega (arith, w.counts) in rw (n, w.whole) (take-append_seam e.nodes w.rest)

module _ {S : Type 0} (rd : Reader) (fault : S → ℕ → ℕ) (next : S → ℕ → ℕ → S) where
  visits_local : Local (visit_step rd fault next)
  unfolding visit_step
  visits_local f g i p h = rw (h _ (lower_below rd i 1 p), h _ (lower_below rd i 2 p), h _ (lower_below rd i 3 p))

  visits_step : (i : ℕ) → 0 < i → visits rd fault next i ≡ visit_step rd fault next (visits rd fault next) i
  unfolding visits
  visits_step i p = down_step (no_visits rd fault next) (visit_step rd fault next) visits_local i p

  pub visits_zero : visits rd fault next 0 ≡ no_visits rd fault next
  unfolding visits
  visits_zero = down_zero (no_visits rd fault next) (visit_step rd fault next)

  -- the nodes entered at a record: as a node, and as a link
  abbrev pub visited : ℕ → S → ℕ → Visit
  visited i = (visits rd fault next i).node

  abbrev pub followed : ℕ → ℕ → ℕ → S → ℕ → Visit
  followed i = (visits rd fault next i).link

  record Walked (i : ℕ) : Type 0 where
    at_node : (st : S) (count depth : ℕ) → Agrees (walk_node rd fault next i st count) count (visited i st depth) (order rd i depth)
    at_link : (n b : ℕ) (st : S) (count depth : ℕ) →
        Agrees (walk_links rd fault next i n b st count) count (followed i n b st depth) (order_from rd i depth)

  -- record 0
  no_node : (st : S) (count depth : ℕ) → Agrees (walk_node rd fault next 0 st count) count (visited 0 st depth) (order rd 0 depth)
  no_node st count depth =
      rw (node_zero rd fault next st count, ap (λ (w : Visits S). w.node st depth) visits_zero, order_zero rd depth)
      (record { accepts = refl; counts = omega arith; rest = []; whole = refl; none = λ h. refl })

  no_link : (n b : ℕ) (st : S) (count depth : ℕ) → Agrees (walk_links rd fault next 0 n b st count) count (followed 0 n b st depth) (order_from rd 0 depth)
  no_link n b st count depth =
      rw (link_zero rd fault next n b st count, ap (λ (w : Visits S). w.link n b st depth) visits_zero, order_end rd depth)
      (record { accepts = refl; counts = omega arith; rest = []; whole = refl; none = λ h. refl })

  -- a node, from its chain of premises
  module _ (n : ℕ) (p : 0 < n) (st : S) (count depth : ℕ) where
    pub visited_node : visited n st depth ≡ visit_node rd fault next (visits rd fault next (lower rd n 2)) n st depth
    unfolding visit_step
    visited_node = ap (λ (w : Visits S). w.node st depth) (visits_step n p)

    node_passes : fault st n ≡ 0 →
        Agrees (walk_links rd fault next (lower rd n 2) n 0 st (count + 1)) (count + 1) (followed (lower rd n 2) n 0 st (depth + 1))
        (order_from rd (lower rd n 2) (depth + 1)) → Agrees (walk_node rd fault next n st count) count (visited n st depth) (order rd n depth)
    unfolding visit_node
    node_passes pass w =
        rw (node_go rd fault next n st count p pass, visited_node, order_node rd n depth p)
        (simp (visit_node, pass) (record {
          accepts = w.accepts;
          counts = omega (arith, w.counts);
          rest = w.rest;
          whole = ap (λ (l : List Node). node_at depth n ∷ l) w.whole;
          none = w.none;
        }))

    node_fails : (fault st n ≡ 0 → ⊥) → Agrees (walk_node rd fault next n st count) count (visited n st depth) (order rd n depth)
    unfolding visit_node
    node_fails fails =
        rw (node_stop rd fault next n st count p fails, visited_node, order_node rd n depth p)
        (simp (visit_node, ne_eqb (fault st n) 0 fails) (record {
          accepts = ne_eqb (fault st n) 0 fails;
          counts = omega arith;
          rest = order_from rd (lower rd n 2) (depth + 1);
          whole = refl;
          none = λ h. absurd (false≢true h);
        }))

  -- a link, from its item and the link after it
  module _ (c : ℕ) (p : 0 < c) (n b : ℕ) (st : S) (count depth : ℕ) where
    abbrev first : Answer
    first = walk_node rd fault next (lower rd c 1) (next st n b) count

    abbrev item : Visit
    item = visited (lower rd c 1) (next st n b) depth

    abbrev others : Visit
    others = followed (lower rd c 3) n (b + 1) st depth

    pub visited_link : followed c n b st depth ≡ go_on item others
    unfolding visit_step visit_link
    visited_link = ap (λ (w : Visits S). w.link n b st depth) (visits_step c p)

    link_passes : Agrees first count item (order rd (lower rd c 1) depth) → first.refusal ≡ 0 →
        Agrees (walk_links rd fault next (lower rd c 3) n (b + 1) st first.nodes) first.nodes others (order_from rd (lower rd c 3) depth) →
        Agrees (walk_links rd fault next c n b st count) count (followed c n b st depth) (order_from rd c depth)
    unfolding go_on
    link_passes one accepts more =
        let passes : item.passes ≡ true = sym one.accepts ∙ eq-eqb first.refusal 0 accepts in
        rw (link_go rd fault next n b st count c p accepts, visited_link, order_link rd c depth p)
        (simp (go_on, passes) (record {
          accepts = more.accepts;
          counts = omega (arith, more.counts, one.counts, length-append item.nodes others.nodes);
          rest = more.rest;
          whole = ap (λ (l : List Node). l ++ order_from rd (lower rd c 3) depth) (all_entered one passes)
              ∙ ap (λ (l : List Node). item.nodes ++ l) more.whole ∙ sym (append_assoc item.nodes others.nodes more.rest);
          none = more.none;
        }))

    link_fails : Agrees first count item (order rd (lower rd c 1) depth) → (first.refusal ≡ 0 → ⊥) →
        Agrees (walk_links rd fault next c n b st count) count (followed c n b st depth) (order_from rd c depth)
    unfolding go_on
    link_fails one refuses =
        let same = one.accepts in
        let fails : item.passes ≡ false = sym same ∙ ne_eqb first.refusal 0 refuses in
        rw (link_stop rd fault next n b st count c p refuses, visited_link, order_link rd c depth p)
        (simp (go_on, fails) (record {
          accepts = cc;
          counts = one.counts;
          rest = one.rest ++ order_from rd (lower rd c 3) depth;
          whole = ap (λ (l : List Node). l ++ order_from rd (lower rd c 3) depth) one.whole ∙ append_assoc item.nodes one.rest (order_from rd (lower rd c 3) depth);
          none = λ h. absurd (false≢true (sym fails ∙ h));
        }))

  walked : (i : ℕ) → Walked i
  walked = below Walked step
    where
      node_turn : (n : ℕ) → 0 < n → Walked (lower rd n 2) → (st : S) (count depth : ℕ) →
          Agrees (walk_node rd fault next n st count) count (visited n st depth) (order rd n depth)
      node_turn n p links st count depth = go (eqb (fault st n) 0) refl
        where
          go : (t : Bool) → eqb (fault st n) 0 ≡ t → Agrees (walk_node rd fault next n st count) count (visited n st depth) (order rd n depth)
          go true e = node_passes n p st count depth (eqb-true (fault st n) 0 e) (links.at_link n 0 st (count + 1) (depth + 1))
          go false e = node_fails n p st count depth (eqb-false (fault st n) 0 e)

      link_turn : (c : ℕ) → 0 < c → Walked (lower rd c 1) → Walked (lower rd c 3) → (n b : ℕ) (st : S) (count depth : ℕ) →
          Agrees (walk_links rd fault next c n b st count) count (followed c n b st depth) (order_from rd c depth)
      link_turn c p one more n b st count depth = go (eqb (first c p n b st count depth).refusal 0) refl
        where
          go : (t : Bool) → eqb (first c p n b st count depth).refusal 0 ≡ t →
              Agrees (walk_links rd fault next c n b st count) count (followed c n b st depth) (order_from rd c depth)
          go true e =
              link_passes c p n b st count depth (one.at_node (next st n b) count depth) (eqb-true _ 0 e)
              (more.at_link n (b + 1) st (first c p n b st count depth).nodes depth)
          go false e = link_fails c p n b st count depth (one.at_node (next st n b) count depth) (eqb-false _ 0 e)

      step : (i : ℕ) → ((j : ℕ) → j < i → Walked j) → Walked i
      step zero ih = record { at_node = no_node; at_link = no_link }
      step (suc i) ih =
          let p : 0 < suc i = omega arith in
          let item = ih (lower rd (suc i) 1) (lower_below rd (suc i) 1 p) in
          let links = ih (lower rd (suc i) 2) (lower_below rd (suc i) 2 p) in
          let rest = ih (lower rd (suc i) 3) (lower_below rd (suc i) 3 p) in
          record { at_node = node_turn (suc i) p links; at_link = link_turn (suc i) p item rest }

  -- the walk from node n
  pub walk_entered : (n : ℕ) (st : S) (count depth : ℕ) →
      Agrees (walk_node rd fault next n st count) count (visit_from rd fault next n st depth) (order rd n depth)
  unfolding visit_from
  walk_entered n = (walked n).at_node
