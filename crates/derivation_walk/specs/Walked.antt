-- The walk over a derivation's nodes, and the ways out of the code that makes it.
use Rattle.std.specs.Prelude.{ℕ, ◌+◌, ◌<◌, ◌≡◌}
use Rattle.std.proofs.Math.Path.{sym, ap}
use Rattle.std.proofs.Common.{◌∙◌, arith}
use Rattle.reader.specs.declared.Answer.{Answer}
use Rattle.reader.specs.Words.{Reader}
use Rattle.reader.specs.Trees.{lower}
use Rattle.reader.specs.Answers.{answer, accepted}
use Rattle.reader.specs.Walk.{walk_node, walk_links}
use Rattle.reader.specs.WalkLaws.{node_go, node_stop, link_zero, link_go, link_stop}
use Rattle.derivation_rules.specs.Rules.{State}
use Rattle.derivation_rules.specs.Check.{node_fault, premise_state}

-- the walk from a node, and along a chain of premises
unfoldable pub visit : Reader → ℕ → State → ℕ → Answer
visit rd n st count = walk_node rd (node_fault rd) (premise_state rd) n st count

unfoldable pub follow : Reader → ℕ → ℕ → ℕ → State → ℕ → Answer
follow rd c n b st count = walk_links rd (node_fault rd) (premise_state rd) c n b st count

-- The ways out of a node that is not record 0.
module _ (rd : Reader) (n : ℕ) (st : State) (count : ℕ) (pos : 0 < n) (why : ℕ) (ew : why ≡ node_fault rd st n) where
  pub visit_stop : (why ≡ 0 → ⊥) → answer why 2 n (count + 1) ≡ visit rd n st count
  unfolding visit
  visit_stop h = rw ew (sym (node_stop rd (node_fault rd) (premise_state rd) n st count pos (λ z. h (ew ∙ z))))

  pub visit_go : why ≡ 0 → (r : Answer) → r ≡ follow rd (lower rd n 2) n 0 st (count + 1) → r ≡ visit rd n st count
  unfolding visit follow
  visit_go h r e = e ∙ sym (node_go rd (node_fault rd) (premise_state rd) n st count pos (sym ew ∙ h))

-- The ways along a chain of premises.
module _ (rd : Reader) (c n b : ℕ) (st : State) (count : ℕ) where
  pub follow_none : c ≡ 0 → accepted count ≡ follow rd c n b st count
  unfolding follow
  follow_none h = rw h (sym (link_zero rd (node_fault rd) (premise_state rd) n b st count))

  module _ (pos : c ≡ 0 → ⊥) (a : Answer) (ea : a ≡ visit rd (lower rd c 1) (premise_state rd st n b) count) where
    first_is : a ≡ walk_node rd (node_fault rd) (premise_state rd) (lower rd c 1) (premise_state rd st n b) count
    unfolding visit
    first_is = ea

    pub follow_stop : (a.refusal ≡ 0 → ⊥) → a ≡ follow rd c n b st count
    unfolding follow
    follow_stop h =
        first_is ∙ sym (link_stop rd (node_fault rd) (premise_state rd) n b st count c (omega arith) (λ z. h (ap (λ (y : Answer). y.refusal) first_is ∙ z)))

    pub follow_go : a.refusal ≡ 0 → follow rd c n b st count ≡ follow rd (lower rd c 3) n (b + 1) st a.nodes
    unfolding follow
    follow_go h =
        link_go rd (node_fault rd) (premise_state rd) n b st count c (omega arith) (ap (λ (y : Answer). y.refusal) (sym first_is) ∙ h)
        ∙ ap (λ (y : Answer). walk_links rd (node_fault rd) (premise_state rd) (lower rd c 3) n (b + 1) st y.nodes) (sym first_is)
