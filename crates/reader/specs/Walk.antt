-- The walk over rule nodes, of any calculus: "node, then premises in chain order". A state is what a node is to prove (a sequent, or a sequent and a
-- goal); `fault` has all of a node's tests, 0 where they pass, and `next` gives the state of each of its premises.
use Rattle.std.specs.Prelude.{ℕ, ◌+◌, true, false, eqb}
use Rattle.reader.specs.declared.Answer.{Answer}
use Rattle.reader.specs.Words.{Reader}
use Rattle.reader.specs.Down.{down}
use Rattle.reader.specs.Trees.{lower}
use Rattle.reader.specs.Answers.{answer, accepted}

-- go on from an accepting answer with its count of nodes
unfoldable pub and_then : Answer → (ℕ → Answer) → Answer
and_then a rest = elim (eqb a.refusal 0) [ true ↦ rest a.nodes | false ↦ a ]

-- the walk at a record, with the count of nodes entered before: as a node, and as a link of the chain of premises of node n, from premise b on
pub record Walks (S : Type 0) : Type 0 where
  pub node : S → ℕ → Answer
  pub link : ℕ → ℕ → S → ℕ → Answer

module _ {S : Type 0} (rd : Reader) (fault : S → ℕ → ℕ) (next : S → ℕ → ℕ → S) where
  -- at node n: "a refusal counts the nodes entered so far, the faulty one included"; `chain` is the walk at its chain of premises
  unfoldable pub node_step : Walks S → ℕ → S → ℕ → Answer
  node_step chain n state count =
      elim (eqb (fault state n) 0) [ true ↦ chain.link n 0 state (count + 1) | false ↦ answer (fault state n) 2 n (count + 1) ]

  -- at a link: the walk at its item, and then at the next link
  unfoldable pub link_step : Walks S → Walks S → ℕ → ℕ → S → ℕ → Answer
  link_step item rest n b state count = and_then (item.node (next state n b) count) (rest.link n (b + 1) state)

  unfoldable pub walk_step : (ℕ → Walks S) → ℕ → Walks S
  walk_step sub i = record { node = node_step (sub (lower rd i 2)) i; link = link_step (sub (lower rd i 1)) (sub (lower rd i 3)) }

  -- record 0 is no node, and ends a chain
  abbrev pub no_walk : Walks S
  no_walk = record { node = λ state count. answer 13 2 0 count; link = λ n b state count. accepted count }

  unfoldable pub walks : ℕ → Walks S
  walks = down no_walk walk_step

  -- the walk from node n, and along a chain of premises from link c on
  unfoldable pub walk_node : ℕ → S → ℕ → Answer
  walk_node n = (walks n).node

  unfoldable pub walk_links : ℕ → ℕ → ℕ → S → ℕ → Answer
  walk_links c = (walks c).link
