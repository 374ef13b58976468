-- The start of a derivation: the frame of the root.
use Rattle.std.specs.Prelude.{ℕ, zero, suc, ◌<◌, ◌≤◌, ◌≡◌, refl, List, get_or, length}
use Rattle.std.proofs.Common.{sym, ap, ◌∙◌, arith}
use Rattle.reader.specs.Words.{Reader}
use Rattle.reader.specs.Trees.{child}
use Rattle.reader.specs.Chains.{linked}
use Rattle.reader.specs.TreeLaws.{child_below}
use Rattle.reader.specs.Places.{hypothesis_chain, negated_goal}
use Rattle.reader_chains.specs.Shapes.{first_tree, child_zero}
use Rattle.derivation_rules.specs.Erase.{bare_tree}
use Rattle.derivation_rules.specs.Check.{bare_hypotheses, bare_goal, start_state}
use Rattle.derivation_rules.specs.StartLaws.{bare_hypotheses_lem}
use Rattle.derivation_trees.specs.Keys.{decoded}
use Rattle.derivation_trees.specs.Table.{Table, KeyOf}
use Rattle.derivation_frames.specs.Frames.{goal_at, chain_trees, members_at, state_of, Framed, Written}
use Rattle.derivation_frames.specs.Pushed.{members_set, framed_set}
use Rattle.derivation_nodes.specs.Premised.{chain_length}

-- the keys are there, and the obligation's header names what it should
pub record Starting (rd : Reader) (keys frames : List ℕ) : Type 0 where
  pub table : Table rd keys
  pub long : length frames ≡ 32776
  pub chain : hypothesis_chain rd < length keys
  pub goal : negated_goal rd < length keys
  pub few : length (linked rd (hypothesis_chain rd)) ≤ 256

-- the frame of the root is written: only that one changed
pub record Started (rd : Reader) (size : ℕ) (before frames : List ℕ) : Type 0 where
  pub below : (i : ℕ) → i < 4 → get_or frames i 0 ≡ get_or before i 0
  pub above : (i : ℕ) → 8 ≤ i → get_or frames i 0 ≡ get_or before i 0
  pub framed : Framed rd size frames 1
  pub state : state_of rd frames 1 ≡ start_state rd

-- the part of a formula that is named has a key, whichever it is
pub formula_in : (rd : Reader) (keys frames : List ℕ) (negated formula w : ℕ) → Starting rd keys frames → negated ≡ rd 0 3 → formula ≡ child rd negated w → formula < length keys
formula_in rd keys frames zero formula w s en ef = omega (arith, child_zero rd w, s.goal)
formula_in rd keys frames (suc negated) formula w s en ef =
    let below : suc negated < length keys = rw en s.goal in
    omega (arith, child_below rd (suc negated) w (omega arith))

pub root_written : (rd : Reader) (keys before after : List ℕ) (chain negated formula goal count : ℕ) → Starting rd keys before → chain ≡ rd 0 2 → negated ≡ rd 0 3 → formula ≡ child rd negated 1 →
    KeyOf rd (length keys) goal (bare_tree rd formula) → count ≡ length (linked rd chain) → length after ≡ length before → Written 1 1 goal chain count before after →
    Started rd (length keys) before after
unfolding state_of start_state bare_goal chain_trees bare_tree
root_written rd keys before after chain negated formula goal count s ec en ef key el l w = record {
  below = w.below;
  above = w.above;
  framed = framed_set rd (length keys) 0 goal chain count before after w (omega arith) (l ∙ s.long) (rw ec s.chain) key.stands.normal
      (omega (arith, key.few)) (el ∙ sym (chain_length rd chain)) (omega (arith, el, few));
  state = rw (members, goal_is) refl;
}
  where
    few : length (linked rd chain) ≤ 256
    few = rw ec s.few

    members : members_at rd after 1 ≡ bare_hypotheses rd
    members = members_set rd (length keys) 0 goal chain count before after w ∙ rw ec (sym (bare_hypotheses_lem rd))

    goal_is : decoded rd (goal_at after 1) ≡ bare_goal rd
    goal_is = ap (decoded rd) w.goal_is ∙ key.stands.means ∙ rw (ef, en, first_tree rd (negated_goal rd)) refl
