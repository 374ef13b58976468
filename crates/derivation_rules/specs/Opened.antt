-- What lets the derivation check's definitions compute on example files.
use Rattle.std.specs.Prelude.{ℕ}
use Rattle.reader.specs.Examples.{open_reader}
use Rattle.derivation_rules.specs.Erase.{is_type, untyped, bare, ⌊◌⌋, bare_tree, bare_parts}
use Rattle.derivation_rules.specs.Rules.{row}
use Rattle.derivation_rules.specs.Check.{goal_formed, needs_met, no_other, in_neither, few_members, depth_fits, row_fault, row_of, node_fault, premise_state}
use Rattle.derivation_rules.specs.Check.{bare_hypotheses, bare_goal, start_state, derivation_walk, derivation_answer}

-- to unfold one of these is to unfold all that its line names
unfoldable pub open_nodes : ℕ
unfolding is_type untyped bare ⌊◌⌋ bare_tree bare_parts row goal_formed needs_met no_other in_neither few_members depth_fits row_fault row_of node_fault
open_nodes = 0

unfoldable pub open_derivations : ℕ
unfolding open_reader open_nodes premise_state bare_hypotheses bare_goal start_state derivation_walk derivation_answer
open_derivations = 0
