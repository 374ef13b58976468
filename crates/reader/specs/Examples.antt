-- Example files, written as the words of their records, and what lets the reader's definitions compute on them.
use Rattle.std.specs.Prelude.{ℕ, ◌/◌, ◌%◌, List, [], ◌∷◌, map}
use Rattle.reader.specs.declared.Answer.{Answer}
use Rattle.reader.specs.Tests.{both, either, demand, or_else, if_eq, if_lt, if_true, between, every}
use Rattle.reader.specs.Words.{word_from, word_of, through, word, record_count}
use Rattle.reader.specs.Down.{iter, down}
use Rattle.reader.specs.Kinds.{class, role, kind_at, class_at, role_at, is_rule, is_kind, is_number, is_symbol}
use Rattle.reader.specs.Trees.{lower, child, atom, tree_step, tree, kind_of, atom_of, first_of, second_of, third_of, same_head, same}
use Rattle.reader.specs.Chains.{linked_step, linked, items, item_trees, parts, premises}
use Rattle.reader.specs.Weight.{is_weighed, own_weight, weight}
use Rattle.reader.specs.Accents.{letter_in, composed}
use Rattle.reader.specs.Names.{name_of, name_space, bytes_of, record_bytes, trimmed, name_bytes, is_letter, is_digit_or_underscore, single, accented, characters}
use Rattle.reader.specs.Names.{name, has_bytes, starts_well, is_name, same_name, taken_below, name_taken}
use Rattle.reader.specs.Variables.{binders, is_index, replaced, bears, index_below, indices_below, type_variable_below, types_below, is_closed, is_constant, occurs, instance}
use Rattle.reader.specs.Typing.{type_of, same_all, pair_typed, product_typed, powerset_typed, choice_typed, equal_typed, member_typed, for_all_typed, constant_typed, signature, function_typed, application_typed, typing_of, is_typed}
use Rattle.reader.specs.Answers.{placed, or_answer, first_fault}
use Rattle.reader.specs.Records.{in_range, range_at, ranges_fit, may_be_zero, wanted_class, item_class, has_class, items_have_class, refers, refers_at}
use Rattle.reader.specs.Records.{references_fit, name_length_fits, types_fit, arguments_fit, item_chains_fit, chains_fit, most_weight, weight_fits, name_spelled}
use Rattle.reader.specs.Records.{name_is_free, typing_fits, kind_fits, words_fault, content_fault, record_fault}
use Rattle.reader.specs.Places.{most_records, length_fits, header_fits, counts_fit, goal_fits, is_hypothesis, type_count, hypothesis_fits, hypotheses_fit, times_in}
use Rattle.reader.specs.Places.{namings, naming_fault, obligation_reading, second_reading, reading}
use Rattle.reader.specs.Members.{member, is_fresh, premises_fit}
use Rattle.reader.specs.Shapes.{has_shape, have_shapes}
use Rattle.reader.specs.Walk.{and_then, node_step, link_step, walk_step, walks, walk_node, walk_links}

-- a record's words k, a, b, c
pub record Words : Type 0 where
  pub k : ℕ
  pub a : ℕ
  pub b : ℕ
  pub c : ℕ

abbrev pub r : ℕ → ℕ → ℕ → ℕ → Words
r k a b c = record { k = k; a = a; b = b; c = c }

-- a word's four bytes, low byte first, before other bytes
abbrev pub bytes4 : ℕ → List ℕ → List ℕ
bytes4 v rest = v % 256 ∷ v / 256 % 256 ∷ v / 65536 % 256 ∷ v / 16777216 % 256 ∷ rest

abbrev pub bytes : List Words → List ℕ
bytes [] = []
bytes (x ∷ xs) = bytes4 x.k (bytes4 x.a (bytes4 x.b (bytes4 x.c (bytes xs))))

-- an obligation, a proof or derivation of it, and the answer to them
pub record Case : Type 0 where
  pub obligation : List ℕ
  pub second : List ℕ
  pub answer : Answer

-- the answer that a case is to have
abbrev pub gives : Case → Answer
gives c = c.answer

-- what a check answers to the cases, one after the other
abbrev pub answers_of : (List ℕ → List ℕ → Answer) → List Case → List Answer
answers_of check cases = map (λ (c : Case). check c.obligation c.second) cases

-- To unfold one of these numbers is to unfold all that its line names: so that examples compute, from the bytes on.
unfoldable pub open_tests : ℕ
unfolding both either demand or_else if_eq if_lt if_true between every
open_tests = 0

unfoldable pub open_words : ℕ
unfolding word_from word_of through word record_count
open_words = 0

unfoldable pub open_down : ℕ
unfolding iter down
open_down = 0

unfoldable pub open_kinds : ℕ
unfolding class role kind_at class_at role_at is_rule is_kind is_number is_symbol
open_kinds = 0

unfoldable pub open_trees : ℕ
unfolding lower child atom tree_step tree kind_of atom_of first_of second_of third_of same_head same
open_trees = 0

unfoldable pub open_chains : ℕ
unfolding linked_step linked items item_trees parts premises
open_chains = 0

unfoldable pub open_weight : ℕ
unfolding is_weighed own_weight weight
open_weight = 0

unfoldable pub open_names1 : ℕ
unfolding name_of name_space bytes_of record_bytes trimmed name_bytes is_letter is_digit_or_underscore single accented letter_in composed characters name has_bytes starts_well
open_names1 = 0

unfoldable pub open_names2 : ℕ
unfolding is_name same_name taken_below name_taken
open_names2 = 0

unfoldable pub open_names : ℕ
unfolding open_names1 open_names2
open_names = 0

unfoldable pub open_variables : ℕ
unfolding binders is_index replaced bears index_below indices_below type_variable_below types_below is_closed is_constant occurs instance
open_variables = 0

unfoldable pub open_typing1 : ℕ
unfolding type_of same_all pair_typed product_typed powerset_typed equal_typed member_typed for_all_typed constant_typed signature function_typed
open_typing1 = 0

unfoldable pub open_typing2 : ℕ
unfolding application_typed choice_typed typing_of is_typed
open_typing2 = 0

unfoldable pub open_typing : ℕ
unfolding open_typing1 open_typing2
open_typing = 0

unfoldable pub open_answers : ℕ
unfolding placed or_answer first_fault
open_answers = 0

unfoldable pub open_records1 : ℕ
unfolding in_range range_at ranges_fit may_be_zero wanted_class item_class has_class items_have_class refers refers_at references_fit name_length_fits types_fit
open_records1 = 0

unfoldable pub open_records2 : ℕ
unfolding arguments_fit item_chains_fit chains_fit most_weight weight_fits name_spelled name_is_free typing_fits kind_fits words_fault content_fault record_fault
open_records2 = 0

unfoldable pub open_records : ℕ
unfolding open_records1 open_records2
open_records = 0

unfoldable pub open_places1 : ℕ
unfolding most_records length_fits header_fits counts_fit goal_fits is_hypothesis type_count hypothesis_fits hypotheses_fit times_in namings naming_fault
open_places1 = 0

unfoldable pub open_places2 : ℕ
unfolding obligation_reading second_reading reading
open_places2 = 0

unfoldable pub open_places : ℕ
unfolding open_places1 open_places2
open_places = 0

unfoldable pub open_members : ℕ
unfolding member is_fresh premises_fit
open_members = 0

unfoldable pub open_shapes : ℕ
unfolding has_shape have_shapes
open_shapes = 0

unfoldable pub open_walk : ℕ
unfolding and_then node_step link_step walk_step walks walk_node walk_links
open_walk = 0

unfoldable pub open_lower : ℕ
unfolding open_tests open_words open_down open_kinds open_trees open_chains open_weight open_names open_variables
open_lower = 0

unfoldable pub open_upper : ℕ
unfolding open_typing open_answers open_records open_places open_members open_shapes open_walk
open_upper = 0

unfoldable pub open_reader : ℕ
unfolding open_lower open_upper
open_reader = 0
