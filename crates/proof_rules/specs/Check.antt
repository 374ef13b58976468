-- The proof check: a node's tests, the walk over the proof, the answer for any two byte lists.
use Rattle.std.specs.Prelude.{ℕ, ◌+◌, List, [], ◌++◌, map, Bool, leb, get_or, length}
use Rattle.reader.specs.declared.Answer.{Answer}
use Rattle.reader.specs.Words.{Reader, word}
use Rattle.reader.specs.Tests.{demand, every}
use Rattle.reader.specs.Kinds.{modes}
use Rattle.reader.specs.Trees.{Tree, tree}
use Rattle.reader.specs.Chains.{parts}
use Rattle.reader.specs.Answers.{or_answer}
use Rattle.reader.specs.Places.{negated_goal, hypotheses, root_of, count_of, reading}
use Rattle.reader.specs.Members.{◌▹◌, member, is_fresh, premises_fit}
use Rattle.reader.specs.Shapes.{have_shapes}
use Rattle.reader.specs.Walk.{walk_node}
use Rattle.proof_rules.specs.Rules.{Row, row}

-- the row of node n
unfoldable pub row_of : Reader → ℕ → Row
row_of rd n = row (rd n 0) (map (tree rd) (parts rd n))

-- "a premise's sequent over 1,024 members, repeats counted"
unfoldable pub has_room : List Tree → List (List Tree) → Bool
has_room sequent adds = every (λ added. leb (length sequent + length added) 1024) adds

-- "within one record or node the lower number wins": the refusal of node n, whose row is r, at a sequent, 0 for none
unfoldable pub row_fault : Reader → ℕ → List Tree → Row → ℕ
row_fault rd n sequent r =
    demand (have_shapes r.shapes (map (tree rd) (parts rd n))) 13
    (demand (premises_fit modes.proof rd n (length r.adds)) 13
    (demand (every (λ t. member t sequent) r.needs) 14
    (demand r.fits 15 (demand (every (is_fresh sequent) r.fresh) 16 (demand (has_room sequent r.adds) 17 0)))))

unfoldable pub node_fault : Reader → List Tree → ℕ → ℕ
node_fault rd sequent n = row_fault rd n sequent (row_of rd n)

-- the sequent of premise b of node n: "every formula stays", and what the premise adds
unfoldable pub premise_sequent : Reader → List Tree → ℕ → ℕ → List Tree
premise_sequent rd sequent n b = sequent ++ get_or (row_of rd n).adds b []

-- "The sequent starts as the hypotheses and the negated goal"
unfoldable pub start_sequent : Reader → List Tree
start_sequent rd = hypotheses rd ▹ tree rd (negated_goal rd)

-- the walk from the root
unfoldable pub proof_walk : Reader → ℕ → Answer
proof_walk rd root = walk_node rd (node_fault rd) (premise_sequent rd) root (start_sequent rd) 0

-- the four numbers for any two byte lists
unfoldable pub proof_answer : List ℕ → List ℕ → Answer
proof_answer ob pf = or_answer (reading modes.proof ob pf) (proof_walk (word ob pf (count_of ob)) (root_of pf))
