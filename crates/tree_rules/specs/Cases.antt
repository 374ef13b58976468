-- The listings of D1 to D12 in one computation, and those of a proof with branches.
use Rattle.std.specs.Prelude.{ℕ, ◌≡◌, refl, set}
use Prim.Native.String.{String}
use mathlib.Core.List.{List, [], ◌∷◌, map, flat_map}
use Rattle.reader.specs.Answers.{answer}
use Rattle.reader.specs.Examples.{Words, r, bytes, Case}
use Rattle.proof_rules.specs.Opened.{open_proofs}
use Rattle.proof_rules.specs.Cases.{table}
use Rattle.programs_lines.specs.Lines.{decimal_step, decimal, numbers_line, line}
use Rattle.programs_text.specs.Text.{ascii}
use Rattle.tree_rules.specs.Order.{order_step, order}
use Rattle.tree_rules.specs.Listing.{first_part, node_line, node_lines, entered, ending, listing}

-- what the program prints of each
abbrev printed : List String
printed =
    "tree 1\n0 17 43 6\n1 12 35 10\n" ∷  -- D1
    "tree 1\nrefused 12 2 12 0\n" ∷  -- D2
    "tree 1\n0 17 43 6\nrefused 15 2 17 1\n" ∷  -- D3
    "tree 1\n0 17 43 6\n1 12 36 10\nrefused 13 2 12 2\n" ∷  -- D4
    "tree 1\n0 17 43 6\n1 12 34 10\nrefused 14 2 12 2\n" ∷  -- D5
    "tree 1\nrefused 5 2 9 0\n" ∷  -- D6
    "tree 1\n0 17 43 6\n1 12 35 10\n" ∷  -- D7
    "tree 1\nrefused 8 2 8 0\n" ∷  -- D8
    "tree 1\n0 17 43 6\n1 12 35 10\n" ∷  -- D9
    "tree 1\n0 17 43 6\n1 12 35 10\n" ∷  -- D10
    "tree 1\nrefused 1 2 0 0\n" ∷  -- D11
    "tree 1\n0 17 43 8\nrefused 16 2 17 1\n" ∷ []  -- D12

-- what the definition lists of cases, one after the other
abbrev listings_of : List Case → List (List ℕ)
listings_of cases = map (λ (c : Case). listing c.obligation c.second) cases

-- to unfold it is to unfold all that its line names
unfoldable open_listing : ℕ
unfolding open_proofs decimal_step decimal numbers_line line flat_map order_step order first_part node_line node_lines entered ending listing
open_listing = 0

-- The definition's listings, one after the other, are these.
pub listings_hold : listings_of table ≡ map ascii printed
unfolding open_listing
listings_hold = refl

-- the goal ⊥ from ⊤⇒⊥
abbrev from_true : List Words
from_true = r 1 5 5 4 ∷ r 15 0 0 0 ∷ r 14 0 0 0 ∷ r 17 1 2 0 ∷ r 18 2 0 0 ∷ r 1 3 0 0 ∷ []

-- its proof: a cut on ⊤, whose first premise has two premises of its own
abbrev branches : List Words
branches =
    r 1 11 16 5 ∷
    r 1 3 0 0 ∷  -- 6
    r 33 0 0 0 ∷  -- 7
    r 32 0 0 0 ∷  -- 8
    r 1 8 0 0 ∷  -- 9
    r 1 7 0 9 ∷  -- 10
    r 41 6 10 0 ∷  -- 11
    r 1 1 0 0 ∷  -- 12
    r 33 0 0 0 ∷  -- 13
    r 1 13 0 0 ∷  -- 14
    r 1 11 0 14 ∷  -- 15
    r 37 12 15 0 ∷ []  -- 16

-- that proof, and the same with record 8 of kind 33, which ends the walk before record 13
abbrev branching : List Case
branching =
    record { obligation = bytes from_true; second = bytes branches; answer = answer 0 0 0 5 } ∷
    record { obligation = bytes from_true; second = bytes (set branches 3 (r 33 0 0 0)); answer = answer 14 2 8 4 } ∷ []

-- Each subtree stands whole before the next, and a refusal's listing ends with its node.
pub branches_hold :
    listings_of branching
    ≡ map ascii (
    "tree 1\n0 16 37 1\n1 11 41 3\n2 7 33 0\n2 8 32 0\n1 13 33 0\n" ∷
    "tree 1\n0 16 37 1\n1 11 41 3\n2 7 33 0\n2 8 33 0\nrefused 14 2 8 4\n" ∷ []
    )
unfolding open_listing
branches_hold = refl
