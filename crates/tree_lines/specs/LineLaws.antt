-- Laws of the lines of a listing.
use Rattle.std.specs.Prelude.{ℕ, zero, suc, ◌+◌, ◌-◌, ◌≤◌, ◌≡◌, List, length, get_or, take, drop}
use Rattle.std.proofs.Common.{ap, ◌∙◌, arith, ne_eqb, le-ltb, length-take}
use Rattle.reader.specs.declared.Answer.{Answer}
use Rattle.reader.specs.Words.{Reader}
use Rattle.reader.specs.Tests.{if_eq, if_lt}
use Rattle.reader.specs.Kinds.{kind_at}
use Rattle.reader.specs.Trees.{lower}
use Rattle.reader.specs.Chains.{items, parts}
use Rattle.reader.specs.TreeLaws.{items_zero, items_step}
use Rattle.programs_lines.specs.Lines.{numbers_line, line, EndsIn}
use Rattle.programs_lines.specs.LineLaws.{line_slice}
use Rattle.programs_text.specs.Text.{Appended}
use Rattle.programs_text.specs.TextLaws.{appended_none, appended_more}
use Rattle.tree_rules.specs.Order.{node_at}
use Rattle.tree_rules.specs.Listing.{first_part, node_line, refused, ending}

-- the item of the first link, and of no link none
first_item : (rd : Reader) (c : ℕ) → lower rd c 1 ≡ get_or (items rd c) 0 0
unfolding lower if_lt
first_item rd zero = rw (items_zero rd) (simp (lower, if_lt, le-ltb (rd 0 1) 0 (omega arith)))
first_item rd (suc c) = rw (items_step rd (suc c) (omega arith))

pub first_part_is : (rd : Reader) (n link r : ℕ) → link ≡ lower rd n 1 → r ≡ lower rd link 1 → r ≡ first_part rd n
unfolding first_part parts
first_part_is rd n link r e h = h ∙ first_item rd link ∙ ap (λ (c : ℕ). get_or (items rd c) 0 0) e

-- the line of a node has its four numbers
pub node_line_lem : (rd : Reader) (before after : List ℕ) (at depth n kind part end : ℕ) → kind ≡ kind_at rd n → part ≡ first_part rd n →
    Appended before at (numbers_line depth n kind part) after end → Appended before at (node_line rd (node_at depth n)) after end
unfolding node_line
node_line_lem rd before after at depth n kind part end ek ep w = rw (← ek, ← ep) w

-- the ways out of `append_ending`
pub ending_none : (area : List ℕ) (at : ℕ) (a : Answer) → a.refusal ≡ 0 → Appended area at (ending a) area at
unfolding ending if_eq
ending_none area at a h = simp (ending, if_eq, h) (appended_none area at)

pub ending_refused : (before middle after : List ℕ) (at numbers end : ℕ) (a : Answer) → (a.refusal ≡ 0 → ⊥) → Appended before at refused middle numbers →
    Appended middle numbers (numbers_line a.refusal a.file a.at a.nodes) after end → Appended before at (ending a) after end
unfolding ending if_eq line
ending_refused before middle after at numbers end a h one two =
    simp (ending, if_eq, ne_eqb a.refusal 0 h) (appended_more before refused middle _ after at numbers end one two)

-- the way out of `append_numbers`: the line stands at the end of its area of 84 bytes
pub numbers_appended : (text blank line area after : List ℕ) (begin at end : ℕ) → EndsIn 84 text blank line begin →
    Appended area at (take (84 - begin) (drop begin line)) after end → Appended area at text after end × (end ≤ at + 84)
numbers_appended text blank line area after begin at end e w =
    let few : length (take (84 - begin) (drop begin line)) ≤ 84 = omega (arith, length-take (84 - begin) (drop begin line)) in
    (rw (line_slice 84 text blank line begin e) at w, omega (arith, w.ends))
