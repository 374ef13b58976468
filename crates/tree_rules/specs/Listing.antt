-- What the program prints of an obligation and a proof: "A program prints a first line `tree 1`, then one line per node in walk order".
use Rattle.std.specs.Prelude.{ℕ, get_or, take}
use mathlib.Core.List.{List, [], ◌++◌, flat_map}
use Rattle.reader.specs.declared.Answer.{Answer}
use Rattle.reader.specs.Words.{Reader, word}
use Rattle.reader.specs.Tests.{if_eq}
use Rattle.reader.specs.Kinds.{kind_at}
use Rattle.reader.specs.Chains.{parts}
use Rattle.reader.specs.Places.{count_of, root_of}
use Rattle.proof_rules.specs.Check.{proof_answer}
use Rattle.programs_lines.specs.Lines.{numbers_line, line}
use Rattle.programs_text.specs.Text.{ascii}
use Rattle.tree_rules.specs.Order.{Node, order}

-- the bytes of `tree 1` and a newline
abbrev pub heading : List ℕ
heading = ascii "tree 1\n"

-- "record of the first part (0 if none)"
unfoldable pub first_part : Reader → ℕ → ℕ
first_part rd n = get_or (parts rd n) 0 0

-- "depth from 0, record number, rule kind, record of the first part (0 if none)"
unfoldable pub node_line : Reader → Node → List ℕ
node_line rd node = numbers_line node.depth node.number (kind_at rd node.number) (first_part rd node.number)

-- the lines of nodes, one after the other
unfoldable pub node_lines : Reader → List Node → List ℕ
node_lines rd nodes = flat_map (node_line rd) nodes

-- "the nodes that the answer counts": as many as it says, the first ones in walk order
unfoldable pub entered : List ℕ → List ℕ → List Node
entered ob pf = take (proof_answer ob pf).nodes (order (word ob pf (count_of ob)) (root_of pf) 0)

-- the bytes of `refused` and a space
abbrev pub refused : List ℕ
refused = ascii "refused "

-- "On a refusal .. a last line gives `refused` and the answer's four numbers."
unfoldable pub ending : Answer → List ℕ
ending a = if_eq a.refusal 0 [] (refused ++ line a)

-- the whole output
unfoldable pub listing : List ℕ → List ℕ → List ℕ
listing ob pf = heading ++ (node_lines (word ob pf (count_of ob)) (entered ob pf) ++ ending (proof_answer ob pf))
