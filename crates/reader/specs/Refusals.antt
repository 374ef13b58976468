-- What the checks return, as the answer's four numbers.
use Rattle.std.specs.Prelude.{ℕ, Result, Ok, Err}
use Rattle.reader.specs.declared.Answer.{Answer}
use Rattle.reader.specs.declared.Fault.{Fault}
use Rattle.reader.specs.declared.Fault.TheVariants.{Length, Header, Kind, Number, Reference, Chain, Weight, Spelling, Name, Typing, Root, Naming, Form, Member, Fit, Fresh, Room, Depth, Buffer}
use Rattle.reader.specs.declared.Refusal.{Refusal}
use Rattle.reader.specs.Answers.{answer, accepted}

-- the number of a refusal
abbrev pub number_of : Fault → ℕ
number_of Length = 1
number_of Header = 2
number_of Kind = 3
number_of Number = 4
number_of Reference = 5
number_of Chain = 6
number_of Weight = 7
number_of Spelling = 8
number_of Name = 9
number_of Typing = 10
number_of Root = 11
number_of Naming = 12
number_of Form = 13
number_of Member = 14
number_of Fit = 15
number_of Fresh = 16
number_of Room = 17
number_of Depth = 18
number_of Buffer = 19

-- the refusal of a record or a node, 0 for none
abbrev pub fault_of : Result Unit Fault → ℕ
fault_of (Ok u) = 0
fault_of (Err f) = number_of f

-- the answer's four numbers, where a check accepts with a number of nodes or refuses
abbrev pub answer_of : Result ℕ Refusal → Answer
answer_of (Ok n) = accepted n
answer_of (Err r) = answer (number_of r.fault) r.file r.at r.nodes

-- the same where nothing is walked
abbrev pub reading_of : Result Unit Refusal → Answer
reading_of (Ok u) = accepted 0
reading_of (Err r) = answer (number_of r.fault) r.file r.at r.nodes
