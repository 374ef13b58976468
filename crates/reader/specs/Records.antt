-- The faults of one record, refusals 3 to 10.
use Rattle.std.specs.Prelude.{ℕ, List, [], ◌∷◌, Bool, true, false, not, eqb, ltb, leb, get_or, length}
use Rattle.reader.specs.Words.{Reader}
use Rattle.reader.specs.Tests.{both, between, demand, or_else, every, if_eq, if_lt, if_true}
use Rattle.reader.specs.Kinds.{modes, kinds, noᶜ, linkᶜ, nameᶜ, typeᶜ, termᶜ, formulaᶜ, functionᶜ, nothingʳ, to3ʳ, to4ʳ, to63ʳ, from1to4ʳ, nameʳ, class_at, role_at, is_kind}
use Rattle.reader.specs.Trees.{tree}
use Rattle.reader.specs.Chains.{linked, items}
use Rattle.reader.specs.Weight.{is_weighed, weight}
use Rattle.reader.specs.Names.{name_of, is_name, name_taken}
use Rattle.reader.specs.Typing.{is_typed}

-- "4 range or word not 0": a word a in role r
unfoldable pub in_range : ℕ → ℕ → Bool
in_range r a =
    if_eq r nothingʳ (eqb a 0) (if_eq r to3ʳ (ltb a 4) (if_eq r to4ʳ (ltb a 5) (if_eq r to63ʳ (ltb a 64) (if_eq r from1to4ʳ (between 1 4 a) true))))

unfoldable pub range_at : Reader → ℕ → ℕ → Bool
range_at rd i w = in_range (role_at rd i w) (rd i w)

unfoldable pub ranges_fit : Reader → ℕ → Bool
ranges_fit rd i = both (range_at rd i 1) (both (range_at rd i 2) (range_at rd i 3))

-- What a reference in a role must name: whether it may be 0, the class of the record, and the class of the items of the chain there.
pub record Reference : Type 0 where
  pub zero : Bool
  pub class : ℕ
  pub items : ℕ

-- a record of class c; the same, or 0; a chain of items of class c; the same, or 0
abbrev one : ℕ → Reference
one c = record { zero = false; class = c; items = noᶜ }

abbrev one_or_none : ℕ → Reference
one_or_none c = record { zero = true; class = c; items = noᶜ }

abbrev chain_of : ℕ → Reference
chain_of c = record { zero = false; class = linkᶜ; items = c }

abbrev chain_or_none : ℕ → Reference
chain_or_none c = record { zero = true; class = linkᶜ; items = c }

-- any record
abbrev pub any_record : Reference
any_record = one noᶜ

-- By role, from 0 on. Roles 0 to 5 are no references.
abbrev pub references : List Reference
references =
    any_record ∷ any_record ∷ any_record ∷ any_record ∷ any_record ∷ any_record ∷  -- 0 to 5
    one nameᶜ ∷  -- 6 name
    one_or_none nameᶜ ∷  -- 7 next name record
    chain_or_none noᶜ ∷  -- 8 chain of parts or premises
    chain_of typeᶜ ∷  -- 9 a function's chain of types
    any_record ∷  -- 10 item
    one_or_none linkᶜ ∷  -- 11 next link
    one typeᶜ ∷  -- 12 type
    one termᶜ ∷  -- 13 term
    one formulaᶜ ∷  -- 14 formula
    one functionᶜ ∷  -- 15 function
    chain_of typeᶜ ∷  -- 16 chain of types
    chain_or_none termᶜ ∷ []  -- 17 chain of arguments

unfoldable pub may_be_zero : ℕ → Bool
may_be_zero r = (get_or references r any_record).zero

unfoldable pub wanted_class : ℕ → ℕ
wanted_class r = (get_or references r any_record).class

unfoldable pub item_class : ℕ → ℕ
item_class r = (get_or references r any_record).items

-- class c is wanted, 0 for any, and record j has it
unfoldable pub has_class : Reader → ℕ → ℕ → Bool
has_class rd c j = if_eq c noᶜ true (eqb (class_at rd j) c)

-- "An item of a link may be any record; its class is checked by the record that uses the chain."
unfoldable pub items_have_class : Reader → ℕ → ℕ → Bool
items_have_class rd c j = if_eq c noᶜ true (every (has_class rd c) (items rd j))

-- "5 reference zero, not smaller or of wrong class": word a of record i, in role r
unfoldable pub refers : Reader → ℕ → ℕ → ℕ → Bool
refers rd i r a =
    if_lt r nameʳ true (if_eq a 0 (may_be_zero r) (both (ltb a i) (both (has_class rd (wanted_class r) a) (items_have_class rd (item_class r) a))))

unfoldable pub refers_at : Reader → ℕ → ℕ → Bool
refers_at rd i w = refers rd i (role_at rd i w) (rd i w)

unfoldable pub references_fit : Reader → ℕ → Bool
references_fit rd i = both (refers_at rd i 1) (both (refers_at rd i 2) (refers_at rd i 3))

-- "6 chain length": "over 4 name records"
unfoldable pub name_length_fits : Reader → ℕ → Bool
name_length_fits rd i = leb (length (linked rd (name_of rd i))) 4

-- "a function's types not 1 to 5", "an application's types not 1 to 5"
unfoldable pub types_fit : Reader → ℕ → Bool
types_fit rd c = between 1 5 (length (linked rd c))

-- "or its arguments over 4"
unfoldable pub arguments_fit : Reader → ℕ → Bool
arguments_fit rd c = leb (length (linked rd c)) 4

-- the chains of types and arguments of a function or an application
unfoldable pub item_chains_fit : Reader → ℕ → Bool
item_chains_fit rd i =
    if_eq (rd i 0) kinds.function (types_fit rd (rd i 1))
    (if_eq (rd i 0) kinds.application (both (types_fit rd (rd i 2)) (arguments_fit rd (rd i 3))) true)

-- "at the symbol or application"
unfoldable pub chains_fit : Reader → ℕ → Bool
chains_fit rd i = both (name_length_fits rd i) (item_chains_fit rd i)

-- "7 weight over 4,096 (derivation 16,384)", by the kind of file
unfoldable pub most_weight : ℕ → ℕ
most_weight mode = if_eq mode modes.derivation 16384 4096

unfoldable pub weight_fits : ℕ → Reader → ℕ → Bool
weight_fits mode rd i = if_true (is_weighed (rd i 0)) (leb (weight (tree rd i)) (most_weight mode)) true

-- "8 name, at its symbol"
unfoldable pub name_spelled : Reader → ℕ → Bool
name_spelled rd i = elim (eqb (name_of rd i) 0) [ true ↦ true | false ↦ is_name rd i ]

-- "9 name taken"
unfoldable pub name_is_free : Reader → ℕ → Bool
name_is_free rd i = elim (eqb (name_of rd i) 0) [ true ↦ true | false ↦ not (name_taken rd i) ]

-- "10 typing, not in derivations"
unfoldable pub typing_fits : ℕ → Reader → ℕ → Bool
typing_fits mode rd i = if_eq mode modes.derivation true (is_typed rd i)

-- "3 kind"
unfoldable pub kind_fits : ℕ → Reader → ℕ → Bool
kind_fits mode rd i = is_kind mode (rd i 0)

-- refusals 3 to 6 of record i of a file of kind `mode`: its words, 0 for none
unfoldable pub words_fault : ℕ → Reader → ℕ → ℕ
words_fault mode rd i =
    demand (kind_fits mode rd i) 3 (demand (ranges_fit rd i) 4 (demand (references_fit rd i) 5 (demand (chains_fit rd i) 6 0)))

-- refusals 7 to 10: what it says
unfoldable pub content_fault : ℕ → Reader → ℕ → ℕ
content_fault mode rd i =
    demand (weight_fits mode rd i) 7 (demand (name_spelled rd i) 8 (demand (name_is_free rd i) 9 (demand (typing_fits mode rd i) 10 0)))

-- "within one record or node the lower number wins": the refusal of record i, 0 for none
unfoldable pub record_fault : ℕ → Reader → ℕ → ℕ
record_fault mode rd i = or_else (words_fault mode rd i) (content_fault mode rd i)
