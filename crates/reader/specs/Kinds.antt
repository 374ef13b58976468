-- The table of records: the class of each kind, and what each word of a record is.
use Rattle.std.specs.Prelude.{ℕ, List, [], ◌∷◌, Bool, true, false, ltb, eqb, get_or}
use Rattle.reader.specs.Words.{Reader}
use Rattle.reader.specs.Tests.{between, if_eq, if_lt}

-- the kinds of file
abbrev pub modes : record { obligation : ℕ; proof : ℕ; derivation : ℕ }
modes = record { obligation = 0; proof = 1; derivation = 2 }

-- the kinds of records, as the table numbers them
pub record Kinds : Type 0 where
  pub link : ℕ
  pub name : ℕ
  pub given_type : ℕ
  pub set_type : ℕ
  pub pair_type : ℕ
  pub type_variable : ℕ
  pub constant : ℕ
  pub function : ℕ
  pub bound_variable : ℕ
  pub pair : ℕ
  pub product : ℕ
  pub powerset : ℕ
  pub application : ℕ
  pub false : ℕ
  pub true : ℕ
  pub and : ℕ
  pub implies : ℕ
  pub not : ℕ
  pub for_all : ℕ
  pub equal : ℕ
  pub member : ℕ
  pub for_all_types : ℕ
  pub choice : ℕ

abbrev pub kinds : Kinds
kinds = record {
  link = 1;
  name = 2;
  given_type = 3;
  set_type = 4;
  pair_type = 5;
  type_variable = 6;
  constant = 7;
  function = 8;
  bound_variable = 9;
  pair = 10;
  product = 11;
  powerset = 12;
  application = 13;
  false = 14;
  true = 15;
  and = 16;
  implies = 17;
  not = 18;
  for_all = 19;
  equal = 20;
  member = 21;
  for_all_types = 22;
  choice = 23;
}

-- Classes.

-- none of these: record 0, and rule nodes
abbrev pub noᶜ : ℕ
noᶜ = 0

abbrev pub linkᶜ : ℕ
linkᶜ = 1

abbrev pub nameᶜ : ℕ
nameᶜ = 2

abbrev pub typeᶜ : ℕ
typeᶜ = 3

abbrev pub termᶜ : ℕ
termᶜ = 4

abbrev pub formulaᶜ : ℕ
formulaᶜ = 5

abbrev pub functionᶜ : ℕ
functionᶜ = 6

-- kind 22
abbrev pub for_all_typesᶜ : ℕ
for_all_typesᶜ = 7

-- Roles of words.

-- "Words not listed are 0."
abbrev pub nothingʳ : ℕ
nothingʳ = 0

-- 4 bytes of a name
abbrev pub bytesʳ : ℕ
bytesʳ = 1

-- a number, 0 to 3
abbrev pub to3ʳ : ℕ
to3ʳ = 2

-- a number, 0 to 4
abbrev pub to4ʳ : ℕ
to4ʳ = 3

-- a number, 0 to 63
abbrev pub to63ʳ : ℕ
to63ʳ = 4

-- a number, 1 to 4
abbrev pub from1to4ʳ : ℕ
from1to4ʳ = 5

-- references that are no part of the record's tree: a name
abbrev pub nameʳ : ℕ
nameʳ = 6

-- the next name record, or 0
abbrev pub next_nameʳ : ℕ
next_nameʳ = 7

-- a chain of parts or premises, or 0
abbrev pub node_chainʳ : ℕ
node_chainʳ = 8

-- a function's chain of types
abbrev pub signatureʳ : ℕ
signatureʳ = 9

-- references to parts of the record's tree: any record
abbrev pub itemʳ : ℕ
itemʳ = 10

-- the next link, or 0
abbrev pub next_linkʳ : ℕ
next_linkʳ = 11

abbrev pub typeʳ : ℕ
typeʳ = 12

abbrev pub termʳ : ℕ
termʳ = 13

abbrev pub formulaʳ : ℕ
formulaʳ = 14

abbrev pub functionʳ : ℕ
functionʳ = 15

-- a chain of types
abbrev pub typesʳ : ℕ
typesʳ = 16

-- a chain of terms, or 0
abbrev pub argumentsʳ : ℕ
argumentsʳ = 17

-- One row of the table: a kind's class, and the roles of its words 1 to 3.
pub record Layout : Type 0 where
  pub class : ℕ
  pub first : ℕ
  pub second : ℕ
  pub third : ℕ

abbrev layout_of : ℕ → ℕ → ℕ → ℕ → Layout
layout_of class first second third = record { class = class; first = first; second = second; third = third }

-- no row: a kind that the table does not have
abbrev pub no_layout : Layout
no_layout = layout_of noᶜ nothingʳ nothingʳ nothingʳ

abbrev pub records : List Layout
records =
    layout_of noᶜ nothingʳ nothingʳ nothingʳ ∷  -- 0
    layout_of linkᶜ itemʳ nothingʳ next_linkʳ ∷  -- 1 link
    layout_of nameᶜ bytesʳ bytesʳ next_nameʳ ∷  -- 2 name
    layout_of typeᶜ nameʳ nothingʳ nothingʳ ∷  -- 3 given type
    layout_of typeᶜ typeʳ nothingʳ nothingʳ ∷  -- 4 set type
    layout_of typeᶜ typeʳ typeʳ nothingʳ ∷  -- 5 pair type
    layout_of typeᶜ to3ʳ nothingʳ nothingʳ ∷  -- 6 type variable
    layout_of termᶜ typeʳ nameʳ nothingʳ ∷  -- 7 constant: "A constant is itself a term."
    layout_of functionᶜ signatureʳ to4ʳ nameʳ ∷  -- 8 function
    layout_of termᶜ to63ʳ typeʳ nothingʳ ∷  -- 9 bound variable
    layout_of termᶜ termʳ termʳ typeʳ ∷  -- 10 pair
    layout_of termᶜ termʳ termʳ typeʳ ∷  -- 11 product
    layout_of termᶜ termʳ typeʳ nothingʳ ∷  -- 12 powerset
    layout_of termᶜ functionʳ typesʳ argumentsʳ ∷  -- 13 application
    layout_of formulaᶜ nothingʳ nothingʳ nothingʳ ∷  -- 14 ⊥
    layout_of formulaᶜ nothingʳ nothingʳ nothingʳ ∷  -- 15 ⊤
    layout_of formulaᶜ formulaʳ formulaʳ nothingʳ ∷  -- 16 ∧
    layout_of formulaᶜ formulaʳ formulaʳ nothingʳ ∷  -- 17 ⇒
    layout_of formulaᶜ formulaʳ nothingʳ nothingʳ ∷  -- 18 ¬
    layout_of formulaᶜ typeʳ formulaʳ nothingʳ ∷  -- 19 ∀
    layout_of formulaᶜ termʳ termʳ nothingʳ ∷  -- 20 =
    layout_of formulaᶜ termʳ termʳ nothingʳ ∷  -- 21 ∈
    layout_of for_all_typesᶜ from1to4ʳ formulaʳ nothingʳ ∷  -- 22 for all types
    layout_of termᶜ termʳ typeʳ nothingʳ ∷ []  -- 23 choice (paper 02, U3)

-- 32–46, 64–80 rule node: chain of parts, chain of premises
abbrev pub rule_node : Layout
rule_node = layout_of noᶜ node_chainʳ node_chainʳ nothingʳ

-- the row of kind k; the rule nodes' from 32 on
abbrev pub layout : ℕ → Layout
layout k = if_lt k 32 (get_or records k no_layout) rule_node

-- the class of a record of kind k
unfoldable pub class : ℕ → ℕ
class k = (layout k).class

-- the role of word w of a record of kind k
unfoldable pub role : ℕ → ℕ → ℕ
role k w = if_eq w 1 (layout k).first (if_eq w 2 (layout k).second (if_eq w 3 (layout k).third nothingʳ))

-- the same of record i
unfoldable pub kind_at : Reader → ℕ → ℕ
kind_at rd i = rd i 0

unfoldable pub class_at : Reader → ℕ → ℕ
class_at rd i = class (rd i 0)

unfoldable pub role_at : Reader → ℕ → ℕ → ℕ
role_at rd i w = role (rd i 0) w

-- "Kinds 32–46 stand in a proof only, 64–80 in a derivation only."
unfoldable pub is_rule : ℕ → ℕ → Bool
is_rule mode k = if_eq mode modes.proof (between 32 46 k) (if_eq mode modes.derivation (between 64 80 k) false)

-- the kinds of a file: 1 to 23, and its rules
unfoldable pub is_kind : ℕ → ℕ → Bool
is_kind mode k = if_lt k 24 (ltb 0 k) (is_rule mode k)

-- a number: 0 to 3, 0 to 4, 0 to 63 or 1 to 4
unfoldable pub is_number : ℕ → Bool
is_number r = if_lt r to3ʳ false (ltb r nameʳ)

-- "symbols (given types, constants, functions)"
unfoldable pub is_symbol : ℕ → Bool
is_symbol k = if_eq k kinds.given_type true (if_eq k kinds.constant true (eqb k kinds.function))
