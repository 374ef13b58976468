-- A test on the lines of a template, by the table of records: a line that passes is a record without a fault, whatever its letters stand for.
use Rattle.std.specs.Prelude.{ℕ, List, Bool, true, false, eqb, ltb, get_or, length}
use Rattle.reader.specs.Tests.{both, either, between, if_eq, if_lt}
use Rattle.reader.specs.Kinds.{kinds, noᶜ, linkᶜ, typeᶜ, termᶜ, formulaᶜ, nothingʳ, to63ʳ, node_chainʳ, itemʳ, next_linkʳ, typeʳ, termʳ, formulaʳ, role}
use Rattle.reader.specs.Records.{wanted_class}
use Rattle.reader_laws.specs.Classes.{all_below}
use Rattle.translation_rules.specs.Templates.{Cell, none, part, inside, deeper, type_inside, bottom, own, conclusion, Line}
use Rattle.translation_rules.specs.Output.{no_line}

-- What is known of a rule node's letters.
pub record Known : Type 0 where
  -- the classes of its parts
  pub classes : List ℕ
  -- the kind of part 0, and that of the record that its word 1 names; 0 where no line needs it
  pub outer : ℕ
  pub inner : ℕ
  -- how many premises it has
  pub premise_count : ℕ

-- A record of a class that no line asks for. The table's classes are 0 to 7.
abbrev pub anyᶜ : ℕ
anyᶜ = 8

-- the class of the record that word w of a record of kind k names, where that is a type, a term or a formula; else 0
unfoldable pub word_class : ℕ → ℕ → ℕ
word_class k w = if_eq (role k w) typeʳ typeᶜ (if_eq (role k w) termʳ termᶜ (if_eq (role k w) formulaʳ formulaᶜ noᶜ))

-- what a line of kind k is to the lines after it: a link, a term (a bound variable), or a record that only a link names
unfoldable pub own_class : ℕ → ℕ
own_class k = if_eq k kinds.link linkᶜ (if_eq k kinds.bound_variable termᶜ anyᶜ)

abbrev pub kind_in : List Line → ℕ → ℕ
kind_in lines r = (get_or lines r no_line).kind

-- the class of what a cell of line r names; 0 where nothing is known of it
unfoldable pub cell_class : Known → List Line → ℕ → Cell → ℕ
cell_class u lines r none = noᶜ
cell_class u lines r (part j) = get_or u.classes j noᶜ
cell_class u lines r (inside w) = word_class u.outer w
cell_class u lines r deeper = word_class u.inner 1
cell_class u lines r type_inside = if_eq u.outer kinds.equal typeᶜ noᶜ
cell_class u lines r bottom = formulaᶜ
cell_class u lines r (own s) = if_lt s r (own_class (kind_in lines s)) noᶜ
cell_class u lines r (conclusion j) = if_lt j u.premise_count anyᶜ noᶜ

unfoldable pub is_none : Cell → Bool
is_none none = true
is_none (part j) = false
is_none (inside w) = false
is_none deeper = false
is_none type_inside = false
is_none bottom = false
is_none (own s) = false
is_none (conclusion j) = false

-- a chain, or none
unfoldable pub is_chain : Known → List Line → ℕ → Cell → Bool
is_chain u lines r c = either (is_none c) (eqb (cell_class u lines r c) linkᶜ)

-- a cell of line r fits a role
unfoldable pub cell_fits : Known → List Line → ℕ → ℕ → Cell → Bool
cell_fits u lines r role c =
    if_eq role nothingʳ (is_none c)
    (if_eq role to63ʳ (is_none c)
    (if_eq role node_chainʳ (is_chain u lines r c)
    (if_eq role itemʳ (ltb 0 (cell_class u lines r c))
    (if_eq role next_linkʳ (is_chain u lines r c)
    (both (between typeʳ formulaʳ role) (eqb (cell_class u lines r c) (wanted_class role)))))))

-- the kinds that templates write: a link, a bound variable, ¬, =, and the rule nodes of a derivation
unfoldable pub is_written : ℕ → Bool
is_written k =
    if_eq k kinds.link true
    (if_eq k kinds.bound_variable true (if_eq k kinds.not true (if_eq k kinds.equal true (between 64 80 k))))

-- line x, at place r
unfoldable pub line_fits : Known → List Line → ℕ → Line → Bool
line_fits u lines r x =
    both (is_written x.kind)
    (both (cell_fits u lines r (role x.kind 1) x.first)
    (both (cell_fits u lines r (role x.kind 2) x.second) (cell_fits u lines r (role x.kind 3) x.third)))

-- every line
unfoldable pub lines_fit : Known → List Line → Bool
lines_fit u lines = all_below (λ r. line_fits u lines r (get_or lines r no_line)) (length lines)
