-- What the rule nodes of a block name, computed from the block's lines alone, and a test of the lines that every template passes.
use Rattle.std.specs.Prelude.{ℕ, zero, suc, ◌+◌, ◌-◌, ◌<◌, ◌≤◌, ◌≡◌, refl, List, [], ◌∷◌, ◌++◌, Bool, true, false, eqb, ltb, get_or, length}
use Rattle.std.proofs.Common.{ap, ◌∙◌, arith, eqb-true, ltb-true}
use Rattle.std.proofs.lemmas.Bool.{false≢true, eqb-false}
use Rattle.reader.specs.Tests.{both, every, if_true, if_eq, if_lt, between}
use Rattle.reader.specs.Kinds.{is_rule}
use Rattle.reader.specs.Places.{times_in}
use Rattle.reader_laws.specs.Scan.{both_parts, between_parts}
use Rattle.translation_rules.specs.Templates.{Cell, none, part, inside, deeper, type_inside, bottom, own, conclusion, Line, template, lines_of_start}
use Rattle.translation_rules.specs.Output.{no_line}

-- how many premises a node of proof rule k has
unfoldable pub arity_of : ℕ → ℕ
arity_of k =
    get_or
    (0 ∷  -- 32
    0 ∷  -- 33
    0 ∷  -- 34
    0 ∷  -- 35
    0 ∷  -- 36
    2 ∷  -- 37
    1 ∷  -- 38
    1 ∷  -- 39
    1 ∷  -- 40
    2 ∷  -- 41
    2 ∷  -- 42
    1 ∷  -- 43
    1 ∷  -- 44
    1 ∷  -- 45
    2 ∷ [])  -- 46
    (k - 32) 0

-- record r of a block
abbrev pub line_at : List Line → ℕ → Line
line_at lines r = get_or lines r no_line

-- selection by what a cell is: a record of the block, a premise's concluding node, no reference, or anything else
unfoldable pub choose : {A : Type 0} → Cell → (ℕ → A) → (ℕ → A) → A → A → A
choose none f g x y = x
choose (part j) f g x y = y
choose (inside w) f g x y = y
choose deeper f g x y = y
choose type_inside f g x y = y
choose bottom f g x y = y
choose (own r) f g x y = f r
choose (conclusion j) f g x y = g j

-- the items of the chain that starts at a cell, of at most `fuel` links
unfoldable pub chain_from : List Line → ℕ → Cell → List Cell
chain_from lines zero c = []
chain_from lines (suc fuel) c = choose c (λ r. (line_at lines r).first ∷ chain_from lines fuel (line_at lines r).third) (λ j. []) [] []

-- what record o of the block names, if it is a rule node
unfoldable pub node_cells : List Line → ℕ → List Cell
node_cells lines o = if_true (is_rule 2 (line_at lines o).kind) (chain_from lines (length lines) (line_at lines o).second) []

-- what the first c records of the block name
unfoldable pub cells_to : List Line → ℕ → List Cell
cells_to lines zero = []
cells_to lines (suc c) = cells_to lines c ++ node_cells lines c

-- what the whole block names
abbrev pub cells_of : List Line → List Cell
cells_of lines = cells_to lines (length lines)

-- the block's own records among these cells, and the premises among them
unfoldable pub owns_in : List Cell → List ℕ
owns_in [] = []
owns_in (c ∷ cs) = choose c (λ r. r ∷ owns_in cs) (λ j. owns_in cs) (owns_in cs) (owns_in cs)

unfoldable pub premises_in : List Cell → List ℕ
premises_in [] = []
premises_in (c ∷ cs) = choose c (λ r. premises_in cs) (λ j. j ∷ premises_in cs) (premises_in cs) (premises_in cs)

-- at, at + 1, … : n numbers
unfoldable pub counting : ℕ → ℕ → List ℕ
counting at zero = []
counting at (suc n) = at ∷ counting (suc at) n

-- Tests.

-- an item of a link at record r: a record of the block before it, or one of the node's premises
unfoldable pub fits_item : ℕ → ℕ → Cell → Bool
fits_item arity r c = choose c (λ s. ltb s r) (λ j. ltb j arity) false false

-- a chain, named by record `top`, whose links stand in the block, each before what names it, and whose items fit
unfoldable pub fits_chain : List Line → ℕ → ℕ → ℕ → Cell → Bool
fits_chain lines arity zero top c = false
fits_chain lines arity (suc fuel) top c =
    choose c
    (λ r. both (ltb r top) (both (fits_item arity r (line_at lines r).first) (fits_chain lines arity fuel r (line_at lines r).third)))
    (λ j. false) true false

-- a premise, or a record of the block that is not its last
unfoldable pub is_inner : ℕ → Cell → Bool
is_inner size c = choose c (λ r. ltb (r + 1) size) (λ j. true) false false

-- b, where a holds
unfoldable pub implied : Bool → Bool → Bool
implied a b = if_true a b true

-- the test holds for every number below c
unfoldable pub all_below : (ℕ → Bool) → ℕ → Bool
all_below test zero = true
all_below test (suc c) = both (test c) (all_below test c)

-- equal lists of numbers
unfoldable pub same_numbers : List ℕ → List ℕ → Bool
same_numbers [] [] = true
same_numbers [] (y ∷ ys) = false
same_numbers (x ∷ xs) [] = false
same_numbers (x ∷ xs) (y ∷ ys) = both (eqb x y) (same_numbers xs ys)

unfoldable pub fits_node : List Line → ℕ → ℕ → Bool
fits_node lines arity o = implied (is_rule 2 (line_at lines o).kind) (fits_chain lines arity (length lines) o (line_at lines o).second)

unfoldable pub named_once : List Line → ℕ → Bool
named_once lines o = implied (is_rule 2 (line_at lines o).kind) (eqb (times_in o (owns_in (cells_of lines))) 1)

-- all that the count of names asks of a block's lines
unfoldable pub is_sound : List Line → ℕ → Bool
is_sound lines arity =
    both (ltb 0 (length lines))
    (both (all_below (fits_node lines arity) (length lines))
    (both (every (is_inner (length lines)) (cells_of lines))
    (both (same_numbers (premises_in (cells_of lines)) (counting 0 arity)) (all_below (named_once lines) (length lines - 1)))))

-- The same as facts.
pub record Sound (lines : List Line) (arity : ℕ) : Type 0 where
  pub some : 0 < length lines
  -- the premise chains stand in the block
  pub fits : (o : ℕ) → o < length lines → is_rule 2 (line_at lines o).kind ≡ true → fits_chain lines arity (length lines) o (line_at lines o).second ≡ true
  -- the block does not name its last record, and names nothing but its own records and premises
  pub inner : every (is_inner (length lines)) (cells_of lines) ≡ true
  -- it names each premise once, in order
  pub premised : premises_in (cells_of lines) ≡ counting 0 arity
  -- and each of its rule nodes but the last once
  pub once : (o : ℕ) → o < length lines - 1 → is_rule 2 (line_at lines o).kind ≡ true → times_in o (owns_in (cells_of lines)) ≡ 1

-- Laws of the tests.
pub implied_then : (a b : Bool) → implied a b ≡ true → a ≡ true → b ≡ true
unfolding implied if_true
implied_then true b h e = h
implied_then false b h e = absurd (false≢true e)

pub all_below_lem : (test : ℕ → Bool) (c : ℕ) → all_below test c ≡ true → (o : ℕ) → o < c → test o ≡ true
unfolding all_below
all_below_lem test zero h o p = absurd (omega arith)
all_below_lem test (suc c) h o p = go (eqb o c) refl (λ q. all_below_lem test c (both_parts (test c) (all_below test c) h).1 o q)
  where
    go : (b : Bool) → eqb o c ≡ b → (o < c → test o ≡ true) → test o ≡ true
    go true e rest = ap test (eqb-true o c e) ∙ (both_parts (test c) (all_below test c) h).0
    go false e rest = let other = eqb-false o c e in rest (omega arith)

pub same_numbers_lem : (xs ys : List ℕ) → same_numbers xs ys ≡ true → xs ≡ ys
unfolding same_numbers
same_numbers_lem [] [] h = refl
same_numbers_lem [] (y ∷ ys) h = absurd (false≢true h)
same_numbers_lem (x ∷ xs) [] h = absurd (false≢true h)
same_numbers_lem (x ∷ xs) (y ∷ ys) h =
    let p = both_parts (eqb x y) (same_numbers xs ys) h in
    let head : x ≡ y = eqb-true x y p.0 in
    let rest : xs ≡ ys = same_numbers_lem xs ys p.1 in
    cc

-- what a cell is that passed a test
pub choose_cases : (P : Cell → Type 0) (c : Cell) (f g : ℕ → Bool) (b : Bool) → choose c f g b false ≡ true →
    ((r : ℕ) → f r ≡ true → P (own r)) → ((j : ℕ) → g j ≡ true → P (conclusion j)) → (b ≡ true → P none) → P c
unfolding choose
choose_cases P none f g b h p q z = z h
choose_cases P (part j) f g b h p q z = absurd (false≢true h)
choose_cases P (inside w) f g b h p q z = absurd (false≢true h)
choose_cases P deeper f g b h p q z = absurd (false≢true h)
choose_cases P type_inside f g b h p q z = absurd (false≢true h)
choose_cases P bottom f g b h p q z = absurd (false≢true h)
choose_cases P (own r) f g b h p q z = p r h
choose_cases P (conclusion j) f g b h p q z = q j h

pub sound_parts : (lines : List Line) (arity : ℕ) → is_sound lines arity ≡ true → Sound lines arity
unfolding is_sound fits_node named_once
sound_parts lines arity h =
    let a = both_parts (ltb 0 (length lines)) _ h in
    let b = both_parts (all_below (fits_node lines arity) (length lines)) _ a.1 in
    let c = both_parts (every (is_inner (length lines)) (cells_of lines)) _ b.1 in
    let d = both_parts (same_numbers (premises_in (cells_of lines)) (counting 0 arity)) _ c.1 in
    record {
      some = ltb-true 0 (length lines) a.0;
      fits = λ o p e. implied_then (is_rule 2 (line_at lines o).kind) _ (all_below_lem (fits_node lines arity) (length lines) b.0 o p) e;
      inner = c.0;
      premised = same_numbers_lem (premises_in (cells_of lines)) (counting 0 arity) d.0;
      once = λ o p e.
          eqb-true (times_in o (owns_in (cells_of lines))) 1
          (implied_then (is_rule 2 (line_at lines o).kind) _ (all_below_lem (named_once lines) (length lines - 1) d.1 o p) e);
    }

-- Every template passes.
every_template : all_below (λ k. is_sound (template (32 + k)) (arity_of (32 + k))) 15 ≡ true
unfolding all_below is_sound both every if_true if_eq if_lt between is_rule times_in choose chain_from node_cells cells_to owns_in premises_in counting fits_item fits_chain
    is_inner implied same_numbers fits_node named_once template arity_of
every_template = refl

start_passes : is_sound lines_of_start 1 ≡ true
unfolding all_below is_sound both every if_true if_eq if_lt between is_rule times_in choose chain_from node_cells cells_to owns_in premises_in counting fits_item fits_chain
    is_inner implied same_numbers fits_node named_once
start_passes = refl

pub rule_kind : (k : ℕ) → is_rule 1 k ≡ true → (32 ≤ k) × (k ≤ 46)
unfolding is_rule if_eq
rule_kind k h = between_parts 32 46 k h

pub template_sound : (k : ℕ) → is_rule 1 k ≡ true → Sound (template k) (arity_of k)
template_sound k h =
    let b = rule_kind k h in
    let same : 32 + (k - 32) ≡ k = omega arith in
    sound_parts (template k) (arity_of k)
    (rw same at (all_below_lem (λ k. is_sound (template (32 + k)) (arity_of (32 + k))) 15 every_template (k - 32) (omega arith)))

pub start_sound : Sound lines_of_start 1
start_sound = sound_parts lines_of_start 1 start_passes
