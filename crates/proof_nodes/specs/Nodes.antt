-- A node's tests in the order in which the code makes them, and the ways out of that code.
use Rattle.std.specs.Prelude.{ℕ, ◌+◌, ◌<◌, ◌≤◌, ◌≡◌, List, [], ◌∷◌, map, Bool, true, false, ltb, leb, length}
use Rattle.std.proofs.Math.Path.{refl, sym, ap}
use Rattle.std.proofs.Common.{◌∙◌, arith}
use borrow.Author.Tests.{eq-eqb, ne_eqb, lt-ltb, le-ltb, ltb-false, le-leb}
use Rattle.reader.specs.Words.{Reader}
use Rattle.reader.specs.Tests.{demand, or_else, every, if_eq, if_lt}
use Rattle.reader.specs.Trees.{Tree, atom, tree, atom_of}
use Rattle.reader.specs.Chains.{item_trees, parts}
use Rattle.reader.specs.Shapes.{have_shapes}
use Rattle.proof_rules.specs.Rules.{row}
use Rattle.proof_rules.specs.RowLaws.{NoRule, row_none, by_rule}
use Rattle.proof_rules.specs.Check.{row_of, has_room, row_fault, node_fault}
use Rattle.reader.specs.Members.{member, is_fresh, premises_fit, part}
use Rattle.reader.specs.TreeLaws.{tree_zero}
use Rattle.reader_chains.specs.Shapes.{atom_tree}
use Rattle.reader_equality.specs.Tables.{Zeros}
use Rattle.proof_members.specs.Sequents.{sequent, Ready, sequent_length, in_memory}
use Rattle.reader_bytes.specs.Bytes.{premises_of}
use Rattle.reader_chains.specs.Chains.{item_at}
use Rattle.proof_bytes.specs.Bytes.{proof_byte}
use Rattle.proof_forms.specs.Premises.{are_nodes, premises_are}
use Rattle.proof_references.specs.declared.References.{References}
use Rattle.proof_references.specs.References.{ReferencesAre}
use Rattle.proof_rows.specs.Paths.{part_tree}
use Rattle.proof_rows.specs.Tables.{needs_hold}
use Rattle.proof_rows.specs.Grown.{parts_in}

-- record i stands below the numbered ones, beside h members and a scratch table of zeros with an entry for each numbered one
pub record At (rd : Reader) (numbers memory scratch : List ℕ) (h i : ℕ) : Type 0 where
  pub ready : Ready rd numbers memory h
  pub within : i < length numbers
  pub marks : length numbers ≤ length scratch
  pub blank : Zeros scratch

-- how many members a premise of rule k adds at most
unfoldable pub most_added : ℕ → ℕ
most_added k = if_lt k 37 0 (if_lt 46 k 0 (if_eq k 39 2 (if_eq k 40 2 1)))

-- that many have room beside h members
unfoldable pub room_for : ℕ → ℕ → Bool
room_for h k = leb (h + most_added k) 1024

-- refusals 13 and 14, and 15 to 17, of a node of kind k with its parts in chain c
unfoldable pub form_fault : Reader → List Tree → References → ℕ
form_fault rd s node =
    demand (have_shapes (row node.kind (item_trees rd node.first)).shapes (item_trees rd node.first)) 13
    (demand (are_nodes rd node.second (premises_of (proof_byte node.kind))) 13 (demand (needs_hold s node.kind (item_trees rd node.first)) 14 0))

unfoldable pub fit_fault : Reader → List Tree → ℕ → ℕ → ℕ
fit_fault rd s k c =
    demand (row k (item_trees rd c)).fits 15
    (demand (every (is_fresh s) (row k (item_trees rd c)).fresh) 16 (demand (has_room s (row k (item_trees rd c)).adds) 17 0))

-- the number of premises by the byte that was read
pub nodes_by_byte : (rd : Reader) (d k byte : ℕ) (r : Bool) → byte ≡ proof_byte k → r ≡ are_nodes rd d (premises_of byte) → r ≡ are_nodes rd d (premises_of (proof_byte k))
nodes_by_byte rd d k byte r eb e = rw (← eb) e

-- the two one after the other are the node's
both_faults : (rd : Reader) (s : List Tree) (n : ℕ) (node : References) → ReferencesAre rd n node →
    or_else (form_fault rd s node) (fit_fault rd s node.kind node.first) ≡ node_fault rd s n
unfolding node_fault row_fault row_of parts item_trees form_fault needs_hold fit_fault demand or_else
both_faults rd s n node is =
    rw (is.kind_is, is.first_is, is.second_is, ← premises_are rd n)
    (go (have_shapes (row_of rd n).shapes (map (tree rd) (parts rd n))) (premises_fit 1 rd n (length (row_of rd n).adds))
    (every (λ t. member t s) (row_of rd n).needs))
  where
    rest : ℕ
    rest = demand (row_of rd n).fits 15 (demand (every (is_fresh s) (row_of rd n).fresh) 16 (demand (has_room s (row_of rd n).adds) 17 0))

    go : (a b c : Bool) → or_else (demand a 13 (demand b 13 (demand c 14 0))) rest ≡ demand a 13 (demand b 13 (demand c 14 rest))
    go true true true = refl
    go true true false = refl
    go true false c = refl
    go false b c = refl

pub node_is : (rd : Reader) (s : List Tree) (n r : ℕ) (node : References) → ReferencesAre rd n node →
    r ≡ or_else (form_fault rd s node) (fit_fault rd s node.kind node.first) → r ≡ node_fault rd s n
node_is rd s n r node is e = e ∙ both_faults rd s n node is

-- The ways out of `tree_atom`.
module _ (rd : Reader) (i : ℕ) where
  pub atom_none : i ≡ 0 → 0 ≡ atom_of (tree rd i)
  unfolding atom_of
  atom_none h = rw (h, tree_zero rd) refl

  pub atom_some : (i ≡ 0 → ⊥) → (a : ℕ) → a ≡ atom rd i → a ≡ atom_of (tree rd i)
  atom_some h a e = e ∙ sym (atom_tree rd i (omega arith))

-- the constant of rule 43, and none of another
fresh_43 : (ps : List Tree) → (row 43 ps).fresh ≡ atom_of (part ps 1) ∷ []
unfolding row if_eq
fresh_43 ps = refl

fresh_none : (ps : List Tree) (k : ℕ) → (k ≡ 43 → ⊥) → (row k ps).fresh ≡ []
unfolding row if_eq
fresh_none ps =
    by_rule (λ k. (k ≡ 43 → ⊥) → (row k ps).fresh ≡ [])
    (λ h. refl) (λ h. refl) (λ h. refl) (λ h. refl) (λ h. refl)
    (λ h. refl) (λ h. refl) (λ h. refl) (λ h. refl) (λ h. refl)
    (λ h. refl) (λ h. absurd (h refl)) (λ h. refl) (λ h. refl) (λ h. refl)
    (λ k other h. rw (row_none k ps other) refl)

-- a test made once or twice
once : (b : Bool) → elim b as (λ x. Bool) [ true ↦ true | false ↦ false ] ≡ b
once true = refl
once false = refl

twice : (b : Bool) → elim b as (λ x. Bool) [ true ↦ elim b [ true ↦ true | false ↦ false ] | false ↦ false ] ≡ b
twice true = refl
twice false = refl

-- The ways out of `constant_fresh`.
module _ (rd : Reader) (s : List Tree) (k c : ℕ) where
  pub fresh_other : (k ≡ 43 → ⊥) → true ≡ every (is_fresh s) (row k (item_trees rd c)).fresh
  unfolding every
  fresh_other h = rw (fresh_none (item_trees rd c) k h) refl

  pub fresh_constant : k ≡ 43 → (p a : ℕ) (r : Bool) → p ≡ item_at rd c 1 → a ≡ atom_of (tree rd p) → r ≡ is_fresh s a → r ≡ every (is_fresh s) (row k (item_trees rd c)).fresh
  unfolding every
  fresh_constant h p a r ep ea e =
      let own : atom_of (part (item_trees rd c) 1) ≡ a = ap atom_of (part_tree rd c 1 ∙ ap (tree rd) (sym ep)) ∙ sym ea in
      rw (h, fresh_43 (item_trees rd c))
      (e ∙ ap (is_fresh s) (sym own) ∙ sym (once (is_fresh s (atom_of (part (item_trees rd c) 1)))))

-- a rule without premises, and no rule, ask no room
most_none : (k : ℕ) → NoRule k → most_added k ≡ 0
unfolding most_added if_lt
most_none k h = go (ltb k 37) refl
  where
    high : 37 ≤ k → (b : Bool) → ltb 46 k ≡ b → ◌≡◌ {A = ℕ} (elim b [ true ↦ 0 | false ↦ if_eq k 39 2 (if_eq k 40 2 1) ]) 0
    high p true e = refl
    high p false e = let y : k ≤ 46 = ltb-false 46 k e in absurd (h k (omega arith) y refl)

    go : (b : Bool) → ltb k 37 ≡ b → ◌≡◌ {A = ℕ} (elim b [ true ↦ 0 | false ↦ elim (ltb 46 k) [ true ↦ 0 | false ↦ if_eq k 39 2 (if_eq k 40 2 1) ] ]) 0
    go true e = refl
    go false e = high (ltb-false k 37 e) (ltb 46 k) refl

-- the room that the rows ask
room_is : (s ps : List Tree) → length s ≤ 1024 → (k : ℕ) → has_room s (row k ps).adds ≡ room_for (length s) k
unfolding row if_eq if_lt has_room every room_for most_added
room_is s ps small =
    by_rule (λ k. has_room s (row k ps).adds ≡ room_for (length s) k)
    none none none none none
    (twice (leb (length s + 1) 1024)) (once (leb (length s + 1) 1024))
    (once (leb (length s + 2) 1024)) (once (leb (length s + 2) 1024))
    (twice (leb (length s + 1) 1024)) (twice (leb (length s + 1) 1024))
    (once (leb (length s + 1) 1024)) (once (leb (length s + 1) 1024)) (once (leb (length s + 1) 1024))
    (twice (leb (length s + 1) 1024))
    (λ k other. rw (row_none k ps other, most_none k other) none)
  where
    none : true ≡ leb (length s + 0) 1024
    none = sym (le-leb (length s + 0) 1024 (omega arith))

-- The ways out of the code that asks for room.
module _ (k : ℕ) where
  pub most_low : k < 37 → 0 ≡ most_added k
  unfolding most_added if_lt
  most_low h = simp (most_added, if_lt, lt-ltb k 37 h)

  module _ (low : 37 ≤ k) where
    pub most_high : 46 < k → 0 ≡ most_added k
    unfolding most_added if_lt
    most_high h = simp (most_added, if_lt, le-ltb k 37 low, lt-ltb 46 k h)

    module _ (high : k ≤ 46) where
      pub most_39 : k ≡ 39 → 2 ≡ most_added k
      unfolding most_added if_lt if_eq
      most_39 h = simp (most_added, if_lt, if_eq, le-ltb k 37 low, le-ltb 46 k high, eq-eqb k 39 h)

      module _ (no-39 : k ≡ 39 → ⊥) where
        pub most_40 : k ≡ 40 → 2 ≡ most_added k
        unfolding most_added if_lt if_eq
        most_40 h = simp (most_added, if_lt, if_eq, le-ltb k 37 low, le-ltb 46 k high, ne_eqb k 39 no-39, eq-eqb k 40 h)

        pub most_other : (k ≡ 40 → ⊥) → 1 ≡ most_added k
        unfolding most_added if_lt if_eq
        most_other h = simp (most_added, if_lt, if_eq, le-ltb k 37 low, le-ltb 46 k high, ne_eqb k 39 no-39, ne_eqb k 40 h)

pub room_test : (h k a : ℕ) → (a ≡ most_added k) × (a ≤ 2) → leb (h + a) 1024 ≡ room_for h k
unfolding room_for
room_test h k a e = rw e.0 refl

-- the sequent's length is the number of keys
pub room_of : (rd : Reader) (numbers memory scratch : List ℕ) (h k c : ℕ) (r : Bool) → At rd numbers memory scratch h c → r ≡ room_for h k →
    r ≡ has_room (sequent rd memory h) (row k (item_trees rd c)).adds
room_of rd numbers memory scratch h k c r here e =
    let size : length (sequent rd memory h) ≡ h = sequent_length rd memory h (in_memory rd numbers memory h here.ready) in
    let low : h ≤ 1024 = here.ready.low in
    rw (room_is (sequent rd memory h) (item_trees rd c) (omega arith) k, size) e

-- the parts of a node stand below it
pub at_parts : (rd : Reader) (numbers memory scratch : List ℕ) (h n : ℕ) (node : References) → At rd numbers memory scratch h n → ReferencesAre rd n node →
    At rd numbers memory scratch h node.first
at_parts rd numbers memory scratch h n node here is =
    record { ready = here.ready; within = parts_in rd n (length numbers) node here.within is; marks = here.marks; blank = here.blank }

pub at_low : (rd : Reader) (numbers memory scratch : List ℕ) (h n : ℕ) → At rd numbers memory scratch h n → h ≤ 1024
at_low rd numbers memory scratch h n here = here.ready.low

-- the scratch table may change
pub at_scratch : (rd : Reader) (numbers memory before after : List ℕ) (h n : ℕ) → length after ≡ length before → Zeros after → At rd numbers memory before h n →
    At rd numbers memory after h n
at_scratch rd numbers memory before after h n e z here =
    record { ready = here.ready; within = here.within; marks = omega (arith, here.marks); blank = z }
