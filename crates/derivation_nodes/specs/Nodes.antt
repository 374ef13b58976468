-- A node's tests in the order in which the code makes them, and that they are the definition's.
use Rattle.std.specs.Prelude.{ℕ, ◌<◌, ◌≤◌, ◌≡◌, refl, List, Bool, true, false, leb, length}
use Rattle.std.proofs.Common.{◌∙◌, arith, le-leb}
use Rattle.std.proofs.lemmas.Bool.{lt-leb}
use Rattle.reader.specs.Words.{Reader}
use Rattle.reader.specs.Tests.{both, demand, or_else, if_lt}
use Rattle.reader.specs.Trees.{Tree}
use Rattle.derivation_rules.specs.Erase.{bare_parts}
use Rattle.derivation_rules.specs.Rules.{State}
use Rattle.derivation_rules.specs.Check.{depth_fits, row_fault, row_of, node_fault}
use Rattle.reader.specs.Members.{premises_fit}
use Rattle.derivation_trees.specs.Keys.{decoded}
use Rattle.derivation_closedness.specs.Reaches.{Unmarked}
use Rattle.derivation_paths.specs.Tables.{Tables}
use Rattle.derivation_rules.specs.RowLaws.{by_rule}
use Rattle.derivation_frames.specs.Frames.{goal_at, count_at, members_at, state_of, Framed}
use Rattle.reader_bytes.specs.Bytes.{premises_of}
use Rattle.derivation_bytes.specs.Bytes.{derivation_byte}
use Rattle.derivation_bytes.proofs.Rows.{derivation_premises}
use Rattle.derivation_tables.specs.Tables.{column, column_none}
use Rattle.derivation_forms.specs.Formed.{parts_formed, goal_shaped, parts_formed_lem, goal_shaped_lem}
use Rattle.derivation_members.specs.Needs.{needs_held, only_goals, needs_held_lem, only_goals_lem}
use Rattle.derivation_fits.specs.Fits.{node_fits, node_fits_lem}
use Rattle.derivation_fresh.specs.Fresh.{node_fresh}
use Rattle.derivation_fresh.proofs.FreshLaws.{node_fresh_lem}
use Rattle.derivation_nodes.specs.Rooms.{node_room, node_room_lem}

-- the tables beside the frames
pub record Ready (rd : Reader) (keys reaches : List ℕ) : Type 0 where
  pub tables : Tables rd keys reaches
  pub unmarked : Unmarked reaches

-- the goal's form, the premises, as node n's rule has them
unfoldable pub goal_shaped_at : Reader → Tree → ℕ → Bool
goal_shaped_at rd goal n = goal_shaped (rd n 0) goal

unfoldable pub premises_at : Reader → ℕ → Bool
premises_at rd n = premises_fit 2 rd n (premises_of (derivation_byte (rd n 0)))

-- what must be among the members is, and what must not is not
unfoldable pub members_fit : Reader → List Tree → Tree → ℕ → Bool
members_fit rd Γ goal n = both (needs_held rd Γ goal n) (only_goals rd n Γ goal)

-- refusals 13 and 14, and 15 to 18
unfoldable pub form_fault : Reader → State → ℕ → ℕ
form_fault rd st n =
    demand (parts_formed rd n) 13
    (demand (goal_shaped_at rd st.goal n) 13
    (demand (premises_at rd n) 13 (demand (members_fit rd st.members st.goal n) 14 0)))

unfoldable pub fit_fault : Reader → State → ℕ → ℕ
fit_fault rd st n =
    demand (node_fits rd st.goal n) 15
    (demand (node_fresh rd st.members st.goal n) 16 (demand (node_room rd (length st.members) n) 17 (demand (leb st.depth 8192) 18 0)))

-- the two one after the other are the node's
in_order : (a b c d e : Bool) (rest : ℕ) → or_else (demand a 13 (demand b 13 (demand c 13 (demand (both d e) 14 0)))) rest ≡
    demand a 13 (demand b 13 (demand c 13 (demand d 14 (demand e 14 rest))))
unfolding demand or_else both
in_order true true true true true rest = refl
in_order true true true true false rest = refl
in_order true true true false e rest = refl
in_order true true false d e rest = refl
in_order true false c d e rest = refl
in_order false b c d e rest = refl

both_faults : (rd : Reader) (st : State) (n : ℕ) → or_else (form_fault rd st n) (fit_fault rd st n) ≡ node_fault rd st n
unfolding form_fault members_fit node_fault row_fault row_of goal_shaped_at premises_at fit_fault depth_fits
both_faults rd st n =
    in_order (parts_formed rd n) (goal_shaped_at rd st.goal n) (premises_at rd n) (needs_held rd st.members st.goal n) (only_goals rd n st.members st.goal) (fit_fault rd st n)
    ∙ rw (
      parts_formed_lem rd n st,
      goal_shaped_lem (rd n 0) (bare_parts rd n) st st.goal,
      ← derivation_premises st (bare_parts rd n) (rd n 0),
      needs_held_lem rd n st,
      only_goals_lem rd n (bare_parts rd n) st,
      node_fits_lem rd n st,
      node_fresh_lem rd n st,
      node_room_lem rd n st,
    ) refl

pub node_is : (rd : Reader) (st : State) (n r : ℕ) → r ≡ or_else (form_fault rd st n) (fit_fault rd st n) → r ≡ node_fault rd st n
node_is rd st n r e = e ∙ both_faults rd st n

-- The ways out of the code that looks at the frame.
pub goal_fits : (rd : Reader) (frames : List ℕ) (d n k goal : ℕ) (r : Bool) → k ≡ rd n 0 → goal ≡ goal_at frames d → r ≡ goal_shaped k (decoded rd goal) →
    r ≡ goal_shaped_at rd (decoded rd (goal_at frames d)) n
unfolding goal_shaped_at
goal_fits rd frames d n k goal r ek eg e = rw (← ek, ← eg) e

pub premises_at_lem : (rd : Reader) (n byte count : ℕ) (r : Bool) → byte ≡ derivation_byte (rd n 0) → count ≡ premises_of byte → r ≡ premises_fit 2 rd n count → r ≡ premises_at rd n
unfolding premises_at
premises_at_lem rd n byte count r eb ec e = rw (← eb, ← ec) e

pub fits_at : (rd : Reader) (frames : List ℕ) (d n goal : ℕ) (r : Bool) → goal ≡ goal_at frames d → r ≡ node_fits rd (decoded rd goal) n →
    r ≡ node_fits rd (decoded rd (goal_at frames d)) n
fits_at rd frames d n goal r eg e = rw (← eg) e

pub members_fit_lem : (rd : Reader) (Γ : List Tree) (goal : Tree) (n : ℕ) (r : Bool) → r ≡ both (needs_held rd Γ goal n) (only_goals rd n Γ goal) → r ≡ members_fit rd Γ goal n
unfolding members_fit
members_fit_lem rd Γ goal n r e = e

-- a premise adds one member at most
pub added_few : (k : ℕ) → column k 2 ≤ 1
unfolding column if_lt
added_few =
    by_rule (λ k. column k 2 ≤ 1)
    (omega arith) (omega arith) (omega arith) (omega arith) (omega arith) (omega arith) (omega arith) (omega arith) (omega arith)
    (omega arith) (omega arith) (omega arith) (omega arith) (omega arith) (omega arith) (omega arith) (omega arith)
    (λ k other. let none : column k 2 ≡ 0 = column_none k 2 other in omega arith)

pub room_at : (rd : Reader) (size : ℕ) (frames : List ℕ) (d n h : ℕ) (r : Bool) → Framed rd size frames d → h ≡ count_at frames d → r ≡ node_room rd h n →
    r ≡ node_room rd (length (members_at rd frames d)) n
room_at rd size frames d n h r here eh e = rw (← here.count, ← eh) e

-- The faults at the frame's sequent.
module _ (rd : Reader) (frames : List ℕ) (d n r : ℕ) where
  pub form_at : r ≡ demand (parts_formed rd n) 13
      (demand (goal_shaped_at rd (decoded rd (goal_at frames d)) n) 13
      (demand (premises_at rd n) 13 (demand (members_fit rd (members_at rd frames d) (decoded rd (goal_at frames d)) n) 14 0))) → r ≡ form_fault rd (state_of rd frames d) n
  unfolding form_fault state_of
  form_at e = e

  pub fit_at : r ≡ demand (node_fits rd (decoded rd (goal_at frames d)) n) 15
      (demand (node_fresh rd (members_at rd frames d) (decoded rd (goal_at frames d)) n) 16
      (demand (node_room rd (length (members_at rd frames d)) n) 17 (demand (leb d 8192) 18 0))) → r ≡ fit_fault rd (state_of rd frames d) n
  unfolding fit_fault state_of
  fit_at e = e

pub depth_stop : (d rest : ℕ) → 8192 < d → 18 ≡ demand (leb d 8192) 18 rest
unfolding demand
depth_stop d rest h = simp (demand, lt-leb d 8192 h)

pub depth_go : (d : ℕ) → d ≤ 8192 → 0 ≡ demand (leb d 8192) 18 0
unfolding demand
depth_go d h = simp (demand, le-leb d 8192 h)
