-- BR2 whose parts pass one run along their chain has no fault.
use Rattle.std.specs.Prelude.{ℕ, ◌≤◌, ◌≡◌, List, Bool, false, length}
use Rattle.std.proofs.Math.Path.{refl}
use Rattle.std.proofs.Common.{sym, ◌∙◌, arith}
use Rattle.std.proofs.Math.Bool.{true}
use Rattle.std.proofs.lemmas.Bool.{false≢true}
use Rattle.reader.specs.Words.{Reader}
use Rattle.reader.specs.Tests.{both, if_lt}
use Rattle.reader.specs.TestLaws.{demand_go, or_go}
use Rattle.reader.specs.Trees.{Tree, lower}
use Rattle.reader_bytes.specs.Bytes.{byte_of, parts_of}
use Rattle.derivation_rules.specs.Erase.{bare_parts}
use Rattle.derivation_rules.specs.Check.{node_fault}
use Rattle.derivation_bytes.specs.Bytes.{derivation_byte}
use Rattle.derivation_trees.specs.Keys.{decoded}
use Rattle.derivation_frames.specs.Frames.{start_at, goal_at, entry_at, members_at, state_of}
use Rattle.derivation_tables.specs.Tables.{column}
use Rattle.derivation_forms.specs.Formed.{parts_formed, formed_varying, goal_any}
use Rattle.derivation_members.specs.Needs.{needs_parts, only_none}
use Rattle.derivation_fits.specs.Fits.{node_fits, letters_none, fits_other}
use Rattle.derivation_fresh.specs.Fresh.{fresh_none}
use Rattle.derivation_kept.specs.Order.{order_held}
use Rattle.derivation_kept.specs.Kept.{AllKept}
use Rattle.derivation_nodes.specs.Rooms.{node_room, room_parts}
use Rattle.derivation_nodes.specs.Nodes.{goal_shaped_at, premises_at, members_fit, node_is, form_at, fit_at, depth_go}

-- r says that node n passes at depth d
pub record Passes (rd : Reader) (frames : List ℕ) (d n : ℕ) (r : Bool) : Type 0 where
  pub holds : r ≡ true → 0 ≡ node_fault rd (state_of rd frames d) n

-- The ways out of `kept_passes`.
pub passes_no : (rd : Reader) (frames : List ℕ) (d n : ℕ) → Passes rd frames d n false
passes_no rd frames d n = record { holds = λ e. absurd (false≢true e) }

module _ (rd : Reader) (frames : List ℕ) (d n k s b c : ℕ) (ek : k ≡ rd n 0) (br2 : k ≡ 65) (ec : c ≡ lower rd n 1) (es : s ≡ start_at frames d) (eb : b ≡ entry_at frames s) where
  abbrev goal : Tree
  goal = decoded rd (goal_at frames d)

  -- a number of parts that varies, no form of the goal, nothing equal or replaced
  fifteen : 15 ≡ parts_of (derivation_byte k)
  unfolding parts_of derivation_byte byte_of if_lt
  fifteen = rw br2 refl

  any_goal : 0 ≡ column k 1
  unfolding column if_lt
  any_goal = rw br2 refl

  no_equal : 0 ≡ column k 8
  unfolding column if_lt
  no_equal = rw br2 refl

  no_replaced : 0 ≡ column k 10
  unfolding column if_lt
  no_replaced = rw br2 refl

  module _ (r : Bool) (kept : AllKept rd b c r) (yes : r ≡ true) where
    parts : true ≡ parts_formed rd n
    parts = formed_varying rd n k c (derivation_byte k) 15 ek ec refl fifteen refl true (kept.formulas yes)

    goal_shape : true ≡ goal_shaped_at rd goal n
    unfolding goal_shaped_at
    goal_shape = rw (← ek) (goal_any k 0 goal any_goal refl)

    members : true ≡ members_fit rd (members_at rd frames d) goal n
    unfolding members_fit both
    members =
        let held = needs_parts rd (members_at rd frames d) n k ek goal br2 c true ec (order_held rd frames d s b _ es eb (sym (kept.found yes))) in
        let only = only_none rd (members_at rd frames d) n k ek (λ h. omega arith) goal in
        rw (← held, ← only) refl

    fit : true ≡ node_fits rd goal n
    unfolding both
    fit = fits_other rd goal n k ek (omega arith) (omega arith) (λ h. omega arith) c true ec
        (rw (← kept.closed yes, ← letters_none k (bare_parts rd n) goal 0 no_equal refl 0 no_replaced refl) refl)

    room : true ≡ node_room rd (length (members_at rd frames d)) n
    room = kept.few yes ∙ room_parts rd (length (members_at rd frames d)) n k ek br2 c _ ec refl

    pub kept_passes : (p : Bool) → p ≡ premises_at rd n → p ≡ true → d ≤ 8192 → 0 ≡ node_fault rd (state_of rd frames d) n
    kept_passes p ep hp deep =
        let form = form_at rd frames d n 0 (demand_go _ true 13 _ 0 parts refl (demand_go _ true 13 _ 0 goal_shape refl (demand_go _ true 13 _ 0 (sym hp ∙ ep) refl (demand_go _ true 14 _ 0 members refl refl)))) in
        let rest = fit_at rd frames d n 0 (demand_go _ true 15 _ 0 fit refl (demand_go _ true 16 _ 0 (fresh_none rd (members_at rd frames d) n k ek (λ h. omega arith) goal) refl (demand_go _ true 17 _ 0 room refl (depth_go d deep)))) in
        node_is rd (state_of rd frames d) n 0 (or_go _ _ 0 0 form refl rest)

pub passes_all : (rd : Reader) (frames : List ℕ) (d n k s b c : ℕ) → k ≡ rd n 0 → k ≡ 65 → c ≡ lower rd n 1 → s ≡ start_at frames d → b ≡ entry_at frames s →
    (p : Bool) → p ≡ premises_at rd n → p ≡ true → d ≤ 8192 → (r : Bool) → AllKept rd b c r → Passes rd frames d n r
passes_all rd frames d n k s b c ek br2 ec es eb p ep hp deep r kept = record { holds = λ yes. kept_passes rd frames d n k s b c ek br2 ec es eb r kept yes p ep hp deep }
