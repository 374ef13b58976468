-- The sequents of the nodes from the root to this one, as frames of four numbers each, the frame of depth d at 4 d: no sequent is copied.
-- Of a frame: the depth where the members were last set, by BR2 or at the root; the goal's key; at that depth the chain of the members,
-- above it the key of the member added here and one, or 0 for none; the number of members.
use Prim.Native.Nat.{ℕ, zero, suc, ◌+◌, ◌*◌, ◌-◌, ◌<◌, ◌≤◌}
use Rattle.std.specs.Prelude.{◌≡◌, List, [], ◌∷◌, ◌++◌, map, get_or, length}
use Rattle.std.proofs.Math.Path.{refl}
use Rattle.std.proofs.Common.{sym, ap, ◌∙◌}
use native.Mathlib.Omega.{arith}
use Rattle.reader.specs.Words.{Reader}
use Rattle.reader.specs.Tests.{if_eq}
use Rattle.reader.specs.Trees.{Tree}
use Rattle.reader.specs.Chains.{items}
use Rattle.derivation_rules.specs.Erase.{bare_tree}
use Rattle.derivation_rules.specs.Rules.{State, state_at}
use Rattle.derivation_trees.specs.Keys.{negations_of, decoded, Normal}

-- word w of the frame of depth d
unfoldable pub frame_word : List ℕ → ℕ → ℕ → ℕ
frame_word frames d w = get_or frames (4 * d + w) 0

unfoldable pub start_at : List ℕ → ℕ → ℕ
start_at frames d = frame_word frames d 0

unfoldable pub goal_at : List ℕ → ℕ → ℕ
goal_at frames d = frame_word frames d 1

unfoldable pub entry_at : List ℕ → ℕ → ℕ
entry_at frames d = frame_word frames d 2

unfoldable pub count_at : List ℕ → ℕ → ℕ
count_at frames d = frame_word frames d 3

-- the member that entry e adds
unfoldable pub added_by : Reader → ℕ → List Tree
added_by rd e = if_eq e 0 [] (decoded rd (e - 1) ∷ [])

-- the members that k frames from depth f on add
unfoldable pub added_from : Reader → List ℕ → ℕ → ℕ → List Tree
added_from rd frames zero f = []
added_from rd frames (suc k) f = added_by rd (entry_at frames f) ++ added_from rd frames k (suc f)

-- the items of chain c, types removed
unfoldable pub chain_trees : Reader → ℕ → List Tree
chain_trees rd c = map (bare_tree rd) (items rd c)

-- the members at depth d
unfoldable pub members_at : Reader → List ℕ → ℕ → List Tree
members_at rd frames d =
    chain_trees rd (entry_at frames (start_at frames d)) ++ added_from rd frames (d - start_at frames d) (suc (start_at frames d))

-- what the node at depth d is to derive
unfoldable pub state_of : Reader → List ℕ → ℕ → State
state_of rd frames d = state_at (members_at rd frames d) (decoded rd (goal_at frames d)) d

-- the frames to depth d are as the code makes them, for records below size
pub record Framed (rd : Reader) (size : ℕ) (frames : List ℕ) (d : ℕ) : Type 0 where
  pub long : length frames ≡ 32776
  pub deep : d ≤ 8193
  pub start : start_at frames d ≤ d
  pub chain : entry_at frames (start_at frames d) < size
  pub goal : Normal rd size (goal_at frames d)
  pub few : negations_of (goal_at frames d) ≤ size + d
  pub added : (f : ℕ) → start_at frames d < f → f ≤ d → (entry_at frames f ≡ 0 → ⊥) → Normal rd size (entry_at frames f - 1)
  pub count : count_at frames d ≡ length (members_at rd frames d)
  pub low : count_at frames d ≤ 2048

-- the frames to depth d stayed
pub record Kept (d : ℕ) (before after : List ℕ) : Type 0 where
  pub same : (i : ℕ) → i < 4 * d + 4 → get_or after i 0 ≡ get_or before i 0

pub kept_self : (d : ℕ) (frames : List ℕ) → Kept d frames frames
kept_self d frames = record { same = λ i h. refl }

-- the frame of depth d has these words, all else stayed
pub record Written (d start goal entry count : ℕ) (before after : List ℕ) : Type 0 where
  pub below : (i : ℕ) → i < 4 * d → get_or after i 0 ≡ get_or before i 0
  pub above : (i : ℕ) → 4 * d + 4 ≤ i → get_or after i 0 ≡ get_or before i 0
  pub start_is : start_at after d ≡ start
  pub goal_is : goal_at after d ≡ goal
  pub entry_is : entry_at after d ≡ entry
  pub count_is : count_at after d ≡ count

module _ (d : ℕ) (before after : List ℕ) (kept : Kept d before after) where
  kept_word : (f w : ℕ) → f ≤ d → w < 4 → frame_word after f w ≡ frame_word before f w
  unfolding frame_word
  kept_word f w p q = kept.same (4 * f + w) (omega arith)

  kept_entry : (f : ℕ) → f ≤ d → entry_at after f ≡ entry_at before f
  unfolding entry_at
  kept_entry f p = kept_word f 2 p (omega arith)

  pub kept_start : start_at after d ≡ start_at before d
  unfolding start_at
  kept_start = kept_word d 0 (omega arith) (omega arith)

  kept_goal : goal_at after d ≡ goal_at before d
  unfolding goal_at
  kept_goal = kept_word d 1 (omega arith) (omega arith)

  kept_count : count_at after d ≡ count_at before d
  unfolding count_at
  kept_count = kept_word d 3 (omega arith) (omega arith)

  kept_added : (rd : Reader) (k f : ℕ) → k + f ≤ suc d → added_from rd after k f ≡ added_from rd before k f
  unfolding added_from
  kept_added rd zero f p = refl
  kept_added rd (suc k) f p = rw (kept_entry f (omega arith), kept_added rd k (suc f) (omega arith)) refl

  kept_members : (rd : Reader) → start_at before d ≤ d → members_at rd after d ≡ members_at rd before d
  unfolding members_at
  kept_members rd p = rw (kept_start, kept_entry (start_at before d) p, kept_added rd (d - start_at before d) (suc (start_at before d)) (omega arith)) refl

  pub kept_state : (rd : Reader) → start_at before d ≤ d → state_of rd after d ≡ state_of rd before d
  unfolding state_of
  kept_state rd p = rw (kept_members rd p, kept_goal) refl

  pub kept_framed : (rd : Reader) (size : ℕ) → length after ≡ length before → Framed rd size before d → Framed rd size after d
  kept_framed rd size l here = record {
    long = l ∙ here.long;
    deep = here.deep;
    start = rw kept_start here.start;
    chain = rw (kept_start, kept_entry (start_at before d) here.start) here.chain;
    goal = rw kept_goal here.goal;
    few = rw kept_goal here.few;
    added = λ f p q given.
        let same : entry_at after f ≡ entry_at before f = kept_entry f q in
        rw same (here.added f (rw (← kept_start) p) q (λ z. given (same ∙ z)));
    count = kept_count ∙ here.count ∙ ap length (sym (kept_members rd here.start));
    low = rw kept_count here.low;
  }

-- what the code reads of a frame
module _ (frames : List ℕ) (d : ℕ) where
  pub start_word : get_or frames (4 * d) 0 ≡ start_at frames d
  unfolding start_at frame_word
  start_word = let none : 4 * d + 0 ≡ 4 * d = omega arith in rw none refl

  pub goal_word : get_or frames (4 * d + 1) 0 ≡ goal_at frames d
  unfolding goal_at frame_word
  goal_word = refl

  pub entry_word : get_or frames (4 * d + 2) 0 ≡ entry_at frames d
  unfolding entry_at frame_word
  entry_word = refl

  pub count_word : get_or frames (4 * d + 3) 0 ≡ count_at frames d
  unfolding count_at frame_word
  count_word = refl
