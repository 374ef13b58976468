-- "In R7 c is in neither Γ nor the goal", by marks of records, and the ways out of the code.
use Rattle.std.specs.Prelude.{ℕ, ◌+◌, ◌<◌, ◌≤◌, ◌≡◌, refl, List, Bool, false, not, get_or, length, take}
use Rattle.std.proofs.Math.Path.{sym}
use Rattle.std.proofs.Common.{ap, ◌∙◌, length-take-le, arith}
use Rattle.std.proofs.Math.Bool.{true}
use Rattle.reader.specs.Words.{Reader}
use Rattle.reader.specs.Tests.{both, every, if_eq}
use Rattle.reader.specs.TestLaws.{eq_yes, eq_no}
use Rattle.reader.specs.Trees.{Tree, atom_of}
use Rattle.reader.specs.Variables.{occurs}
use Rattle.derivation_rules.specs.Erase.{bare_tree, bare_parts}
use Rattle.derivation_trees.specs.Keys.{decoded, Normal, Stands, key_one}
use Rattle.derivation_trees.specs.Makers.{stands_wider}
use Rattle.derivation_trees.specs.Table.{Table, KeyOf}
use Rattle.derivation_known.specs.Known.{has, Known, KeepsLacks}
use Rattle.derivation_marks.specs.Marks.{Marked}
use Rattle.derivation_frames.specs.Frames.{goal_at, members_at}
use Rattle.derivation_tables.specs.Tables.{form_tree}
use Rattle.derivation_forms.specs.Forms.{Formed}

-- c is not in t
unfoldable pub lacks : ℕ → Tree → Bool
lacks c t = not (occurs c t)

-- c is in neither the goal nor a member
unfoldable pub fresh_in : ℕ → Tree → List Tree → Bool
fresh_in c goal Γ = both (lacks c goal) (every (lacks c) Γ)

-- the constant of node n, where its rule has one, is fresh
unfoldable pub node_fresh : Reader → List Tree → Tree → ℕ → Bool
node_fresh rd Γ goal n = if_eq (rd n 0) 77 (fresh_in (atom_of (form_tree (bare_parts rd n) goal 8)) goal Γ) true

-- the records below `top` are marked for c
pub record Marking (rd : Reader) (keys reaches : List ℕ) (c top : ℕ) : Type 0 where
  pub low : top ≤ length keys
  pub room : top ≤ length reaches
  pub marked : Marked rd c reaches top

-- the keys of the records below `top`
module _ (rd : Reader) (keys reaches : List ℕ) (c top : ℕ) (marking : Marking rd keys reaches c top) where
  pub few_keys : top ≡ length (take top keys)
  few_keys = sym (length-take-le top keys marking.low)

  pub few_marked : (key : ℕ) → Normal rd top key →
      Normal rd (length (take top keys)) key × (length (take top keys) ≤ length reaches) × Marked rd c reaches (length (take top keys))
  few_marked key normal = rw (← few_keys) (normal, marking.room, marking.marked)

-- the key of an item of a chain has smaller records than the chain
pub item_narrow : (rd : Reader) (keys : List ℕ) (item x top l : ℕ) → Table rd keys → KeyOf rd (length keys) x (bare_tree rd item) → item < l → l ≤ top → l < length keys → Normal rd top x
item_narrow rd keys item x top l table k p q low =
    let own : KeyOf rd (item + 1) (get_or keys item 0) (bare_tree rd item) = table.keyed.holds item (omega arith) in
    let wide : Stands rd (length keys) (get_or keys item 0) (bare_tree rd item) = stands_wider rd (item + 1) (length keys) (get_or keys item 0) (bare_tree rd item) (omega arith) own.stands in
    let near : Stands rd top (get_or keys item 0) (bare_tree rd item) = stands_wider rd (item + 1) top (get_or keys item 0) (bare_tree rd item) (omega arith) own.stands in
    let one : x ≡ get_or keys item 0 = key_one rd (length keys) x (get_or keys item 0) k.stands.normal wide.normal (k.stands.means ∙ sym wide.means) in
    rw one near.normal

-- The ways out of the tests.
pub lacks_key : (rd : Reader) (c key : ℕ) (r : Bool) → r ≡ occurs c (decoded rd key) → not r ≡ lacks c (decoded rd key)
unfolding lacks
lacks_key rd c key r e = ap not e

-- The ways out of `key_lacks`: what lacks c is made known.
module _ (rd : Reader) (c key : ℕ) (t : Bool) (e : t ≡ occurs c (decoded rd key)) where
  pub lacks_marked : t ≡ true → false ≡ lacks c (decoded rd key)
  lacks_marked h = sym (ap not h) ∙ lacks_key rd c key t e

  pub lacks_unmarked : t ≡ false → true ≡ lacks c (decoded rd key)
  lacks_unmarked h = sym (ap not h) ∙ lacks_key rd c key t e

  pub kept_unmarked : t ≡ false → (before after : List ℕ) → KeepsLacks before after c key → Known rd before → Known rd after
  unfolding has
  kept_unmarked h before after keeps known = keeps.keeps rd known (sym e ∙ h)

pub lacks_tree : (rd : Reader) (size c x : ℕ) (t : Tree) (r : Bool) → KeyOf rd size x t → r ≡ lacks c (decoded rd x) → r ≡ lacks c t
lacks_tree rd size c x t r k e = rw (← k.stands.means) e

pub fresh_members : (rd : Reader) (frames : List ℕ) (d c goal : ℕ) (r : Bool) → goal ≡ goal_at frames d →
    r ≡ both (lacks c (decoded rd goal)) (every (lacks c) (members_at rd frames d)) → r ≡ fresh_in c (decoded rd (goal_at frames d)) (members_at rd frames d)
unfolding fresh_in
fresh_members rd frames d c goal r eg e = rw (← eg) e

-- The ways out of `constant_fresh`.
module _ (rd : Reader) (Γ : List Tree) (n k : ℕ) (ek : k ≡ rd n 0) where
  pub fresh_none : (k ≡ 77 → ⊥) → (t : Tree) → true ≡ node_fresh rd Γ t n
  unfolding node_fresh
  fresh_none h t = rw (← ek) (eq_no k 77 _ _ true h refl)

  pub fresh_one : k ≡ 77 → (size goal more key c : ℕ) (frames : List ℕ) (d : ℕ) → goal ≡ goal_at frames d →
      Formed rd size goal more key (form_tree (bare_parts rd n) (decoded rd goal) 8) → c ≡ atom_of (decoded rd key) → (r : Bool) →
      r ≡ fresh_in c (decoded rd (goal_at frames d)) Γ → r ≡ node_fresh rd Γ (decoded rd (goal_at frames d)) n
  unfolding node_fresh
  fresh_one h size goal more key c frames d eg form ec r e =
      let own : atom_of (form_tree (bare_parts rd n) (decoded rd (goal_at frames d)) 8) ≡ c = rw (← eg) (ap atom_of (sym form.stands.means) ∙ sym ec) in
      rw (← ek) (eq_yes k 77 _ _ r h (rw own e))

-- records marked to `top`
pub marked_to : (rd : Reader) (keys reaches : List ℕ) (c top : ℕ) → top ≤ length keys → length keys ≤ length reaches → Marked rd c reaches top → Marking rd keys reaches c top
marked_to rd keys reaches c top low room marked = record { low = low; room = omega arith; marked = marked }
