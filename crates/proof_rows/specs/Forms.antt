-- The members that rules name, as numbers.
use Rattle.std.specs.Prelude.{ℕ, ◌-◌, ◌/◌, ◌%◌, ◌<◌, ◌≤◌, ◌≡◌, refl, List, [], ◌∷◌, ◌++◌, Bool, true, false, eqb}
use borrow.Author.Tests.{eq-eqb, ne_eqb, lt-ltb, le-ltb}
use Rattle.reader.specs.Words.{Reader}
use Rattle.reader.specs.Tests.{both, every, if_eq, if_lt}
use Rattle.reader.specs.Trees.{Tree, tree, ⊥ᵗ, ⊤ᵗ, ¬ᵗ◌, ◌=ᵗ◌}
use Rattle.reader.specs.Chains.{item_trees}
use Rattle.reader.specs.Members.{member}
use Rattle.proof_members.specs.Keys.{decoded, Stands}
use Rattle.proof_rows.specs.Paths.{path_tree, path_record, path_tree_lem}

-- the paths of ¬(t=u)'s two terms: of the part t=u the second and the first, or of parts 1 and 2
unfoldable pub left_path : ℕ → ℕ
left_path form = if_eq form 3 8 16

unfoldable pub right_path : ℕ → ℕ
right_path form = if_eq form 3 4 32

-- 3 ¬(u=t) of part t=u, 4 ¬(t=u) of parts 1 and 2, from 8 on twice a path, and 1 for ¬ before it
unfoldable pub form_tree : List Tree → ℕ → Tree
form_tree ps form =
    if_lt form 8 (¬ᵗ (path_tree ps (left_path form) =ᵗ path_tree ps (right_path form)))
    (if_eq (form % 2) 1 (¬ᵗ (path_tree ps ((form - 8) / 2))) (path_tree ps ((form - 8) / 2)))

-- what a rule may need besides: 1 ⊥, 2 ¬⊤
unfoldable pub need_tree : List Tree → ℕ → Tree
need_tree ps form = if_eq form 1 ⊥ᵗ (if_eq form 2 (¬ᵗ ⊤ᵗ) (form_tree ps form))

-- one form as a list, and two; 0 is none
unfoldable pub one_tree : (ℕ → Tree) → ℕ → List Tree
one_tree tree_of form = if_eq form 0 [] (tree_of form ∷ [])

unfoldable pub two_trees : (ℕ → Tree) → ℕ → ℕ → List Tree
two_trees tree_of first last = one_tree tree_of first ++ one_tree tree_of last

-- what the form says of the parts is a member; 0 asks nothing
unfoldable pub need_holds : List Tree → List Tree → ℕ → Bool
need_holds s ps form = if_eq form 0 true (member (need_tree ps form) s)

-- every one of two is there where each is
pub two_hold : (s ps : List Tree) (first last : ℕ) → every (λ t. member t s) (two_trees (need_tree ps) first last) ≡ both (need_holds s ps first) (need_holds s ps last)
unfolding two_trees one_tree need_holds every both if_eq
two_hold s ps first last = go (eqb first 0) (eqb last 0)
  where
    one : Tree → Bool → List Tree
    one t b = elim b [ true ↦ [] | false ↦ t ∷ [] ]

    held : Tree → Bool → Bool
    held t b = elim b [ true ↦ true | false ↦ member t s ]

    last_one : (t : Tree) (b : Bool) → every (λ x. member x s) (one t b) ≡ held t b
    last_one t true = refl
    last_one t false = bit (member t s)
      where
        bit : (v : Bool) → elim v as (λ x. Bool) [ true ↦ true | false ↦ false ] ≡ v
        bit true = refl
        bit false = refl

    go : (a b : Bool) → every (λ x. member x s) (one (need_tree ps first) a ++ one (need_tree ps last) b) ≡ both (held (need_tree ps first) a) (held (need_tree ps last) b)
    go true b = last_one (need_tree ps last) b
    go false b = step (member (need_tree ps first) s)
      where
        step : (v : Bool) → elim v as (λ x. Bool) [ true ↦ every (λ x. member x s) (one (need_tree ps last) b) | false ↦ false ] ≡ both v (held (need_tree ps last) b)
        step true = last_one (need_tree ps last) b
        step false = refl

-- a need that asks nothing, and one that asks something
pub need_none : (s ps : List Tree) (form : ℕ) → form ≡ 0 → need_holds s ps form ≡ true
unfolding need_holds if_eq
need_none s ps form h = simp (need_holds, if_eq, eq-eqb form 0 h)

pub need_some : (s ps : List Tree) (form : ℕ) → (form ≡ 0 → ⊥) → need_holds s ps form ≡ member (need_tree ps form) s
unfolding need_holds if_eq
need_some s ps form h = simp (need_holds, if_eq, ne_eqb form 0 h)

-- The ways out of `form_holds`.
module _ (s ps : List Tree) (form : ℕ) (r : Bool) where
  pub need_false : form ≡ 1 → r ≡ member ⊥ᵗ s → r ≡ member (need_tree ps form) s
  unfolding need_tree if_eq
  need_false h e = simp (need_tree, if_eq, eq-eqb form 1 h) e

  module _ (one : form ≡ 1 → ⊥) where
    pub need_not_true : form ≡ 2 → r ≡ member (¬ᵗ ⊤ᵗ) s → r ≡ member (need_tree ps form) s
    unfolding need_tree if_eq
    need_not_true h e = simp (need_tree, if_eq, ne_eqb form 1 one, eq-eqb form 2 h) e

    pub need_formed : (form ≡ 2 → ⊥) → (rd : Reader) (size key : ℕ) → Stands rd size key (form_tree ps form) → r ≡ member (decoded rd key) s → r ≡ member (need_tree ps form) s
    unfolding need_tree if_eq
    need_formed two rd size key k e = simp (need_tree, if_eq, ne_eqb form 1 one, ne_eqb form 2 two, ← k.means) e

-- The ways out of `form_key`.
module _ (rd : Reader) (size c form key : ℕ) where
  pub key_unequal : form < 8 → (a b t u : ℕ) → a ≡ left_path form → b ≡ right_path form → t ≡ path_record rd c a → u ≡ path_record rd c b →
      Stands rd size key (¬ᵗ (tree rd t =ᵗ tree rd u)) → Stands rd size key (form_tree (item_trees rd c) form)
  unfolding form_tree if_lt
  key_unequal h a b t u ea eb et eu k =
      simp (form_tree, if_lt, lt-ltb form 8 h, ← ea, ← eb, path_tree_lem rd c a, path_tree_lem rd c b, ← et, ← eu) k

  module _ (high : 8 ≤ form) (x : ℕ) (ex : x ≡ path_record rd c ((form - 8) / 2)) where
    pub key_negated : form % 2 ≡ 1 → Stands rd size key (¬ᵗ (tree rd x)) → Stands rd size key (form_tree (item_trees rd c) form)
    unfolding form_tree if_eq if_lt
    key_negated h k = simp (form_tree, if_eq, if_lt, le-ltb form 8 high, eq-eqb (form % 2) 1 h, path_tree_lem rd c ((form - 8) / 2), ← ex) k

    pub key_plain : (form % 2 ≡ 1 → ⊥) → Stands rd size key (tree rd x) → Stands rd size key (form_tree (item_trees rd c) form)
    unfolding form_tree if_eq if_lt
    key_plain h k = simp (form_tree, if_eq, if_lt, le-ltb form 8 high, ne_eqb (form % 2) 1 h, path_tree_lem rd c ((form - 8) / 2), ← ex) k
