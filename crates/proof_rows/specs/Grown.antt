-- A sequent with the members that a premise adds.
use Rattle.std.specs.Prelude.{ℕ, zero, suc, ◌+◌, ◌-◌, ◌<◌, ◌≤◌, ◌≡◌, refl, List, [], ◌∷◌, ◌++◌, Bool, true, false, eqb, length, take, drop, get_or, set}
use Rattle.std.proofs.Common.{sym, ap, ◌∙◌, append_assoc, append-nil, length-append, take-take, drop-drop}
use native.Mathlib.Omega.{arith}
use borrow.Author.Tests.{eq-eqb, ne_eqb}
use Rattle.reader.specs.Words.{Reader}
use Rattle.reader.specs.Tests.{if_eq}
use Rattle.reader.specs.Trees.{Tree}
use Rattle.reader.specs.TreeLaws.{lower_below}
use Rattle.reader.specs.Chains.{item_trees}
use Rattle.reader_chains.specs.Shapes.{lower_zero}
use Rattle.proof_references.specs.declared.References.{References}
use Rattle.proof_references.specs.References.{ReferencesAre}
use Rattle.proof_rules.specs.Check.{row_of}
use Rattle.proof_members.specs.Sequents.{sequent, Ready}
use Rattle.proof_members.specs.Keys.{Stands}
use Rattle.proof_members.specs.Added.{Added, stored}
use Rattle.proof_rows.specs.Forms.{form_tree, one_tree, two_trees}
use Rattle.proof_rows.specs.Tables.{half, pair_in, add_pair, adds_of}

-- after the trees were added to h members there are r; the memory is else as it was
pub record Grown (rd : Reader) (numbers before : List ℕ) (h : ℕ) (trees : List Tree) (after : List ℕ) (r : ℕ) : Type 0 where
  pub ready : Ready rd numbers after r
  pub more : sequent rd after r ≡ sequent rd before h ++ trees
  pub kept : take h after ≡ take h before
  pub count : r ≡ h + length trees
  pub rest : drop r after ≡ drop r before

-- how many members a form is
unfoldable pub form_count : ℕ → ℕ
form_count form = if_eq form 0 0 1

pub one_none : (tree_of : ℕ → Tree) (form : ℕ) → form ≡ 0 → one_tree tree_of form ≡ []
unfolding one_tree if_eq
one_none tree_of form h = simp (one_tree, if_eq, eq-eqb form 0 h)

pub one_some : (tree_of : ℕ → Tree) (form : ℕ) → (form ≡ 0 → ⊥) → one_tree tree_of form ≡ tree_of form ∷ []
unfolding one_tree if_eq
one_some tree_of form h = simp (one_tree, if_eq, ne_eqb form 0 h)

one_length : (tree_of : ℕ → Tree) (form : ℕ) → length (one_tree tree_of form) ≡ form_count form
unfolding one_tree form_count if_eq
one_length tree_of form = go (eqb form 0)
  where
    go : (b : Bool) → length {A = Tree} (elim b as (λ x. List Tree) [ true ↦ [] | false ↦ tree_of form ∷ [] ]) ≡ elim b as (λ x. ℕ) [ true ↦ 0 | false ↦ 1 ]
    go true = refl
    go false = refl

two_length : (tree_of : ℕ → Tree) (first last : ℕ) → length (two_trees tree_of first last) ≡ form_count first + form_count last
unfolding two_trees
two_length tree_of first last =
    omega (arith, length-append (one_tree tree_of first) (one_tree tree_of last), one_length tree_of first, one_length tree_of last)

-- The ways out of `add_one`.
module _ (rd : Reader) (numbers before : List ℕ) (h form : ℕ) where
  pub grown_none : (tree_of : ℕ → Tree) → Ready rd numbers before h → form ≡ 0 → Grown rd numbers before h (one_tree tree_of form) before h
  grown_none tree_of ready z =
      rw (one_none tree_of form z)
      (record { ready = ready; more = sym (append-nil (sequent rd before h)); kept = refl; count = omega arith; rest = refl })

  room_one : (form ≡ 0 → ⊥) → h + form_count form ≤ 1024 → h < 1024
  unfolding form_count if_eq
  room_one z p = let one : form_count form ≡ 1 = simp (form_count, if_eq, ne_eqb form 0 z) in omega arith

  pub room_here : Ready rd numbers before h → (form ≡ 0 → ⊥) → h + form_count form ≤ 1024 → h < length before
  room_here ready z p = omega (arith, room_one z p, ready.long)

  pub grown_one : (tree_of : ℕ → Tree) (key : ℕ) → Ready rd numbers before h → (form ≡ 0 → ⊥) → h + form_count form ≤ 1024 → Stands rd (length numbers) key (tree_of form) →
      Grown rd numbers before h (one_tree tree_of form) (set before h key) (h + 1)
  grown_one tree_of key ready z room stands =
      let added : Added rd numbers before h (tree_of form) (set before h key) = stored rd numbers before h key (tree_of form) ready (room_one z room) stands in
      rw (one_some tree_of form z)
      (record { ready = added.ready; more = added.more; kept = added.kept; count = refl; rest = added.rest })

-- two after each other
pub grown_two : (rd : Reader) (numbers a b c : List ℕ) (h i j : ℕ) (s t : List Tree) → Grown rd numbers a h s b i → Grown rd numbers b i t c j →
    Grown rd numbers a h (s ++ t) c j
grown_two rd numbers a b c h i j s t f g =
    let le : h ≤ i = omega (arith, f.count) in
    let e : j ≡ i + (j - i) = omega (arith, g.count) in
    let past : drop (i + (j - i)) b ≡ drop (i + (j - i)) a = sym (drop-drop (j - i) i b) ∙ ap (λ (x : List ℕ). drop (j - i) x) f.rest ∙ drop-drop (j - i) i a in
    record {
      ready = g.ready;
      more = g.more ∙ ap (λ (x : List Tree). x ++ t) f.more ∙ append_assoc (sequent rd a h) s t;
      kept = sym (take-take h i c le) ∙ ap (λ (x : List ℕ). take h x) g.kept ∙ take-take h i b le ∙ f.kept;
      count = omega (arith, f.count, g.count, length-append s t);
      rest = g.rest ∙ ap (λ (x : ℕ). drop x b) e ∙ past ∙ ap (λ (x : ℕ). drop x a) (sym e);
    }

-- The ways out of `add_premise`.
module _ (rd : Reader) (n b : ℕ) (node : References) (is : ReferencesAre rd n node) (pair first last : ℕ) (ep : pair_in pair ≡ add_pair node.kind b) (ef : first ≡ half pair 0)
    (el : last ≡ half pair 1) (h : ℕ) where
  pub premise_added : (numbers before between after : List ℕ) (i r : ℕ) → Grown rd numbers before h (one_tree (form_tree (item_trees rd node.first)) first) between i →
      Grown rd numbers between i (one_tree (form_tree (item_trees rd node.first)) last) after r → Grown rd numbers before h (get_or (row_of rd n).adds b []) after r
  unfolding two_trees
  premise_added numbers before between after i r f g =
      rw (adds_of rd n b node is pair first last ep ef el) (grown_two rd numbers before between after h i r _ _ f g)

  module _ (room : h + length (get_or (row_of rd n).adds b []) ≤ 1024) where
    both_counted : length (get_or (row_of rd n).adds b []) ≡ form_count first + form_count last
    both_counted = rw (adds_of rd n b node is pair first last ep ef el) (two_length (form_tree (item_trees rd node.first)) first last)

    pub room_first : h + form_count first ≤ 1024
    room_first = omega (arith, both_counted)

    pub room_last : (numbers before after : List ℕ) (i : ℕ) → Grown rd numbers before h (one_tree (form_tree (item_trees rd node.first)) first) after i → i + form_count last ≤ 1024
    room_last numbers before after i g = omega (arith, both_counted, g.count, one_length (form_tree (item_trees rd node.first)) first)

-- the parts of a node that is in the table are in it
pub parts_in : (rd : Reader) (n size : ℕ) (node : References) → n < size → ReferencesAre rd n node → node.first < size
parts_in rd zero size node h is = omega (arith, is.first_is, lower_zero rd 1)
parts_in rd (suc n) size node h is = omega (arith, is.first_is, lower_below rd (suc n) 1 (omega arith))
