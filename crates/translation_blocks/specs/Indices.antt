-- Unbound indices of the formulas that blocks name: of a sign from its parts and back, and replacement in a closed term.
use Rattle.std.specs.Prelude.{ℕ, ◌+◌, ◌<◌, ◌≤◌, ◌≡◌, refl, Bool, true, false, eqb}
use Rattle.std.proofs.Common.{ap, arith, eqb-true, ne_eqb}
use Rattle.std.proofs.lemmas.Bool.{eqb-false}
use Rattle.reader.specs.Trees.{Tree, leaf, node, ⊥ᵗ, ◌∧ᵗ◌, ◌⇒ᵗ◌, ¬ᵗ◌, ◌=ᵗ◌}
use Rattle.reader.specs.Variables.{binders, is_index, replaced}
use Rattle.reader.specs.Notions.{◌⟨◌⟩, IndicesBelow, NoIndex, OpenInZero}

-- a sign's parts have no unbound index where the sign has none
pub under_not : {P : Tree} → NoIndex (¬ᵗ P) → NoIndex P
under_not (IndicesBelow.inside own p q r) = p

pub under_and : {P Q : Tree} → NoIndex (P ∧ᵗ Q) → NoIndex P × NoIndex Q
unfolding binders
under_and (IndicesBelow.inside own p q r) = (p, q)

pub under_implies : {P Q : Tree} → NoIndex (P ⇒ᵗ Q) → NoIndex P × NoIndex Q
unfolding binders
under_implies (IndicesBelow.inside own p q r) = (p, q)

pub under_equal : {t u : Tree} → NoIndex (t =ᵗ u) → NoIndex t × NoIndex u
unfolding binders
under_equal (IndicesBelow.inside own p q r) = (p, q)

-- and a sign has none where its parts have none
no_variable : {d k a : ℕ} {x y z : Tree} → eqb k 9 ≡ false → IndicesBelow d x → IndicesBelow (d + binders k) y → IndicesBelow d z →
    IndicesBelow d (node k a x y z)
no_variable {k = k} e p q r = IndicesBelow.inside (λ same. absurd (eqb-false k 9 e same)) p q r

pub over_false : NoIndex ⊥ᵗ
over_false = no_variable refl IndicesBelow.none IndicesBelow.none IndicesBelow.none

pub over_not : {P : Tree} → NoIndex P → NoIndex (¬ᵗ P)
over_not p = no_variable refl p IndicesBelow.none IndicesBelow.none

pub over_equal : {t u : Tree} → NoIndex t → NoIndex u → NoIndex (t =ᵗ u)
unfolding binders
over_equal p q = no_variable refl p q IndicesBelow.none

-- the bound variable with index 0
abbrev pub index0 : Tree
index0 = node 9 0 leaf leaf leaf

-- indices below d are below any larger number
pub indices_more : {d : ℕ} {t : Tree} (e : ℕ) → IndicesBelow d t → d ≤ e → IndicesBelow e t
indices_more e IndicesBelow.none h = IndicesBelow.none
indices_more e (IndicesBelow.inside {d = d} {k = k} {a = a} own p q r) h =
    let small : k ≡ 9 → a < e = λ s. let b : a < d = own s in omega arith in
    IndicesBelow.inside small (indices_more e p h) (indices_more (e + binders k) q (omega arith)) (indices_more e r h)

-- (index 0 = t) is open in index 0 at most
pub equal_open : (t : Tree) → NoIndex t → OpenInZero (index0 =ᵗ t)
unfolding binders
equal_open t closed =
    let small : ◌≡◌ {A = ℕ} 9 9 → 0 < 1 = λ s. omega arith in
    no_variable refl (IndicesBelow.inside small IndicesBelow.none IndicesBelow.none IndicesBelow.none) (indices_more 1 closed (omega arith)) IndicesBelow.none

-- Index d is not in a tree whose indices are below d, so replacing it changes nothing.
not_index : (k a d : ℕ) → (k ≡ 9 → a < d) → is_index k a d ≡ false
unfolding is_index
not_index k a d own = go (eqb k 9) refl
  where
    go : (b : Bool) → eqb k 9 ≡ b → is_index k a d ≡ false
    go true e =
        let below : a < d = own (eqb-true k 9 e) in
        let other : a ≡ d → ⊥ = λ s. absurd (omega arith) in
        simp (is_index, e, ne_eqb a d other)
    go false e = simp (is_index, e)

pub replaced_closed : {d : ℕ} {t : Tree} (u : Tree) → IndicesBelow d t → replaced d u t ≡ t
unfolding replaced
replaced_closed u IndicesBelow.none = refl
replaced_closed u (IndicesBelow.inside {d = d} {k = k} {a = a} own p q r) =
    simp (replaced, not_index k a d own, replaced_closed u p, replaced_closed u q, replaced_closed u r)

-- (index 0 = t) with u in place of index 0
pub replaced_equal : (t u : Tree) → NoIndex t → (index0 =ᵗ t) ⟨ u ⟩ ≡ u =ᵗ t
unfolding replaced is_index binders
replaced_equal t u closed = ap (λ (s : Tree). u =ᵗ s) (replaced_closed u closed)
