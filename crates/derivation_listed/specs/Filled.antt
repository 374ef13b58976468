-- The list of the keys of the members of a sequent, in their order, and the ways out of the code that fills it.
use Prim.Native.Nat.{ℕ, zero, suc, ◌+◌, ◌-◌, ◌<◌, ◌≤◌}
use Rattle.std.specs.Prelude.{◌≡◌, Bool, true, false, eqb, get_or, set}
use Rattle.std.proofs.Math.Path.{refl, sym}
use Rattle.std.proofs.Common.{ap, ◌∙◌, get_or-set_same, get_or-set_other, eqb-true}
use mathlib.Core.List.{List, [], ◌∷◌, ◌++◌, append_assoc, append-nil}
use Rattle.std.proofs.Math.ListN.{length, length-append}
use native.Mathlib.Omega.{arith}
use Rattle.std.proofs.lemmas.Bool.{eqb-false}
use Rattle.reader.specs.Words.{Reader}
use Rattle.reader.specs.Tests.{every, if_eq}
use Rattle.reader.specs.TestLaws.{eq_yes, eq_no}
use Rattle.reader.specs.Trees.{Tree, lower}
use Rattle.derivation_rules.specs.Erase.{bare_tree}
use Rattle.reader.specs.Members.{member}
use Rattle.derivation_trees.specs.Keys.{decoded, Normal, key_same}
use Rattle.derivation_trees.specs.Table.{KeyOf}
use Rattle.derivation_frames.specs.Frames.{start_at, entry_at, added_by, added_from, chain_trees, members_at, Framed}
use Rattle.derivation_forms.specs.Formed.{chain_zero, chain_step}
use Rattle.derivation_members.specs.Members.{entry_normal}
use Rattle.derivation_members.specs.Needs.{held}
use Rattle.derivation_listed.specs.Listed.{is_listed, Space}

-- the trees of n positions from x on
unfoldable pub listed_trees : Reader → List ℕ → ℕ → ℕ → List Tree
listed_trees rd listed zero x = []
listed_trees rd listed (suc n) x = decoded rd (get_or listed x 0) ∷ listed_trees rd listed n (suc x)

-- n positions have keys; their trees and the rest are Γ
pub record Filled (rd : Reader) (size : ℕ) (listed : List ℕ) (n : ℕ) (rest Γ : List Tree) : Type 0 where
  pub trees : listed_trees rd listed n 1 ++ rest ≡ Γ
  pub normal : (x : ℕ) → 0 < x → x ≤ n → Normal rd size (get_or listed x 0)

-- position 0 and those past n stayed
pub record Outside (n : ℕ) (before listed : List ℕ) : Type 0 where
  pub first : get_or listed 0 0 ≡ get_or before 0 0
  pub past : (x : ℕ) → n < x → get_or listed x 0 ≡ get_or before x 0

pub outside_self : (n : ℕ) (listed : List ℕ) → Outside n listed listed
outside_self n listed = record { first = refl; past = λ x h. refl }

-- one position more is written
outside_set : (n v : ℕ) (before listed : List ℕ) → Outside n before listed → Outside (n + 1) before (set listed (n + 1) v)
outside_set n v before listed o = record {
  first = get_or-set_other listed (n + 1) 0 v 0 (λ z. omega arith) ∙ o.first;
  past = λ x h. get_or-set_other listed (n + 1) x v 0 (λ z. omega arith) ∙ o.past x (omega arith);
}

pub outside_next : (n v : ℕ) (before listed after : List ℕ) → Outside n before listed → after ≡ set listed (n + 1) v → Outside (n + 1) before after
outside_next n v before listed after o e = rw e (outside_set n v before listed o)

-- or none, as entry e of a frame adds
pub outside_entry : (n e r : ℕ) (before listed after : List ℕ) → Outside n before listed → r ≡ if_eq e 0 n (n + 1) → after ≡ if_eq e 0 listed (set listed (n + 1) (e - 1)) →
    Outside r before after × (n ≤ r)
outside_entry n e r before listed after o er ea = go (eqb e 0) refl
  where
    go : (b : Bool) → eqb e 0 ≡ b → Outside r before after × (n ≤ r)
    go true t =
        let none : e ≡ 0 = eqb-true e 0 t in
        let count : r ≡ n = er ∙ sym (eq_yes e 0 _ _ n none refl) in
        let same : after ≡ listed = ea ∙ sym (eq_yes e 0 _ _ listed none refl) in
        (rw (count, same) o, omega arith)
    go false t =
        let some : e ≡ 0 → ⊥ = eqb-false e 0 t in
        let count : r ≡ n + 1 = er ∙ sym (eq_no e 0 _ _ (n + 1) some refl) in
        let stored : after ≡ set listed (n + 1) (e - 1) = ea ∙ sym (eq_no e 0 _ _ (set listed (n + 1) (e - 1)) some refl) in
        (rw (count, stored) (outside_set n (e - 1) before listed o), omega arith)

pub outside_then : (h r : ℕ) (before listed after : List ℕ) → h ≤ r → Outside h before listed → Outside r listed after → Outside r before after
outside_then h r before listed after p a b = record { first = b.first ∙ a.first; past = λ x q. b.past x q ∙ a.past x (omega arith) }

trees_length : (rd : Reader) (listed : List ℕ) (n x : ℕ) → length (listed_trees rd listed n x) ≡ n
unfolding listed_trees
trees_length rd listed zero x = refl
trees_length rd listed (suc n) x = ap suc (trees_length rd listed n (suc x))

-- one position more is at the end
trees_last : (rd : Reader) (listed : List ℕ) (n x : ℕ) → listed_trees rd listed (suc n) x ≡ listed_trees rd listed n x ++ (decoded rd (get_or listed (n + x) 0) ∷ [])
unfolding listed_trees
trees_last rd listed zero x = let first : 0 + x ≡ x = omega arith in rw first refl
trees_last rd listed (suc n) x =
    let last : n + suc x ≡ suc n + x = omega arith in
    ap (λ (ts : List Tree). decoded rd (get_or listed x 0) ∷ ts) (rw (← last) (trees_last rd listed n (suc x)))

-- a later position changed
trees_set : (rd : Reader) (listed : List ℕ) (n x p v : ℕ) → n + x ≤ p → listed_trees rd (set listed p v) n x ≡ listed_trees rd listed n x
unfolding listed_trees
trees_set rd listed zero x p v h = refl
trees_set rd listed (suc n) x p v h =
    rw (get_or-set_other listed p x v 0 (λ z. omega arith), trees_set rd listed n (suc x) p v (omega arith)) refl

pub filled_none : (rd : Reader) (size : ℕ) (listed : List ℕ) (Γ : List Tree) → Filled rd size listed 0 Γ Γ
unfolding listed_trees
filled_none rd size listed Γ = record { trees = refl; normal = λ x p q. absurd (omega arith) }

module _ (rd : Reader) (size : ℕ) (listed : List ℕ) (n : ℕ) (rest Γ : List Tree) (filled : Filled rd size listed n rest Γ) where
  filled_count : n + length rest ≡ length Γ
  filled_count =
      let all : length (listed_trees rd listed n 1 ++ rest) ≡ length (listed_trees rd listed n 1) + length rest = length-append (listed_trees rd listed n 1) rest in
      let own : length (listed_trees rd listed n 1) ≡ n = trees_length rd listed n 1 in
      let same : length (listed_trees rd listed n 1 ++ rest) ≡ length Γ = ap length filled.trees in
      omega (arith, all, own, same)

  filled_most : n ≤ length Γ
  filled_most = omega (arith, filled_count)

  module _ (k : ℕ) (more : List Tree) (e : rest ≡ decoded rd k ∷ more) where
    filled_room : n < length Γ
    filled_room = let some : length rest ≡ suc (length more) = ap length e in omega (arith, filled_count)

    filled_more : Normal rd size k → n + 1 < length listed → Filled rd size (set listed (n + 1) k) (n + 1) more Γ
    filled_more own room = record { trees = ap (λ (j : ℕ). listed_trees rd (set listed (n + 1) k) j 1 ++ more) one ∙ trees; normal = λ x p q. go x p q (eqb x (n + 1)) refl }
      where
        one : n + 1 ≡ suc n
        one = omega arith

        new : get_or (set listed (n + 1) k) (n + 1) 0 ≡ k
        new = get_or-set_same listed (n + 1) k 0 room

        trees : listed_trees rd (set listed (n + 1) k) (suc n) 1 ++ more ≡ Γ
        trees =
            ap (λ (ts : List Tree). ts ++ more) (trees_last rd (set listed (n + 1) k) n 1)
            ∙ append_assoc (listed_trees rd (set listed (n + 1) k) n 1) (decoded rd (get_or (set listed (n + 1) k) (n + 1) 0) ∷ []) more
            ∙ rw (trees_set rd listed n 1 (n + 1) k (omega arith), new, ← e) filled.trees

        go : (x : ℕ) → 0 < x → x ≤ n + 1 → (b : Bool) → eqb x (n + 1) ≡ b → Normal rd size (get_or (set listed (n + 1) k) x 0)
        go x p q true t = let here : x ≡ n + 1 = eqb-true x (n + 1) t in rw (here, new) own
        go x p q false t =
            let other = eqb-false x (n + 1) t in
            rw (get_or-set_other listed (n + 1) x k 0 other) (filled.normal x p (omega arith))

-- The ways out of `fill_chain`.
module _ (rd : Reader) (size : ℕ) (listed : List ℕ) (n c l : ℕ) (filled : Filled rd size listed n (chain_trees rd l) (chain_trees rd c)) where
  pub chain_filled : l ≡ 0 → Filled rd size listed n [] (chain_trees rd c)
  chain_filled h =
      let none : chain_trees rd l ≡ [] = rw h (chain_zero rd) in
      rw none at filled

  module _ (some : l ≡ 0 → ⊥) (item k : ℕ) (ei : item ≡ lower rd l 1) (own : KeyOf rd size k (bare_tree rd item)) where
    first : chain_trees rd l ≡ decoded rd k ∷ chain_trees rd (lower rd l 3)
    first = rw (own.stands.means, ei) (chain_step rd l (omega arith))

    pub chain_room : n < length (chain_trees rd c)
    chain_room = filled_room rd size listed n (chain_trees rd l) (chain_trees rd c) filled k (chain_trees rd (lower rd l 3)) first

    pub chain_next : (next : ℕ) (after : List ℕ) → next ≡ lower rd l 3 → after ≡ set listed (n + 1) k → length (chain_trees rd c) ≤ 2048 → length listed ≡ 2049 →
        Filled rd size after (n + 1) (chain_trees rd next) (chain_trees rd c)
    chain_next next after en ea few long =
        rw (en, ea) (filled_more rd size listed n (chain_trees rd l) (chain_trees rd c) filled k (chain_trees rd (lower rd l 3)) first own.stands.normal (omega (arith, chain_room)))

-- The ways out of `fill_added`.
module _ (rd : Reader) (size : ℕ) (frames : List ℕ) (d s : ℕ) (here : Framed rd size frames d) (es : s ≡ start_at frames d) where
  members_low : length (members_at rd frames d) ≤ 2048
  members_low = omega (arith, here.count, here.low)

  pub chain_few : (c : ℕ) → c ≡ entry_at frames s → length (chain_trees rd c) ≤ 2048
  unfolding members_at
  chain_few c ec =
      let all : length (members_at rd frames d) ≡ length (chain_trees rd (entry_at frames (start_at frames d))) + length (added_from rd frames (d - start_at frames d) (suc (start_at frames d))) =
      length-append (chain_trees rd (entry_at frames (start_at frames d))) (added_from rd frames (d - start_at frames d) (suc (start_at frames d))) in
      rw (ec, es) (omega (arith, all, members_low))

  pub added_start : (listed : List ℕ) (n : ℕ) → Filled rd size listed n [] (chain_trees rd (entry_at frames s)) →
      Filled rd size listed n (added_from rd frames (d - s) (suc s)) (members_at rd frames d)
  unfolding members_at
  added_start listed n filled = record {
    trees = rw (← es) (ap (λ (ts : List Tree). ts ++ added_from rd frames (d - s) (suc s)) (sym (append-nil (listed_trees rd listed n 1)) ∙ filled.trees));
    normal = filled.normal;
  }

  module _ (listed : List ℕ) (n f : ℕ) (filled : Filled rd size listed n (added_from rd frames (d - f) (suc f)) (members_at rd frames d)) where
    pub added_low : n ≤ 2048
    added_low = omega (arith, members_low, filled_most rd size listed n (added_from rd frames (d - f) (suc f)) (members_at rd frames d) filled)

    pub added_filled : d ≤ f → Filled rd size listed n [] (members_at rd frames d)
    unfolding added_from
    added_filled h = let none : d - f ≡ 0 = omega arith in rw none at filled

    module _ (low : s ≤ f) (less : f < d) (e : ℕ) (ee : e ≡ entry_at frames (f + 1)) (after : List ℕ) (r : ℕ) where
      abbrev rest : List Tree
      rest = added_from rd frames (d - (f + 1)) (suc (f + 1))

      next : added_from rd frames (d - f) (suc f) ≡ added_by rd e ++ rest
      unfolding added_from
      next =
          let one : d - f ≡ suc (d - (f + 1)) = omega arith in
          let up : suc f ≡ f + 1 = omega arith in
          rw (one, up, ← ee) refl

      nothing : e ≡ 0 → added_by rd e ≡ []
      unfolding added_by
      nothing h = sym (eq_yes e 0 _ _ [] h refl)

      something : (e ≡ 0 → ⊥) → added_by rd e ≡ decoded rd (e - 1) ∷ []
      unfolding added_by
      something h = sym (eq_no e 0 _ _ (decoded rd (e - 1) ∷ []) h refl)

      pub added_next : length listed ≡ 2049 → r ≡ if_eq e 0 n (n + 1) → after ≡ if_eq e 0 listed (set listed (n + 1) (e - 1)) →
          Filled rd size after r rest (members_at rd frames d)
      added_next long er ea = go (eqb e 0) refl
        where
          go : (b : Bool) → eqb e 0 ≡ b → Filled rd size after r rest (members_at rd frames d)
          go true t =
              let none : e ≡ 0 = eqb-true e 0 t in
              let count : r ≡ n = er ∙ sym (eq_yes e 0 _ _ n none refl) in
              let same : after ≡ listed = ea ∙ sym (eq_yes e 0 _ _ listed none refl) in
              let left : added_from rd frames (d - f) (suc f) ≡ rest = next ∙ ap (λ (ts : List Tree). ts ++ rest) (nothing none) in
              rw (count, same, ← left) filled
          go false t =
              let some : e ≡ 0 → ⊥ = eqb-false e 0 t in
              let count : r ≡ n + 1 = er ∙ sym (eq_no e 0 _ _ (n + 1) some refl) in
              let stored : after ≡ set listed (n + 1) (e - 1) = ea ∙ sym (eq_no e 0 _ _ (set listed (n + 1) (e - 1)) some refl) in
              let left : added_from rd frames (d - f) (suc f) ≡ decoded rd (e - 1) ∷ rest = next ∙ ap (λ (ts : List Tree). ts ++ rest) (something some) in
              let room_here : n < length (members_at rd frames d) =
              filled_room rd size listed n (added_from rd frames (d - f) (suc f)) (members_at rd frames d) filled (e - 1) rest left in
              rw (count, stored)
              (filled_more rd size listed n (added_from rd frames (d - f) (suc f)) (members_at rd frames d) filled (e - 1) rest left
              (entry_normal rd size frames d s f e here es low less ee some) (omega (arith, long, room_here, members_low)))

-- a listed key is that of a member
listed_member : (rd : Reader) (size : ℕ) (listed : List ℕ) (k n x : ℕ) → Normal rd size k → ((y : ℕ) → x ≤ y → y < x + n → Normal rd size (get_or listed y 0)) →
    is_listed listed n x k ≡ member (decoded rd k) (listed_trees rd listed n x)
unfolding is_listed member listed_trees
listed_member rd size listed k zero x a all = refl
listed_member rd size listed k (suc n) x a all =
    go _ _ (key_same rd size (get_or listed x 0) k (all x (omega arith) (omega arith)) a)
    _ _ (listed_member rd size listed k n (suc x) a (λ y p q. all y (omega arith) (omega arith)))
  where
    go : (b c : Bool) → b ≡ c → (u v : Bool) → u ≡ v → ◌≡◌ {A = Bool} (elim b [ true ↦ true | false ↦ u ]) (elim c [ true ↦ true | false ↦ v ])
    go b c e u v f = ap (λ (w : Bool). elim w as (λ z. Bool) [ true ↦ true | false ↦ u ]) e ∙ ap (λ (w : Bool). elim c as (λ z. Bool) [ true ↦ true | false ↦ w ]) f

-- The ways out of `fill` and of `items_held`.
pub chain_of : (rd : Reader) (size : ℕ) (listed frames : List ℕ) (n s c : ℕ) → c ≡ entry_at frames s → Filled rd size listed n [] (chain_trees rd c) →
    Filled rd size listed n [] (chain_trees rd (entry_at frames s))
chain_of rd size listed frames n s c e filled = rw (← e) filled

module _ (rd : Reader) (size : ℕ) (listed : List ℕ) (n : ℕ) (Γ : List Tree) (filled : Filled rd size listed n [] Γ) where
  own_trees : listed_trees rd listed n 1 ≡ Γ
  own_trees = sym (append-nil (listed_trees rd listed n 1)) ∙ filled.trees

  pub filled_own : Filled rd size listed n [] (listed_trees rd listed n 1)
  filled_own = rw own_trees filled

  pub listed_held : (x : ℕ) (t : Tree) (r : Bool) → KeyOf rd size x t → r ≡ is_listed listed n 1 x → r ≡ held Γ t
  unfolding held
  listed_held x t r own e =
      rw (← own.stands.means, ← own_trees) (e ∙ listed_member rd size listed x n 1 own.stands.normal (λ y p q. filled.normal y (omega arith) (omega arith)))

  pub listed_every : (ts : List Tree) (r : Bool) → r ≡ every (held (listed_trees rd listed n 1)) ts → r ≡ every (held Γ) ts
  listed_every ts r e = rw (← own_trees) e

pub listed_space : (rd : Reader) (size : ℕ) (frames listed slots : List ℕ) (d n : ℕ) → Framed rd size frames d → Filled rd size listed n [] (members_at rd frames d) →
    length listed ≡ 2049 → length slots ≡ 8194 → Space listed slots n
listed_space rd size frames listed slots d n here filled l k =
    let most : n ≤ length (members_at rd frames d) = filled_most rd size listed n [] (members_at rd frames d) filled in
    let few : length (members_at rd frames d) ≤ 2048 = members_low rd size frames d (start_at frames d) here refl in
    record { long = omega arith; room = omega arith; small = omega arith }
