-- Tests on every member of a sequent, by keys, and the ways out of the code that makes them.
use Prim.Native.Nat.{ℕ, suc, ◌+◌, ◌*◌, ◌-◌, ◌%◌, ◌<◌, ◌≤◌}
use Rattle.std.specs.Prelude.{◌≡◌, List, [], ◌∷◌, ◌++◌, Bool, eqb, length}
use Rattle.std.proofs.Math.Path.{refl}
use Rattle.std.proofs.Common.{sym, ap, ◌∙◌}
use Rattle.std.proofs.Math.Bool.{true, false, not}
use native.Mathlib.Omega.{arith}
use borrow.Author.Tests.{eq-eqb, ne_eqb, eqb-true, eqb-false, not-true, not-false}
use Rattle.reader.specs.Words.{Reader}
use Rattle.reader.specs.Tests.{both, every, if_eq, if_true}
use Rattle.reader.specs.Trees.{Tree, same}
use Rattle.reader.specs.Members.{member}
use Rattle.derivation_trees.specs.Keys.{body_of, decoded, Normal, key_same}
use Rattle.derivation_trees.specs.Table.{KeyOf}
use Rattle.derivation_frames.specs.Frames.{start_at, entry_at, added_by, added_from, chain_trees, members_at, Framed}

-- t is what the key stands for, or is not, as wanted
unfoldable pub agrees : Reader → ℕ → Bool → Tree → Bool
agrees rd key wanted t = if_true wanted (same t (decoded rd key)) (not (same t (decoded rd key)))

-- a test on all members is one on the chain's and one on those added
every_both : (test : Tree → Bool) (xs ys : List Tree) → every test (xs ++ ys) ≡ both (every test xs) (every test ys)
unfolding every both
every_both test [] ys = refl
every_both test (x ∷ xs) ys = go (test x) (every_both test xs ys)
  where
    go : (b : Bool) → every test (xs ++ ys) ≡ both (every test xs) (every test ys) →
        elim b as (λ z. Bool) [ true ↦ every test (xs ++ ys) | false ↦ false ] ≡
        both (elim b as (λ z. Bool) [ true ↦ every test xs | false ↦ false ]) (every test ys)
    go true rest = rest
    go false rest = refl

pub every_member : (rd : Reader) (frames : List ℕ) (d : ℕ) (test : Tree → Bool) (s c : ℕ) (r : Bool) → s ≡ start_at frames d → c ≡ entry_at frames s →
    r ≡ both (every test (chain_trees rd c)) (every test (added_from rd frames (d - s) (suc s))) → r ≡ every test (members_at rd frames d)
unfolding members_at
every_member rd frames d test s c r es ec e =
    rw (← es, ← ec) (e ∙ sym (every_both test (chain_trees rd c) (added_from rd frames (d - s) (suc s))))

-- a member is one that not every member differs from
pub member_agrees : (rd : Reader) (key : ℕ) (Γ : List Tree) → member (decoded rd key) Γ ≡ not (every (agrees rd key false) Γ)
unfolding member every agrees if_true
member_agrees rd key [] = refl
member_agrees rd key (u ∷ us) = go (same u (decoded rd key)) (member_agrees rd key us)
  where
    go : (b : Bool) → member (decoded rd key) us ≡ not (every (agrees rd key false) us) →
        elim b as (λ x. Bool) [ true ↦ true | false ↦ member (decoded rd key) us ] ≡
        not (elim (not b) as (λ x. Bool) [ true ↦ every (agrees rd key false) us | false ↦ false ])
    go true rest = refl
    go false rest = rest

-- The ways out of `agrees`.
module _ (rd : Reader) (size x key : ℕ) (a : Normal rd size x) (b : Normal rd size key) where
  pub agrees_same : (wanted : Bool) → wanted ≡ true → eqb x key ≡ agrees rd key wanted (decoded rd x)
  unfolding agrees if_true
  agrees_same wanted h = rw h (key_same rd size x key a b)

  pub agrees_other : (wanted : Bool) → wanted ≡ false → not (eqb x key) ≡ agrees rd key wanted (decoded rd x)
  unfolding agrees if_true
  agrees_other wanted h = rw h (ap not (key_same rd size x key a b))

pub agrees_key : (rd : Reader) (size x key : ℕ) (t : Tree) (wanted r : Bool) → KeyOf rd size x t → r ≡ agrees rd key wanted (decoded rd x) → r ≡ agrees rd key wanted t
agrees_key rd size x key t wanted r k e = rw (← k.stands.means) e

-- a test on what an entry adds
module _ (rd : Reader) (test : Tree → Bool) (e : ℕ) where
  pub added_none : e ≡ 0 → true ≡ every test (added_by rd e)
  unfolding added_by if_eq every
  added_none h = rw h refl

  pub added_one : (e ≡ 0 → ⊥) → (r : Bool) → r ≡ test (decoded rd (e - 1)) → r ≡ every test (added_by rd e)
  unfolding added_by if_eq every
  added_one h r q = simp (added_by, if_eq, ne_eqb e 0 h) (q ∙ once (test (decoded rd (e - 1))))
    where
      once : (b : Bool) → b ≡ elim b as (λ x. Bool) [ true ↦ true | false ↦ false ]
      once true = refl
      once false = refl

-- The ways out of `entry_agrees`.
module _ (rd : Reader) (size e key : ℕ) (own : (e ≡ 0 → ⊥) → Normal rd size (e - 1)) (b : Normal rd size key) (wanted : Bool) where
  pub entry_same : not wanted ≡ false → (e ≡ 0 → ⊥) → eqb (e - 1) key ≡ every (agrees rd key wanted) (added_by rd e)
  entry_same w h = added_one rd (agrees rd key wanted) e h (eqb (e - 1) key) (agrees_same rd size (e - 1) key (own h) b wanted (not-false wanted w))

  pub entry_other : not wanted ≡ true → not (eqb e (key + 1)) ≡ every (agrees rd key wanted) (added_by rd e)
  entry_other w = go (eqb e 0) refl
    where
      less : (e ≡ 0 → ⊥) → (v : Bool) → eqb (e - 1) key ≡ v → eqb e (key + 1) ≡ v
      less h true t = let one : e - 1 ≡ key = eqb-true (e - 1) key t in eq-eqb e (key + 1) (omega arith)
      less h false t = let other : e - 1 ≡ key → ⊥ = eqb-false (e - 1) key t in ne_eqb e (key + 1) (λ z. other (omega arith))

      go : (v : Bool) → eqb e 0 ≡ v → not (eqb e (key + 1)) ≡ every (agrees rd key wanted) (added_by rd e)
      go true t =
          let none : e ≡ 0 = eqb-true e 0 t in
          ap not (ne_eqb e (key + 1) (λ z. omega arith)) ∙ added_none rd (agrees rd key wanted) e none
      go false t =
          let some : e ≡ 0 → ⊥ = eqb-false e 0 t in
          added_one rd (agrees rd key wanted) e some (not (eqb e (key + 1)))
          (ap not (less some (eqb (e - 1) key) refl) ∙ agrees_other rd size (e - 1) key (own some) b wanted (not-true wanted w))

-- a key of few records is not the last number
pub key_low : (rd : Reader) (size key : ℕ) → Normal rd size key → size ≤ 250000 → key % 262144 ≤ 250000
unfolding body_of
key_low rd size key own small = omega (arith, own.inside)

-- The ways out of a loop over the frames above the chain that makes a test on what each adds.
module _ (rd : Reader) (test : Tree → Bool) (frames : List ℕ) (d s f : ℕ) (inv : every test (added_from rd frames (d - s) (suc s)) ≡ every test (added_from rd frames (d - f) (suc f))) where
  pub frames_end : d ≤ f → true ≡ every test (added_from rd frames (d - s) (suc s))
  unfolding every added_from
  frames_end h = let none : d - f ≡ 0 = omega arith in rw (inv, none) refl

  module _ (less : f < d) (e : ℕ) (ee : e ≡ entry_at frames (f + 1)) (r : Bool) (er : r ≡ every test (added_by rd e)) where
    turn : every test (added_from rd frames (d - s) (suc s)) ≡ both (every test (added_by rd e)) (every test (added_from rd frames (d - (f + 1)) (suc (f + 1))))
    unfolding added_from
    turn =
        let one : d - f ≡ suc (d - (f + 1)) = omega arith in
        let next : suc f ≡ f + 1 = omega arith in
        rw (inv, one, next, ← ee) (every_both test (added_by rd e) (added_from rd frames (d - (f + 1)) (suc (f + 1))))

    pub frames_stop : not r ≡ true → false ≡ every test (added_from rd frames (d - s) (suc s))
    unfolding both
    frames_stop h = rw turn (simp (both, ← er, not-true r h))

    pub frames_more : not r ≡ false → every test (added_from rd frames (d - s) (suc s)) ≡ every test (added_from rd frames (d - (f + 1)) (suc (f + 1)))
    unfolding both
    frames_more h = rw turn (simp (both, ← er, not-false r h))

-- an entry above the chain is a member's key and one
pub entry_normal : (rd : Reader) (size : ℕ) (frames : List ℕ) (d s f e : ℕ) → Framed rd size frames d → s ≡ start_at frames d → s ≤ f → f < d →
    e ≡ entry_at frames (f + 1) → (e ≡ 0 → ⊥) → Normal rd size (e - 1)
entry_normal rd size frames d s f e here es low less ee given = rw ee (here.added (f + 1) (omega arith) (omega arith) (λ z. given (ee ∙ z)))

-- words of a frame
pub word_in_lem : (rd : Reader) (size : ℕ) (frames : List ℕ) (d f w : ℕ) → Framed rd size frames d → f ≤ d → w < 4 → 4 * f + w < length frames
word_in_lem rd size frames d f w here p q = omega (arith, here.long, here.deep)

pub frame_in : (rd : Reader) (size : ℕ) (frames : List ℕ) (d f : ℕ) → Framed rd size frames d → f ≤ d → 4 * f + 3 < length frames
frame_in rd size frames d f here p = omega (arith, here.long, here.deep)

pub start_in : (rd : Reader) (size : ℕ) (frames : List ℕ) (d s : ℕ) → Framed rd size frames d → s ≡ start_at frames d → 4 * s + 3 < length frames
start_in rd size frames d s here e = omega (arith, here.long, here.deep, here.start)

pub chain_below : (rd : Reader) (size : ℕ) (frames : List ℕ) (d s c : ℕ) → Framed rd size frames d → s ≡ start_at frames d → c ≡ entry_at frames s → c < size
chain_below rd size frames d s c here es ec = rw (ec, es) here.chain

pub holds_key : (rd : Reader) (key : ℕ) (Γ : List Tree) (r : Bool) → r ≡ every (agrees rd key false) Γ → not r ≡ member (decoded rd key) Γ
holds_key rd key Γ r e = ap not e ∙ sym (member_agrees rd key Γ)

pub frame_next : (rd : Reader) (size : ℕ) (frames : List ℕ) (d f : ℕ) → Framed rd size frames d → f < d → 4 * (f + 1) + 3 < length frames
frame_next rd size frames d f here p = omega (arith, here.long, here.deep)
