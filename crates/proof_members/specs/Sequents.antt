-- The sequent that the first h numbers of a lent memory of keys stand for, and the ways out of the code that looks for a member.
use Rattle.std.specs.Prelude.{ℕ, ◌+◌, ◌<◌, ◌≤◌, ◌≡◌, List, ◌∷◌, map, Bool, true, false, eqb, length, take, drop, get_or}
use Rattle.std.proofs.Math.Path.{refl}
use Rattle.std.proofs.lemmas.List.{length-map}
use Rattle.std.proofs.Math.ListN.{drop_of_length-le}
use Rattle.std.proofs.Math.Seq.{drop-cons, get_or-take, length-take-le}
use Rattle.std.proofs.Common.{add-one, arith, eq-eqb, ne_eqb}
use Rattle.reader.specs.Words.{Reader}
use Rattle.reader.specs.Trees.{Tree, same}
use Rattle.reader.specs.Members.{member}
use Rattle.proof_members.specs.Keys.{decoded, Normal, key_same}
use Rattle.proof_members.specs.Makers.{Table}

unfoldable pub sequent : Reader → List ℕ → ℕ → List Tree
sequent rd memory h = map (decoded rd) (take h memory)

-- each of the first h numbers is a key
pub record Keys (rd : Reader) (size : ℕ) (memory : List ℕ) (h : ℕ) : Type 0 where
  pub each : (i : ℕ) → i < h → Normal rd size (get_or memory i 0)

-- A memory of 1,024 keys, h of them in use.
pub record Ready (rd : Reader) (numbers memory : List ℕ) (h : ℕ) : Type 0 where
  pub table : Table rd numbers
  pub long : length memory ≡ 1024
  pub low : h ≤ 1024
  pub keys : Keys rd (length numbers) memory h

pub sequent_length : (rd : Reader) (memory : List ℕ) (h : ℕ) → h ≤ length memory → length (sequent rd memory h) ≡ h
unfolding sequent
sequent_length rd memory h p = simp length-map (length-take-le h memory p)

-- the members from place i on
unfoldable pub members_from : Reader → List ℕ → ℕ → ℕ → List Tree
members_from rd memory h i = map (decoded rd) (drop i (take h memory))

member_cons : (t u : Tree) (us : List Tree) → member t (u ∷ us) ≡ elim (same u t) [ true ↦ true | false ↦ member t us ]
unfolding member
member_cons t u us = refl

-- The ways out of a loop over the members that looks for t.
module _ (rd : Reader) (memory : List ℕ) (h : ℕ) (t : Tree) where
  pub member_start : member t (sequent rd memory h) ≡ member t (members_from rd memory h 0)
  unfolding sequent members_from
  member_start = refl

  module _ (i : ℕ) where
    pub members_next : i < length (take h memory) → members_from rd memory h i ≡ decoded rd (get_or (take h memory) i 0) ∷ members_from rd memory h (i + 1)
    unfolding members_from
    members_next lt = rw (add-one, drop-cons (take h memory) i 0 lt)

    module _ (inv : member t (sequent rd memory h) ≡ member t (members_from rd memory h i)) where
      pub member_found : i < length (take h memory) → (r : Bool) → r ≡ same (decoded rd (get_or (take h memory) i 0)) t → r ≡ true →
          true ≡ member t (sequent rd memory h)
      member_found lt r e q = rw (inv, members_next lt, member_cons) (simp (← e, q))

      pub member_more : i < length (take h memory) → (r : Bool) → r ≡ same (decoded rd (get_or (take h memory) i 0)) t → r ≡ false →
          member t (sequent rd memory h) ≡ member t (members_from rd memory h (i + 1))
      member_more lt r e q = rw (inv, members_next lt, member_cons) (simp (← e, q))

      pub member_none : length (take h memory) ≤ i → false ≡ member t (sequent rd memory h)
      unfolding member members_from
      member_none end = rw (inv, drop_of_length-le (take h memory) {i = i} end)

-- a memory holds its members
pub in_memory : (rd : Reader) (numbers memory : List ℕ) (h : ℕ) → Ready rd numbers memory h → h ≤ length memory
in_memory rd numbers memory h ready = omega (arith, ready.long, ready.low)

-- the first h numbers are keys
pub each_taken : (rd : Reader) (numbers memory : List ℕ) (h i : ℕ) → Ready rd numbers memory h → i < length (take h memory) →
    Normal rd (length numbers) (get_or (take h memory) i 0)
each_taken rd numbers memory h i ready lt =
    let low : i < h = omega (arith, lt, length-take-le h memory (in_memory rd numbers memory h ready)) in
    rw (get_or-take h memory i 0 low) (ready.keys.each i low)

-- a key compared
module _ (rd : Reader) (numbers memory : List ℕ) (h key : ℕ) (ready : Ready rd numbers memory h) (normal : Normal rd (length numbers) key)
    (i : ℕ) (lt : i < length (take h memory)) (inv : member (decoded rd key) (sequent rd memory h) ≡ member (decoded rd key) (members_from rd memory h i)) where
  compared : eqb (get_or (take h memory) i 0) key ≡ same (decoded rd (get_or (take h memory) i 0)) (decoded rd key)
  compared = key_same rd (length numbers) (get_or (take h memory) i 0) key (each_taken rd numbers memory h i ready lt) normal

  pub key_found : get_or (take h memory) i 0 ≡ key → true ≡ member (decoded rd key) (sequent rd memory h)
  key_found e = member_found rd memory h (decoded rd key) i inv lt _ compared (eq-eqb (get_or (take h memory) i 0) key e)

  pub key_more : (get_or (take h memory) i 0 ≡ key → ⊥) → member (decoded rd key) (sequent rd memory h) ≡ member (decoded rd key) (members_from rd memory h (i + 1))
  key_more e = member_more rd memory h (decoded rd key) i inv lt _ compared (ne_eqb (get_or (take h memory) i 0) key e)
