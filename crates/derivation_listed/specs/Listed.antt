-- The keys of the members of a sequent, listed from position 1 on, and the positions in the slots of a search tree: a key is listed exactly when the
-- search for it comes to a position.
use Rattle.std.specs.Prelude.{ℕ, zero, suc, ◌+◌, ◌*◌, ◌/◌, ◌%◌, ◌<◌, ◌≤◌, ◌≡◌, refl, List, Bool, true, false, not, eqb, ltb, length, set, replicate}
use Rattle.std.proofs.Common.{sym, ◌∙◌, arith, eqb-true, ltb-true, ltb-false}
use Rattle.std.proofs.Math.Path.{ap}
use Rattle.std.proofs.lemmas.Bool.{false≢true, eqb-false}
use Rattle.std.proofs.Math.ListN.{get_or, get_or-eq_default}
use Rattle.std.proofs.lemmas.List.{length-replicate, get_or-replicate}
use Rattle.reader_equality.specs.declared.Key.{Key}
use Rattle.reader_equality.specs.Keys.{key, bucket_of}
use Rattle.reader_equality.specs.Tables.{Zeros}
use Rattle.reader_slots.specs.Slots.{Path, In, Placed, Put, Ended, placed_none, old_put, new_put}

-- a number as a key of the search tree
unfoldable pub spread : ℕ → Key
spread k = key (k % 512) (k / 512 % 512) (k / 512 / 512) 0 0

spread_one : (k l : ℕ) → spread k ≡ spread l → k ≡ l
unfolding spread
spread_one k l e =
    let a : k % 512 ≡ l % 512 = ap (λ (x : Key). x.kind) e in
    let b : k / 512 % 512 ≡ l / 512 % 512 = ap (λ (x : Key). x.atom) e in
    let c : k / 512 / 512 ≡ l / 512 / 512 = ap (λ (x : Key). x.first) e in
    omega (arith, a, b, c)

-- the key at position j
unfoldable pub listed_key : List ℕ → ℕ → Key
listed_key listed j = spread (get_or listed j 0)

-- the key of the number x that stands at position j
module _ (listed : List ℕ) (j x k : ℕ) (ex : x ≡ get_or listed j 0) where
  pub same_listed : x ≡ k → listed_key listed j ≡ spread k
  unfolding listed_key
  same_listed e = ap spread (sym ex ∙ e)

  pub other_listed : (x ≡ k → ⊥) → listed_key listed j ≡ spread k → ⊥
  unfolding listed_key
  other_listed other e = other (ex ∙ spread_one (get_or listed j 0) k e)

-- one of n positions from x on has this number
unfoldable pub is_listed : List ℕ → ℕ → ℕ → ℕ → Bool
is_listed listed zero x k = false
is_listed listed (suc n) x k = elim (eqb (get_or listed x 0) k) [ true ↦ true | false ↦ is_listed listed n (suc x) k ]

-- a position that has it
record Position (listed : List ℕ) (n x k : ℕ) : Type 0 where
  at : ℕ
  low : x ≤ at
  high : at < x + n
  is : get_or listed at 0 ≡ k

position : (listed : List ℕ) (n x k : ℕ) → is_listed listed n x k ≡ true → Position listed n x k
unfolding is_listed
position listed zero x k h = absurd (false≢true h)
position listed (suc n) x k h = go (eqb (get_or listed x 0) k) refl h (λ q. position listed n (suc x) k q)
  where
    go : (b : Bool) → eqb (get_or listed x 0) k ≡ b → elim b as (λ z. Bool) [ true ↦ true | false ↦ is_listed listed n (suc x) k ] ≡ true →
        (is_listed listed n (suc x) k ≡ true → Position listed n (suc x) k) → Position listed (suc n) x k
    go true e q f = record { at = x; low = omega arith; high = omega arith; is = eqb-true _ _ e }
    go false e q f = let p = f q in record { at = p.at; low = omega (arith, p.low); high = omega (arith, p.high); is = p.is }

listed_at : (listed : List ℕ) (n x k y : ℕ) → x ≤ y → y < x + n → get_or listed y 0 ≡ k → is_listed listed n x k ≡ true
unfolding is_listed
listed_at listed zero x k y p q e = absurd (omega arith)
listed_at listed (suc n) x k y p q e = go (eqb (get_or listed x 0) k) refl (λ h. listed_at listed n (suc x) k y h (omega arith) e)
  where
    go : (b : Bool) → eqb (get_or listed x 0) k ≡ b → (suc x ≤ y → is_listed listed n (suc x) k ≡ true) →
        elim b as (λ z. Bool) [ true ↦ true | false ↦ is_listed listed n (suc x) k ] ≡ true
    go true t f = refl
    go false t f = f (above (eqb x y) refl)
      where
        above : (b : Bool) → eqb x y ≡ b → suc x ≤ y
        above true s = let one : x ≡ y = eqb-true x y s in absurd (eqb-false (get_or listed x 0) k t (rw one e))
        above false s = let other = eqb-false x y s in omega arith

-- a position in the slots has the key of position x
pub record Present (listed slots : List ℕ) (x : ℕ) : Type 0 where
  pub at : ℕ
  pub some : 0 < at
  pub there : In slots at
  pub same : listed_key listed at ≡ listed_key listed x

-- the slots have positions below i, and the key of every one
pub record Indexed (listed slots : List ℕ) (i : ℕ) : Type 0 where
  pub placed : Placed (listed_key listed) slots i
  pub all : (x : ℕ) → 0 < x → x < i → Present listed slots x

-- there are slots for positions up to i
pub record Space (listed slots : List ℕ) (i : ℕ) : Type 0 where
  pub long : i < length listed
  pub room : 4096 + 2 * (i + 1) ≤ length slots
  pub small : i < 4294967296

pub space_less : (listed slots after : List ℕ) (i last : ℕ) → length after ≡ length slots → i ≤ last → Space listed slots last → Space listed after i
space_less listed slots after i last l h s = record {
  long = omega (arith, h, s.long);
  room = omega (arith, h, l, s.room);
  small = omega (arith, h, s.small);
}

pub indexed_none : (listed slots : List ℕ) → Zeros slots → Indexed listed slots 1
indexed_none listed slots f = record { placed = placed_none (listed_key listed) slots f; all = λ x p q. absurd (omega arith) }

pub indexed_end : (listed slots : List ℕ) (i last : ℕ) → last < i → i ≤ last + 1 → Indexed listed slots i → Indexed listed slots (last + 1)
indexed_end listed slots i last p q h = let one : i ≡ last + 1 = omega arith in rw one at h

-- slots as the code makes them
pub zeros_free : (n : ℕ) → Zeros (replicate n 0)
zeros_free n = record { zeros = λ r. go r (ltb r n) refl }
  where
    go : (r : ℕ) (b : Bool) → ltb r n ≡ b → get_or {A = ℕ} (replicate n 0) r 0 ≡ 0
    go r true e = get_or-replicate n r 0 0 (ltb-true r n e)
    go r false e = get_or-eq_default (replicate n 0) 0 (omega (arith, length-replicate {A = ℕ} n 0, ltb-false r n e))

-- position i is put in, or one with the same key is there
put_indexed : (listed slots after : List ℕ) (i r : ℕ) → Indexed listed slots i → Put (listed_key listed) slots i r after → Indexed listed after (i + 1)
put_indexed listed slots after i r before put = record { placed = put.placed; all = λ x p q. go x p q (eqb x i) refl }
  where
    go : (x : ℕ) → 0 < x → x < i + 1 → (b : Bool) → eqb x i ≡ b → Present listed after x
    go x p q true e =
        let one : x ≡ i = eqb-true x i e in
        record { at = r; some = put.some; there = put.put; same = rw one put.key }
    go x p q false e =
        let other = eqb-false x i e in
        let y = before.all x p (omega arith) in
        record { at = y.at; some = y.some; there = put.kept y.at y.some y.there; same = y.same }

-- The ways out of `place`: the search for the number x at position i has ended at slot r, which has j.
module _ (listed slots : List ℕ) (i r j x : ℕ) (p : 0 < i) (ex : x ≡ get_or listed i 0) (before : Indexed listed slots i)
    (ended : Ended (listed_key listed) slots (spread x) i r) (ej : j ≡ get_or slots r 0) where
  own : spread x ≡ listed_key listed i
  own = sym (same_listed listed i x x ex refl)

  pub placed_old : (j ≡ 0 → ⊥) → Indexed listed slots (i + 1)
  placed_old some = put_indexed listed slots slots i j before (old_put (listed_key listed) slots (spread x) i r p own before.placed ended j ej some)

  pub placed_new : j ≡ 0 → r < length slots → Indexed listed (set slots r i) (i + 1)
  placed_new none within =
      put_indexed listed slots (set slots r i) i i before (new_put (listed_key listed) slots (spread x) i r p own before.placed ended (sym ej ∙ none) within)

-- The way out of `is_listed`: the search for k among the positions up to n has ended at slot r, which has j.
module _ (listed slots : List ℕ) (n k r j : ℕ) (indexed : Indexed listed slots (n + 1)) (ended : Ended (listed_key listed) slots (spread k) (n + 1) r) (ej : j ≡ get_or slots r 0) where
  found : (j ≡ 0 → ⊥) → is_listed listed n 1 k ≡ true
  unfolding listed_key
  found some =
      let own : get_or listed j 0 ≡ k = spread_one (get_or listed j 0) k (rw ej (ended.fits (omega arith))) in
      listed_at listed n 1 k j (omega arith) (omega (arith, ej, indexed.placed.small r)) own

  missing : j ≡ 0 → is_listed listed n 1 k ≡ true → ⊥
  unfolding listed_key
  missing none h =
      let x = position listed n 1 k h in
      let y = indexed.all x.at (omega (arith, x.low)) (omega (arith, x.high)) in
      let one : listed_key listed y.at ≡ spread k = y.same ∙ ap spread x.is in
      let stands = indexed.placed.stands y.at y.some y.there in
      let path : Path slots stands.slot (spread k) (bucket_of (spread k)) = rw one at stands.path in
      ended.none (sym ej ∙ none) stands.slot path (omega (arith, stands.entry, y.some)) (rw stands.entry one)

  pub listed_is : not (eqb j 0) ≡ is_listed listed n 1 k
  listed_is = go (eqb j 0) refl (is_listed listed n 1 k) refl
    where
      go : (b : Bool) → eqb j 0 ≡ b → (v : Bool) → is_listed listed n 1 k ≡ v → not b ≡ v
      go true e true h = absurd (missing (eqb-true j 0 e) h)
      go true e false h = refl
      go false e true h = refl
      go false e false h = absurd (false≢true (sym h ∙ found (eqb-false j 0 e)))
