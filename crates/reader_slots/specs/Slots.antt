-- Slots with records, as a search tree for each bucket: slots 0 to 4095 have the buckets' roots, and record j has two slots under it. A slot with 0 is free.
use Rattle.std.specs.Prelude.{ℕ, ◌+◌, ◌*◌, ◌<◌, ◌≤◌, ◌≡◌, refl, List, Bool, true, false, eqb, ltb, length, get_or, set}
use Rattle.std.proofs.Common.{sym, ◌∙◌, get_or-set_same, get_or-set_other, arith, eqb-true, ltb-true, ltb-false}
use Rattle.std.proofs.lemmas.Bool.{eqb-false}
use Rattle.reader_equality.specs.declared.Key.{Key}
use Rattle.reader_equality.specs.Tables.{Zeros}
use Rattle.reader_equality.specs.Least.{least_of, number_most, number_equal, number_tree}
use Rattle.reader_equality.specs.Keys.{key_from, key_set, bucket_of, side_of, side_small, turned}
use Rattle.reader.specs.Words.{Reader}
use Rattle.reader.specs.Trees.{Tree}

-- the slot under record j on the side that the key says
unfoldable pub under : ℕ → Key → ℕ
under j k = 4096 + 2 * j + side_of k

-- The search from slot s on, with what is left of a key, comes to slot r.
pub data Path (slots : List ℕ) (r : ℕ) : Key → ℕ → Type 0 where
  stop : {k : Key} {s : ℕ} → s ≡ r → Path slots r k s
  step : {k : Key} {s : ℕ} → 0 < get_or slots s 0 → Path slots r (turned k) (under (get_or slots s 0) k) → Path slots r k s

-- the search for key k comes to record x
pub record Stands (slots : List ℕ) (x : ℕ) (k : Key) : Type 0 where
  pub slot : ℕ
  pub path : Path slots slot k (bucket_of k)
  pub entry : get_or slots slot 0 ≡ x

-- a slot has record x
pub record In (slots : List ℕ) (x : ℕ) : Type 0 where
  pub slot : ℕ
  pub entry : get_or slots slot 0 ≡ x

-- the slots have records below i, smaller ones above larger ones, and each stands where the search for its key comes to it
pub record Placed (key_of : ℕ → Key) (slots : List ℕ) (i : ℕ) : Type 0 where
  pub small : (s : ℕ) → get_or slots s 0 < i
  pub rising : (s : ℕ) → 0 < get_or slots s 0 → s < 4096 + 2 * get_or slots s 0
  pub stands : (x : ℕ) → 0 < x → In slots x → Stands slots x (key_of x)

pub placed_none : (key_of : ℕ → Key) (slots : List ℕ) → Zeros slots → Placed key_of slots 1
placed_none key_of slots f = record {
  small = λ s. omega (arith, f.zeros s);
  rising = λ s h. absurd (omega (arith, f.zeros s));
  stands = λ x p q. absurd (omega (arith, f.zeros q.slot, q.entry));
}

pub placed_next : (key_of : ℕ → Key) (slots : List ℕ) (i : ℕ) → Placed key_of slots i → Placed key_of slots (i + 1)
placed_next key_of slots i p = record { small = λ s. omega (arith, p.small s); rising = p.rising; stands = p.stands }

-- keys that agree below i
placed_as : (key_of other : ℕ → Key) (slots : List ℕ) (i : ℕ) → ((x : ℕ) → 0 < x → x < i → other x ≡ key_of x) → Placed key_of slots i → Placed other slots i
placed_as key_of other slots i agree p = record {
  small = p.small;
  rising = p.rising;
  stands = λ x q s. rw (agree x q (omega (arith, p.small s.slot, s.entry))) (p.stands x q s);
}

-- the table with one entry more
pub placed_set : (rd : Reader) (types : Bool) (table slots : List ℕ) (i v : ℕ) → Placed (key_from rd types table) slots (i + 1) →
    Placed (key_from rd types (set table i v)) slots (i + 1)
placed_set rd types table slots i v =
    placed_as (key_from rd types table) (key_from rd types (set table i v)) slots (i + 1) (λ x p q. key_set rd types table i v x p (omega arith))

-- In the middle of the search for key k, at slot s with `rest` left of the key: what the whole search comes to and fits is what is left to come to.
pub record Search (key_of : ℕ → Key) (slots : List ℕ) (k rest : Key) (s : ℕ) : Type 0 where
  pub left : (r : ℕ) → Path slots r k (bucket_of k) → 0 < get_or slots r 0 → key_of (get_or slots r 0) ≡ k → Path slots r rest s
  pub whole : (r : ℕ) → Path slots r rest s → Path slots r k (bucket_of k)

-- The search for key k among the records below i has ended at slot r: a record with that key, or free, and then no record has it.
pub record Ended (key_of : ℕ → Key) (slots : List ℕ) (k : Key) (i r : ℕ) : Type 0 where
  pub inside : r < 4096 + 2 * i
  pub fits : 0 < get_or slots r 0 → key_of (get_or slots r 0) ≡ k
  pub comes : Path slots r k (bucket_of k)
  pub none : get_or slots r 0 ≡ 0 → (q : ℕ) → Path slots q k (bucket_of k) → 0 < get_or slots q 0 → key_of (get_or slots q 0) ≡ k → ⊥

pub search_start : (key_of : ℕ → Key) (slots : List ℕ) (k : Key) (s : ℕ) → s ≡ bucket_of k → Search key_of slots k k s
search_start key_of slots k s e = record { left = λ r p h q. rw e p; whole = λ r p. rw e at p }

pub search_from : (key_of : ℕ → Key) (slots : List ℕ) (k rest : Key) (s : ℕ) → rest ≡ k → s ≡ bucket_of rest → Search key_of slots k rest s
search_from key_of slots k rest s same e = rw (← same) (search_start key_of slots rest s e)

module _ (key_of : ℕ → Key) (slots : List ℕ) (k rest : Key) (s j : ℕ) (ej : j ≡ get_or slots s 0) (search : Search key_of slots k rest s) where
  pub search_found : (i : ℕ) → s < 4096 + 2 * i → key_of j ≡ k → (j ≡ 0 → ⊥) → Ended key_of slots k i s
  search_found i h e p = record {
    inside = h;
    fits = λ q. rw (← ej) e;
    comes = search.whole s (stop refl);
    none = λ z. absurd (p (ej ∙ z));
  }

  pub search_end : (i : ℕ) → s < 4096 + 2 * i → j ≡ 0 → Ended key_of slots k i s
  search_end i h z = record {
    inside = h;
    fits = λ q. absurd (omega arith);
    comes = search.whole s (stop refl);
    none = λ f q p some e. free q some (search.left q p some e);
  }
    where
      free : (q : ℕ) → 0 < get_or slots q 0 → Path slots q rest s → ⊥
      free q some (stop same) = let none : get_or slots q 0 ≡ 0 = rw (← same) (sym ej ∙ z) in omega arith
      free q some (step more p) = omega arith

  module _ (p : j ≡ 0 → ⊥) (other : key_of j ≡ k → ⊥) where
    left_more : (r : ℕ) → 0 < get_or slots r 0 → key_of (get_or slots r 0) ≡ k → Path slots r rest s → Path slots r (turned rest) (under j rest)
    left_more r some e (stop same) = absurd (other (rw (ej, same) e))
    left_more r some e (step more path) = rw ej path

    pub search_more : (more : Key) (next : ℕ) → more ≡ turned rest → next ≡ under j rest → Search key_of slots k more next
    search_more more next em en = rw (em, en) (record {
      left = λ r path some e. left_more r some e (search.left r path some e);
      whole = λ r path. search.whole r (step (omega arith) (rw ej at path));
    })

-- The turn of `slot_of`: a record in a slot is below i, and its slots come after that slot.
module _ (key_of : ℕ → Key) (slots : List ℕ) (i s j : ℕ) (placed : Placed key_of slots i) (ej : j ≡ get_or slots s 0) (p : j ≡ 0 → ⊥) where
  pub turn_below : j < i
  turn_below = omega (arith, placed.small s)

  module _ (k : Key) (next : ℕ) (en : next ≡ under j k) where
    pub turn_in : next < 4096 + 2 * i
    unfolding under
    turn_in = omega (arith, turn_below, side_small k (side_of k) refl)

    pub turn_rises : s < next
    unfolding under
    turn_rises = omega (arith, placed.rising s (omega arith))

-- a free slot filled is on no path
path_kept : (slots : List ℕ) (r i q : ℕ) → get_or slots r 0 ≡ 0 → {k : Key} {s : ℕ} → Path slots q k s → Path (set slots r i) q k s
path_kept slots r i q free (stop e) = stop e
path_kept slots r i q free (step {k = k} {s = s} more p) =
    let other : s ≡ r → ⊥ = (λ e. let none : get_or slots s 0 ≡ 0 = rw e free in omega arith) in
    let kept : get_or (set slots r i) s 0 ≡ get_or slots s 0 = get_or-set_other slots r s i 0 other in
    step {k = k} {s = s} (rw kept more) (rw kept (path_kept slots r i q free p))

-- Record i is put in, or a record with the same key is there: it is r.
pub record Put (key_of : ℕ → Key) (before : List ℕ) (i r : ℕ) (after : List ℕ) : Type 0 where
  pub placed : Placed key_of after (i + 1)
  pub key : key_of r ≡ key_of i
  pub some : 0 < r
  pub most : r ≤ i
  pub old : r < i → In before r
  pub new : r ≡ i → (x : ℕ) → 0 < x → In before x → key_of x ≡ key_of i → ⊥
  pub put : In after r
  pub kept : (x : ℕ) → 0 < x → In before x → In after x
  pub only : (x : ℕ) → 0 < x → In after x → (x ≡ r → ⊥) → In before x

-- The ways out of `place`: the key of record i is k, and the search for it has ended at slot r.
module _ (key_of : ℕ → Key) (slots : List ℕ) (k : Key) (i r : ℕ) (p : 0 < i) (ek : k ≡ key_of i) (placed : Placed key_of slots i) (ended : Ended key_of slots k i r) where
  -- the slot has a record with the same key
  pub old_put : (j : ℕ) → j ≡ get_or slots r 0 → (j ≡ 0 → ⊥) → Put key_of slots i j slots
  old_put j ej some =
      let there : In slots j = record { slot = r; entry = sym ej } in
      let below : j < i = omega (arith, placed.small r) in
      record {
        placed = placed_next key_of slots i placed;
        key = rw ej (ended.fits (omega arith) ∙ ek);
        some = omega arith;
        most = omega arith;
        old = λ h. there;
        new = λ e. absurd (omega arith);
        put = there;
        kept = λ x q other. other;
        only = λ x q other n. other;
      }

  -- the slot is free
  module _ (free : get_or slots r 0 ≡ 0) (within : r < length slots) where
    no_other : (x : ℕ) → 0 < x → In slots x → key_of x ≡ key_of i → ⊥
    no_other x q there e =
        let stands = placed.stands x q there in
        let one : key_of x ≡ k = e ∙ sym ek in
        let path : Path slots stands.slot k (bucket_of k) = rw one at stands.path in
        ended.none free stands.slot path (omega (arith, stands.entry)) (rw stands.entry one)

    entry_here : get_or (set slots r i) r 0 ≡ i
    entry_here = get_or-set_same slots r i 0 within

    entry_other : (s : ℕ) → (s ≡ r → ⊥) → get_or (set slots r i) s 0 ≡ get_or slots s 0
    entry_other s n = get_or-set_other slots r s i 0 n

    small_more : (s : ℕ) → get_or (set slots r i) s 0 < i + 1
    small_more s = go (eqb s r) refl
      where
        go : (b : Bool) → eqb s r ≡ b → get_or (set slots r i) s 0 < i + 1
        go true t = let one : s ≡ r = eqb-true s r t in rw one (omega (arith, entry_here))
        go false t = omega (arith, entry_other s (eqb-false s r t), placed.small s)

    rising_more : (s : ℕ) → 0 < get_or (set slots r i) s 0 → s < 4096 + 2 * get_or (set slots r i) s 0
    rising_more s = go (eqb s r) refl
      where
        go : (b : Bool) → eqb s r ≡ b → 0 < get_or (set slots r i) s 0 → s < 4096 + 2 * get_or (set slots r i) s 0
        go true t = let one : s ≡ r = eqb-true s r t in rw one (λ h. omega (arith, entry_here, ended.inside))
        go false t = rw (entry_other s (eqb-false s r t)) (placed.rising s)

    in_kept : (x : ℕ) → 0 < x → In slots x → In (set slots r i) x
    in_kept x q there =
        let other : there.slot ≡ r → ⊥ = (λ t. let none : get_or slots there.slot 0 ≡ 0 = rw t free in omega (arith, there.entry)) in
        record { slot = there.slot; entry = entry_other there.slot other ∙ there.entry }

    in_only : (x : ℕ) → In (set slots r i) x → (x ≡ i → ⊥) → In slots x
    in_only x there n =
        let other : there.slot ≡ r → ⊥ = (λ t. n (sym there.entry ∙ rw t entry_here)) in
        record { slot = there.slot; entry = sym (entry_other there.slot other) ∙ there.entry }

    stands_more : (x : ℕ) → 0 < x → In (set slots r i) x → Stands (set slots r i) x (key_of x)
    stands_more x q there = go (eqb x i) refl
      where
        kept : Stands slots x (key_of x) → Stands (set slots r i) x (key_of x)
        kept stands =
            let other : stands.slot ≡ r → ⊥ = (λ t. let none : get_or slots stands.slot 0 ≡ 0 = rw t free in omega (arith, stands.entry)) in
            record { slot = stands.slot; path = path_kept slots r i stands.slot free stands.path; entry = entry_other stands.slot other ∙ stands.entry }

        go : (b : Bool) → eqb x i ≡ b → Stands (set slots r i) x (key_of x)
        go true t =
            let one : x ≡ i = eqb-true x i t in
            rw (one, ← ek) (record { slot = r; path = path_kept slots r i r free ended.comes; entry = entry_here })
        go false t = kept (placed.stands x q (in_only x there (eqb-false x i t)))

    pub new_put : Put key_of slots i i (set slots r i)
    new_put = record {
      placed = record { small = small_more; rising = rising_more; stands = stands_more };
      key = refl;
      some = p;
      most = omega arith;
      old = λ h. absurd (omega arith);
      new = λ e. no_other;
      put = record { slot = r; entry = entry_here };
      kept = in_kept;
      only = λ x q there n. in_only x there n;
    }

-- The slots have those records below i of which P holds, and no others.
pub record Entered (P : ℕ → Type 0) (slots : List ℕ) (i : ℕ) : Type 0 where
  pub all : (x : ℕ) → 0 < x → x < i → P x → In slots x
  pub own : (x : ℕ) → 0 < x → In slots x → P x

pub entered_none : (P : ℕ → Type 0) (slots : List ℕ) → Zeros slots → Entered P slots 1
entered_none P slots f = record {
  all = λ x p q h. absurd (omega arith);
  own = λ x p q. absurd (omega (arith, f.zeros q.slot, q.entry));
}

-- record i stays out
pub entered_next : (P : ℕ → Type 0) (slots : List ℕ) (i : ℕ) → (P i → ⊥) → Entered P slots i → Entered P slots (i + 1)
entered_next P slots i not-i entered = record { all = λ x p q h. go x p q h (ltb x i) refl; own = entered.own }
  where
    go : (x : ℕ) → 0 < x → x < i + 1 → P x → (b : Bool) → ltb x i ≡ b → In slots x
    go x p q h true t = entered.all x p (ltb-true x i t) h
    go x p q h false t = let one : x ≡ i = omega (arith, ltb-false x i t) in absurd (not-i (rw one at h))

-- P holds of records that are the least with their tree, and of the least with the tree of record i: then that one is r.
module _ (key_of : ℕ → Key) (P : ℕ → Type 0) (f : ℕ → Tree) (i r : ℕ) (before after : List ℕ)
    (key_f : (x : ℕ) → 0 < x → x < i → P x → key_of x ≡ key_of i → f x ≡ f i)
    (f_key : (x : ℕ) → 0 < x → x < i → P x → f x ≡ f i → key_of x ≡ key_of i)
    (P-least : (x : ℕ) → P x → least_of f x ≡ x) (P-own : P (least_of f i)) (positive : 0 < least_of f i) (entered : Entered P before i) (put : Put key_of before i r after) where
  pub put_number : r ≡ least_of f i
  put_number = go (ltb r i) refl
    where
      new : r ≡ i → (b : Bool) → ltb (least_of f i) i ≡ b → r ≡ least_of f i
      new e true t =
          let h = ltb-true (least_of f i) i t in
          absurd (put.new e (least_of f i) positive (entered.all (least_of f i) positive h P-own) (f_key (least_of f i) positive h P-own (number_tree f i)))
      new e false t = omega (arith, ltb-false (least_of f i) i t, number_most f i)

      go : (b : Bool) → ltb r i ≡ b → r ≡ least_of f i
      go true t =
          let h = ltb-true r i t in
          let own : P r = entered.own r put.some (put.old h) in
          sym (P-least r own) ∙ number_equal f r i (key_f r put.some h own put.key)
      go false t = new (omega (arith, ltb-false r i t, put.most)) (ltb (least_of f i) i) refl

  pub put_entered : Entered P after (i + 1)
  put_entered = record { all = λ x p q h. all x p q h (ltb x i) refl; own = λ x p there. own x p there (eqb x r) refl }
    where
      all : (x : ℕ) → 0 < x → x < i + 1 → P x → (b : Bool) → ltb x i ≡ b → In after x
      all x p q h true t = put.kept x p (entered.all x p (ltb-true x i t) h)
      all x p q h false t =
          let one : x ≡ i = omega (arith, ltb-false x i t) in
          let least_x : least_of f x ≡ x = P-least x h in
          let is : x ≡ r = sym least_x ∙ rw one (sym put_number) in
          rw is put.put

      own : (x : ℕ) → 0 < x → In after x → (b : Bool) → eqb x r ≡ b → P x
      own x p there true t = let one : x ≡ least_of f i = eqb-true x r t ∙ put_number in rw one P-own
      own x p there false t = entered.own x p (put.only x p there (eqb-false x r t))
