-- The symbols before a record, in slots by the keys of their names: a name is taken exactly when its key is there.
use Prim.Native.Nat.{ℕ, zero, suc, ◌+◌, ◌-◌, ◌<◌, ◌≤◌, ◌*◌}
use Rattle.std.specs.Prelude.{◌≡◌, List, [], ◌∷◌, Bool, not, ltb, length, get_or, set}
use Rattle.std.proofs.Math.Path.{refl}
use Rattle.std.proofs.Common.{sym, ap, ◌∙◌, arith}
use Rattle.std.proofs.Math.Bool.{true, false}
use Rattle.std.proofs.lemmas.Bool.{false≢true}
use Rattle.std.proofs.Math.Dec.{eqb}
use borrow.Author.Tests.{eq-eqb, ne_eqb, eqb-true, eqb-false, ltb-true, ltb-false}
use Rattle.reader.specs.Words.{Reader}
use Rattle.reader.specs.Tests.{both}
use Rattle.reader.specs.Names.{name_of, name_space, name, same_name, taken_below, name_taken}
use Rattle.reader.specs.Records.{name_length_fits, name_spelled, name_is_free}
use Rattle.reader_equality.specs.declared.Key.{Key}
use Rattle.reader_equality.specs.Tables.{Zeros}
use Rattle.reader_slots.specs.Slots.{In, Placed, Put, Ended, placed_none, placed_next, old_put, new_put}
use Rattle.reader_names.specs.NameKeys.{mixed, name_parts, name_key, key_none_of, key_some_of, key_space, key_name, parts_equal, name_key_lem}
use Rattle.reader_names.specs.Room.{named_key, unnamed_key}

-- a record in the slots has the key of record x
pub record Present (rd : Reader) (slots : List ℕ) (x : ℕ) : Type 0 where
  pub at : ℕ
  pub some : 0 < at
  pub there : In slots at
  pub key : name_key rd at ≡ name_key rd x

-- there are slots for records up to i, whose numbers fit them
pub record Room (slots : List ℕ) (i : ℕ) : Type 0 where
  pub room : 4096 + 2 * i ≤ length slots
  pub small : i < 4294967296

-- the slots have symbols below i with keys, and the key of every one
pub record Names (rd : Reader) (slots : List ℕ) (i : ℕ) : Type 0 where
  pub placed : Placed (name_key rd) slots i
  pub own : (x : ℕ) → 0 < x → In slots x → 0 < (name_key rd x).kind
  pub all : (x : ℕ) → 0 < x → x < i → 0 < (name_key rd x).kind → Present rd slots x

-- Record i is looked up among the symbols before it: r is the one with its key, which is i where none has it, or where i has no key.
pub record Looked (rd : Reader) (i r : ℕ) (after : List ℕ) : Type 0 where
  pub names : Names rd after (i + 1)
  pub key : name_key rd r ≡ name_key rd i
  pub out : (name_key rd i).kind ≡ 0 → r ≡ i
  pub free : 0 < (name_key rd i).kind → eqb r i ≡ not (name_taken rd i)

pub names_none : (rd : Reader) (slots : List ℕ) → Zeros slots → Names rd slots 1
names_none rd slots f = record {
  placed = placed_none (name_key rd) slots f;
  own = λ x p q. absurd (omega (arith, f.zeros q.slot, q.entry));
  all = λ x p q h. absurd (omega arith);
}

-- equal names
name_self : (cs : List ℕ) → same_name cs cs ≡ true
unfolding same_name
name_self [] = refl
name_self (c ∷ cs) = simp (same_name, eq-eqb c c refl) (name_self cs)

same_cons : (c d : ℕ) (cs ds : List ℕ) → same_name (c ∷ cs) (d ∷ ds) ≡ elim (eqb c d) [ true ↦ same_name cs ds | false ↦ false ]
unfolding same_name
same_cons c d cs ds = refl

name_same : (cs ds : List ℕ) → same_name cs ds ≡ true → cs ≡ ds
unfolding same_name
name_same [] [] h = refl
name_same [] (d ∷ ds) h = absurd (false≢true h)
name_same (c ∷ cs) [] h = absurd (false≢true h)
name_same (c ∷ cs) (d ∷ ds) h = go (eqb c d) refl (λ q. name_same cs ds q)
  where
    go : (b : Bool) → eqb c d ≡ b → (same_name cs ds ≡ true → cs ≡ ds) → c ∷ cs ≡ d ∷ ds
    go true e f = let first : c ≡ d = eqb-true c d e in let others : cs ≡ ds = f (simp e at (rw same_cons at h)) in rw (first, others)
    go false e f = absurd (false≢true (simp e at (rw same_cons at h)))

-- a record from 1 to n that takes the name
record Taker (rd : Reader) (space : ℕ) (cs : List ℕ) (n : ℕ) : Type 0 where
  at : ℕ
  some : 0 < at
  most : at ≤ n
  spaced : name_space (rd at 0) ≡ space
  named : name rd at ≡ cs

module _ (rd : Reader) (space : ℕ) (cs : List ℕ) where
  -- record n is a symbol of the name space with the characters
  takes : ℕ → Bool
  takes n = both (eqb (name_space (rd n 0)) space) (same_name (name rd n) cs)

  taken_one : (n : ℕ) → taken_below rd space cs (suc n) ≡ elim (takes (suc n)) [ true ↦ true | false ↦ taken_below rd space cs n ]
  unfolding taken_below takes
  taken_one n = refl

  takes_is : (x : ℕ) → name_space (rd x 0) ≡ space → name rd x ≡ cs → takes x ≡ true
  unfolding takes both
  takes_is x e q = simp (takes, both, eq-eqb _ _ e, q, name_self cs)

  is_taker : (n x : ℕ) → takes x ≡ true → 0 < x → x ≤ n → Taker rd space cs n
  unfolding takes both
  is_taker n x h p q = go (eqb (name_space (rd x 0)) space) refl h
    where
      go : (b : Bool) → eqb (name_space (rd x 0)) space ≡ b → elim b as (λ z. Bool) [ true ↦ same_name (name rd x) cs | false ↦ false ] ≡ true → Taker rd space cs n
      go true e k = record { at = x; some = p; most = q; spaced = eqb-true _ _ e; named = name_same _ _ k }
      go false e k = absurd (false≢true k)

  taken_by : (n x : ℕ) → 0 < x → x ≤ n → takes x ≡ true → taken_below rd space cs n ≡ true
  taken_by zero x p q h = absurd (omega arith)
  taken_by (suc n) x p q h = rw taken_one (go (takes (suc n)) refl (λ l. taken_by n x p l h))
    where
      go : (b : Bool) → takes (suc n) ≡ b → (x ≤ n → taken_below rd space cs n ≡ true) → elim b as (λ z. Bool) [ true ↦ true | false ↦ taken_below rd space cs n ] ≡ true
      go true e f = refl
      go false e f = f (below (ltb x (suc n)) refl)
        where
          below : (b : Bool) → ltb x (suc n) ≡ b → x ≤ n
          below true t = omega (arith, ltb-true x (suc n) t)
          below false t = let one : x ≡ suc n = omega (arith, ltb-false x (suc n) t) in absurd (false≢true (sym e ∙ rw (← one) h))

  taker : (n : ℕ) → taken_below rd space cs n ≡ true → Taker rd space cs n
  unfolding taken_below
  taker zero h = absurd (false≢true h)
  taker (suc n) h = go (takes (suc n)) refl (rw taken_one at h) (λ k. taker n k)
    where
      go : (b : Bool) → takes (suc n) ≡ b → elim b as (λ z. Bool) [ true ↦ true | false ↦ taken_below rd space cs n ] ≡ true →
          (taken_below rd space cs n ≡ true → Taker rd space cs n) → Taker rd space cs (suc n)
      go true e k f = is_taker (suc n) (suc n) e (omega arith) (omega arith)
      go false e k f = let t = f k in record { at = t.at; some = t.some; most = omega (arith, t.most); spaced = t.spaced; named = t.named }

-- record i has no key: it stays out
looked_out : (rd : Reader) (slots : List ℕ) (i : ℕ) → (name_key rd i).kind ≡ 0 → Names rd slots i → Looked rd i i slots
looked_out rd slots i none names = record {
  names = record { placed = placed_next (name_key rd) slots i names.placed; own = names.own; all = λ x p q h. go x p q h (ltb x i) refl };
  key = refl;
  out = λ e. refl;
  free = λ h. absurd (omega arith);
}
  where
    go : (x : ℕ) → 0 < x → x < i + 1 → 0 < (name_key rd x).kind → (b : Bool) → ltb x i ≡ b → Present rd slots x
    go x p q h true t = names.all x p (ltb-true x i t) h
    go x p q h false t =
        let one : x ≡ i = omega (arith, ltb-false x i t) in
        let k : (name_key rd x).kind ≡ 0 = rw one none in
        absurd (omega arith)

-- record i has a key
module _ (rd : Reader) (before after : List ℕ) (i r : ℕ) (p : 0 < i) (has : 0 < (name_key rd i).kind) (names : Names rd before i) (put : Put (name_key rd) before i r after) where
  own_more : (x : ℕ) → 0 < x → In after x → 0 < (name_key rd x).kind
  own_more x q there = go (eqb x r) refl
    where
      go : (b : Bool) → eqb x r ≡ b → 0 < (name_key rd x).kind
      go true t = let one : x ≡ r = eqb-true x r t in rw (one, put.key) has
      go false t = names.own x q (put.only x q there (eqb-false x r t))

  all_more : (x : ℕ) → 0 < x → x < i + 1 → 0 < (name_key rd x).kind → Present rd after x
  all_more x q l h = go (ltb x i) refl
    where
      go : (b : Bool) → ltb x i ≡ b → Present rd after x
      go true t =
          let old = names.all x q (ltb-true x i t) h in
          record { at = old.at; some = old.some; there = put.kept old.at old.some old.there; key = old.key }
      go false t =
          let one : x ≡ i = omega (arith, ltb-false x i t) in
          record { at = r; some = put.some; there = put.put; key = rw one put.key }

  taken_is : (n : ℕ) → i ≡ suc n → name_taken rd i ≡ taken_below rd (name_space (rd i 0)) (name rd i) n
  unfolding name_taken
  taken_is n e = rw e

  -- another record has its key: its name is taken
  taken_old : (n : ℕ) → i ≡ suc n → r < i → name_taken rd i ≡ true
  taken_old n e h =
      let key = sym put.key in
      taken_is n e ∙ taken_by rd (name_space (rd i 0)) (name rd i) n r put.some (omega arith)
      (takes_is rd (name_space (rd i 0)) (name rd i) r (sym (key_space rd i r has key)) (sym (key_name rd i r has key)))

  -- none has it: its name is free
  taken_new : (n : ℕ) → i ≡ suc n → r ≡ i → name_taken rd i ≡ true → ⊥
  taken_new n e new h =
      let t = taker rd (name_space (rd i 0)) (name rd i) n (sym (taken_is n e) ∙ h) in
      let same : name_key rd t.at ≡ name_key rd i = name_key_lem rd t.at i t.spaced t.named in
      let old = names.all t.at t.some (omega (arith, t.most)) (rw same has) in
      put.new new old.at old.some old.there (old.key ∙ same)

  free_is : (n : ℕ) → i ≡ suc n → (b : Bool) → name_taken rd i ≡ b → eqb r i ≡ not b
  free_is n e true t = ne_eqb r i (λ q. taken_new n e q t)
  free_is n e false t = eq-eqb r i (go (ltb r i) refl)
    where
      go : (b : Bool) → ltb r i ≡ b → r ≡ i
      go true l = absurd (false≢true (sym t ∙ taken_old n e (ltb-true r i l)))
      go false l = omega (arith, put.most, ltb-false r i l)

  looked_up : Looked rd i r after
  looked_up = record {
    names = record { placed = put.placed; own = own_more; all = all_more };
    key = put.key;
    out = λ e. absurd (omega arith);
    free = λ h. free_is (i - 1) (omega arith) (name_taken rd i) refl;
  }

-- The ways out of `enter`: `parts` are the dealt characters of record i, and the search for its key has ended at slot r.
module _ (rd : Reader) (slots : List ℕ) (parts : Key) (i : ℕ) (p : 0 < i) (ep : parts ≡ name_parts rd i) (names : Names rd slots i) where
  pub enter_out : parts.kind ≡ 0 → Looked rd i i slots
  enter_out h = looked_out rd slots i (key_none_of rd i (sym (ap (λ (x : Key). x.kind) ep) ∙ h)) names

  module _ (some : parts.kind ≡ 0 → ⊥) (r : ℕ) (ended : Ended (name_key rd) slots (mixed parts) i r) (j : ℕ) (ej : j ≡ get_or slots r 0) where
    has_key : 0 < (name_key rd i).kind
    has_key = key_some_of rd i (omega (arith, ap (λ (x : Key). x.kind) ep))

    is_key : mixed parts ≡ name_key rd i
    is_key = sym (parts_equal rd i parts (sym ep))

    pub enter_old : (j ≡ 0 → ⊥) → Looked rd i j slots
    enter_old n = looked_up rd slots slots i j p has_key names (old_put (name_key rd) slots (mixed parts) i r p is_key names.placed ended j ej n)

    pub enter_new : j ≡ 0 → r < length slots → Looked rd i i (set slots r i)
    enter_new z l = looked_up rd slots (set slots r i) i i p has_key names (new_put (name_key rd) slots (mixed parts) i r p is_key names.placed ended (sym ej ∙ z) l)

-- a record that names nothing: it stays out, and its name is free
pub names_pass : (rd : Reader) (slots : List ℕ) (i n : ℕ) → n ≡ name_of rd i → n ≡ 0 → Names rd slots i → Names rd slots (i + 1)
names_pass rd slots i n e z names = (looked_out rd slots i (unnamed_key rd i (sym e ∙ z)) names).names

pub free_none : (rd : Reader) (i n : ℕ) → n ≡ name_of rd i → n ≡ 0 → true ≡ name_is_free rd i
unfolding name_is_free
free_none rd i n e z = simp (name_is_free, ← e, eq-eqb n 0 z)

-- what `name_is_free` says
pub looked_free : (rd : Reader) (i r : ℕ) (after : List ℕ) → name_length_fits rd i ≡ true → name_spelled rd i ≡ true → Looked rd i r after → eqb r i ≡ name_is_free rd i
unfolding name_is_free
looked_free rd i r after fits stands looked = go (eqb (name_of rd i) 0) refl
  where
    go : (b : Bool) → eqb (name_of rd i) 0 ≡ b → eqb r i ≡ elim b as (λ x. Bool) [ true ↦ true | false ↦ not (name_taken rd i) ]
    go true t = eq-eqb r i (looked.out (unnamed_key rd i (eqb-true (name_of rd i) 0 t)))
    go false t = looked.free (named_key rd i (eqb-false (name_of rd i) 0 t) fits stands)

pub names_end : (rd : Reader) (slots : List ℕ) (i last : ℕ) → i ≤ last + 1 → last < i → Names rd slots i → Names rd slots (last + 1)
names_end rd slots i last h g names = let e : last + 1 ≡ i = omega arith in rw e names
