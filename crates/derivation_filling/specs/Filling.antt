-- The ways out of the code that fills the table of keys: records rising, each key from those of smaller records.
use Rattle.std.specs.Prelude.{ℕ, zero, suc, ◌+◌, ◌<◌, ◌≤◌, ◌≡◌, refl, List, Bool, true, ltb, length, get_or, set}
use Rattle.std.proofs.Math.Path.{sym, ap}
use Rattle.std.proofs.Common.{◌∙◌, get_or-set_same, get_or-set_other, ltb-true, ltb-false}
use Rattle.std.proofs.Math.Bool.{false}
use native.Mathlib.Omega.{arith}
use Rattle.reader.specs.Words.{Reader}
use Rattle.reader.specs.Trees.{child, atom, ⊥ᵗ, ¬ᵗ◌}
use Rattle.reader.specs.TreeLaws.{child_below}
use Rattle.reader_equality.specs.declared.Key.{Key}
use Rattle.reader_equality.specs.Tables.{Zeros}
use Rattle.reader_equality.specs.Least.{least_of}
use Rattle.reader.specs.declared.Record.{Record}
use Rattle.reader.specs.Fetched.{RecordIs}
use Rattle.reader_equality.specs.Keys.{part_at, part_in, part_entry, key_from, part_below, part_in_lem, part_in_below, part_child}
use Rattle.reader_slots.specs.Slots.{Placed, Put, Entered, placed_none, placed_next, placed_set, entered_none, entered_next, put_number, put_entered}
use Rattle.derivation_rules.specs.Erase.{bare_tree}
use Rattle.derivation_trees.specs.Erased.{Plain, bare_zero, bare_false, bare_true, bare_not, bare_all, bare_plain}
use Rattle.derivation_trees.specs.Keys.{negations_of, decoded, Stands, key_one}
use Rattle.derivation_trees.specs.Makers.{Own, stands_wider, stands_none, stands_bottom, stands_not, own_positive, own_least, stands_record}
use Rattle.derivation_trees.specs.Table.{KeyOf, Keyed, Table, key_in_lem, key_small}

-- The table while it is filled, and the slots with the records that have keys of their own.
pub record Filling (rd : Reader) (keys slots : List ℕ) (i : ℕ) : Type 0 where
  pub keyed : Keyed rd keys i
  pub placed : Placed (key_from rd false keys) slots i
  pub entered : Entered (Own rd) slots i

-- v is the key of record i, and the slots have what record i brings.
pub record Made (rd : Reader) (keys slots : List ℕ) (i v : ℕ) : Type 0 where
  pub key : KeyOf rd (i + 1) v (bare_tree rd i)
  pub placed : Placed (key_from rd false keys) slots (i + 1)
  pub entered : Entered (Own rd) slots (i + 1)

keyed_one : (rd : Reader) (keys : List ℕ) → get_or keys 0 0 ≡ 0 → Keyed rd keys 1
unfolding negations_of
keyed_one rd keys z = record { holds = λ i h. go i h }
  where
    go : (i : ℕ) → i < 1 → KeyOf rd (i + 1) (get_or keys i 0) (bare_tree rd i)
    go zero h = rw (z, bare_zero rd) (record { stands = stands_none rd 1; few = omega arith })
    go (suc i) h = absurd (omega arith)

keyed_more : (rd : Reader) (keys : List ℕ) (i v : ℕ) → i < length keys → Keyed rd keys i → KeyOf rd (i + 1) v (bare_tree rd i) → Keyed rd (set keys i v) (i + 1)
keyed_more rd keys i v p k new = record { holds = λ j h. go j h (ltb j i) refl }
  where
    go : (j : ℕ) → j < i + 1 → (b : Bool) → ltb j i ≡ b → KeyOf rd (j + 1) (get_or (set keys i v) j 0) (bare_tree rd j)
    go j h true t =
        let below = ltb-true j i t in
        let same : get_or (set keys i v) j 0 ≡ get_or keys j 0 = get_or-set_other keys i j v 0 (omega arith) in
        rw same (k.holds j below)
    go j h false t =
        let one : j ≡ i = omega (arith, ltb-false j i t) in
        rw (one, get_or-set_same keys i v 0 p) new

-- The loop.
pub filling_start : (rd : Reader) (keys slots : List ℕ) → get_or keys 0 0 ≡ 0 → Zeros slots → Filling rd keys slots 1
filling_start rd keys slots z f = record {
  keyed = keyed_one rd keys z;
  placed = placed_none (key_from rd false keys) slots f;
  entered = entered_none (Own rd) slots f;
}

pub filling_more : (rd : Reader) (keys slots after : List ℕ) (i v : ℕ) → i < length keys → Filling rd keys slots i → Made rd keys after i v → Filling rd (set keys i v) after (i + 1)
filling_more rd keys slots after i v p f made = record {
  keyed = keyed_more rd keys i v p f.keyed made.key;
  placed = placed_set rd false keys after i v made.placed;
  entered = made.entered;
}

pub table_empty : (rd : Reader) (keys : List ℕ) → length keys ≡ 0 → Table rd keys
table_empty rd keys e = record { keyed = record { holds = λ i h. absurd (omega arith) }; small = omega arith }

pub table_end : (rd : Reader) (keys slots : List ℕ) (i : ℕ) → length keys ≤ i → length keys ≤ 262143 → Filling rd keys slots i → Table rd keys
table_end rd keys slots i h small f = record { keyed = record { holds = λ j p. f.keyed.holds j (omega arith) }; small = small }

-- The ways out of `record_key`.
module _ (rd : Reader) (keys slots : List ℕ) (i k : ℕ) (p : 0 < i) (ek : k ≡ rd i 0) (f : Filling rd keys slots i) where
  -- a record that has no key of its own
  stays : (v : ℕ) → (Plain (rd i 0) → ⊥) → KeyOf rd (i + 1) v (bare_tree rd i) → Made rd keys slots i v
  stays v no_key key = record {
    key = key;
    placed = placed_next (key_from rd false keys) slots i f.placed;
    entered = entered_next (Own rd) slots i (λ own. no_key own.plain) f.entered;
  }

  pub made_false : k ≡ 14 → Made rd keys slots i 1
  unfolding negations_of
  made_false h =
      let kind : rd i 0 ≡ 14 = sym ek ∙ h in
      stays 1 (λ plain. plain.no_false kind) (record { stands = rw (bare_false rd i p kind) (stands_bottom rd (i + 1) (omega arith)); few = omega arith })

  pub made_true : k ≡ 15 → Made rd keys slots i 262145
  unfolding negations_of
  made_true h =
      let kind : rd i 0 ≡ 15 = sym ek ∙ h in
      stays 262145 (λ plain. plain.no_true kind)
      (record { stands = rw (bare_true rd i p kind) (stands_not rd (i + 1) 1 ⊥ᵗ (stands_bottom rd (i + 1) (omega arith))); few = omega arith })

  pub made_not : k ≡ 18 → (x y : ℕ) → x ≡ child rd i 1 → y ≡ get_or keys x 0 → Made rd keys slots i (y + 262144)
  unfolding negations_of
  made_not h x y ex ey =
      let kind : rd i 0 ≡ 18 = sym ek ∙ h in
      let low : x < i = omega (arith, child_below rd i 1 p) in
      let part : KeyOf rd (x + 1) y (bare_tree rd x) = rw ey (f.keyed.holds x low) in
      let is : bare_tree rd i ≡ ¬ᵗ (bare_tree rd x) = rw ex (bare_not rd i p kind) in
      stays (y + 262144) (λ plain. plain.no_not kind) (record {
        stands = rw is (stands_not rd (i + 1) y (bare_tree rd x) (stands_wider rd (x + 1) (i + 1) y (bare_tree rd x) (omega arith) part.stands));
        few = omega (arith, part.few);
      })

  pub made_all : k ≡ 22 → (x y : ℕ) → x ≡ child rd i 2 → y ≡ get_or keys x 0 → Made rd keys slots i y
  made_all h x y ex ey =
      let kind : rd i 0 ≡ 22 = sym ek ∙ h in
      let low : x < i = omega (arith, child_below rd i 2 p) in
      let is : bare_tree rd i ≡ bare_tree rd x = rw ex (bare_all rd i p kind) in
      stays y (λ plain. plain.no_all kind) (rw (is, ey) (key_in_lem rd keys i x (i + 1) f.keyed low (omega arith)))

  -- a record of a plain kind
  module _ (not-false : k ≡ 14 → ⊥) (not-true : k ≡ 15 → ⊥) (not_not : k ≡ 18 → ⊥) (not-all : k ≡ 22 → ⊥) where
    plain : Plain (rd i 0)
    plain = record { no_false = λ h. not-false (ek ∙ h); no_true = λ h. not-true (ek ∙ h); no_not = λ h. not_not (ek ∙ h); no_all = λ h. not-all (ek ∙ h) }

    -- what the table says of a part stands for it
    part : (x : ℕ) → 0 < x → x ≤ i → (w : ℕ) → Stands rd i (part_entry rd false keys x w) (bare_tree rd (part_at rd false x w))
    unfolding part_entry
    part x q h w =
        let low : part_at rd false x w < x = part_below rd false x w q in
        (key_in_lem rd keys i (part_at rd false x w) i f.keyed (omega arith) (omega arith)).stands

    key_f : (x : ℕ) → 0 < x → x < i → Own rd x → key_from rd false keys x ≡ key_from rd false keys i → bare_tree rd x ≡ bare_tree rd i
    unfolding key_from
    key_f x q h own e =
        let same : (w : ℕ) → part_entry rd false keys x w ≡ part_entry rd false keys i w → bare_tree rd (part_at rd false x w) ≡ bare_tree rd (part_at rd false i w) =
        λ w t. sym (part x q (omega arith) w).means ∙ ap (decoded rd) t ∙ (part i p (omega arith) w).means in
        let ek : rd x 0 ≡ rd i 0 = ap (λ (k : Key). k.kind) e in
        let ea : atom rd x ≡ atom rd i = ap (λ (k : Key). k.atom) e in
        let e1 : bare_tree rd (part_at rd false x 1) ≡ bare_tree rd (part_at rd false i 1) = same 1 (ap (λ (k : Key). k.first) e) in
        let e2 : bare_tree rd (part_at rd false x 2) ≡ bare_tree rd (part_at rd false i 2) = same 2 (ap (λ (k : Key). k.second) e) in
        let e3 : bare_tree rd (part_at rd false x 3) ≡ bare_tree rd (part_at rd false i 3) = same 3 (ap (λ (k : Key). k.third) e) in
        let one = bare_plain rd x q own.plain in
        let other = bare_plain rd i p plain in
        cc

    f_key : (x : ℕ) → 0 < x → x < i → Own rd x → bare_tree rd x ≡ bare_tree rd i → key_from rd false keys x ≡ key_from rd false keys i
    unfolding key_from
    f_key x q h own e =
        let one = sym (bare_plain rd x q own.plain) ∙ e ∙ bare_plain rd i p plain in
        let same : (w : ℕ) → bare_tree rd (part_at rd false x w) ≡ bare_tree rd (part_at rd false i w) → part_entry rd false keys x w ≡ part_entry rd false keys i w =
        λ w t.
        let mine = part x q (omega arith) w in
        let its = part i p (omega arith) w in
        key_one rd i _ _ mine.normal its.normal (mine.means ∙ t ∙ sym its.means) in
        let ek : rd x 0 ≡ rd i 0 = cc in
        let ea : atom rd x ≡ atom rd i = cc in
        let e1 : part_entry rd false keys x 1 ≡ part_entry rd false keys i 1 = same 1 (cc) in
        let e2 : part_entry rd false keys x 2 ≡ part_entry rd false keys i 2 = same 2 (cc) in
        let e3 : part_entry rd false keys x 3 ≡ part_entry rd false keys i 3 = same 3 (cc) in
        cc

    pub made_record : (r : ℕ) (after : List ℕ) → i < 262143 → Put (key_from rd false keys) slots i r after → Made rd keys after i (r + 1)
    unfolding negations_of
    made_record r after small put =
        let is : r ≡ least_of (bare_tree rd) i =
        put_number (key_from rd false keys) (Own rd) (bare_tree rd) i r slots after key_f f_key (λ x own. own.least) (own_least rd i p plain) (own_positive rd i p plain) f.entered put in
        record {
          key = record { stands = stands_record rd i p plain r small is; few = omega (arith, put.most) };
          placed = put.placed;
          entered = put_entered (key_from rd false keys) (Own rd) (bare_tree rd) i r slots after key_f f_key (λ x own. own.least) (own_least rd i p plain) (own_positive rd i p plain) f.entered put;
        }

-- the part that the code has of the words v of record i
pub part_is : (rd : Reader) (i : ℕ) (v : Record) (w x : ℕ) → RecordIs rd i v → w < 4 → x ≡ part_in true i v w → x ≡ child rd i w
part_is rd i v w x e low ex = ex ∙ part_in_lem rd i v e true w low ∙ part_child rd i w

-- the key of a part is far from wrapping
pub part_small : (rd : Reader) (keys slots : List ℕ) (i : ℕ) (v : Record) (w x y : ℕ) → 0 < i → x ≡ part_in true i v w → i < 262143 → Filling rd keys slots i → y ≡ get_or keys x 0 →
    y + 262144 < 18446744073709551616
part_small rd keys slots i v w x y p ex small f ey =
    let low : x < i = omega (arith, part_in_below true i v w p) in
    omega (arith, key_small rd (x + 1) (get_or keys x 0) (bare_tree rd x) (omega arith) (f.keyed.holds x low))
