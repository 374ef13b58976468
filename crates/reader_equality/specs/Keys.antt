-- The key of a record: its kind, its atom, and what a table says of its parts, all of them or those that are no types. Where the table has the numbers of
-- the smaller records, records that are not 0 have equal trees exactly when their keys are equal.
use Rattle.std.specs.Prelude.{ℕ, ◌+◌, ◌*◌, ◌/◌, ◌%◌, ◌<◌, ◌≤◌, ◌≡◌, List, Bool, true, false, not, ◌&&◌, eqb, ltb, length, get_or, set}
use Rattle.std.proofs.Math.Path.{refl, sym, ap}
use Rattle.std.proofs.Common.{◌∙◌, lit<, get_or-set_other, arith}
use Rattle.std.proofs.lemmas.Bool.{false≢true}
use borrow.Author.Tests.{eqb-true, eq-eqb, ne_eqb, ltb-true, lt-ltb, le-ltb, not-true, not-false}
use Rattle.reader_equality.specs.declared.Key.{Key}
use Rattle.reader_equality.specs.Least.{least, least_equal, least_one, Numbered}
use Rattle.reader.specs.Words.{Reader}
use Rattle.reader.specs.declared.Record.{Record}
use Rattle.reader.specs.Fetched.{RecordIs, word_in, word_in_lem}
use Rattle.reader.specs.Tests.{if_eq, if_lt, if_true}
use Rattle.reader.specs.Kinds.{role, is_symbol, is_number, role_at}
use Rattle.reader.specs.Trees.{lower, child, atom, tree}
use Rattle.reader.specs.TreeLaws.{tree_step_lem, lower_below, child_below}

abbrev pub key : ℕ → ℕ → ℕ → ℕ → ℕ → Key
key k a x y z = record { kind = k; atom = a; first = x; second = y; third = z }

-- role q is that of a part of the tree; where types do not count, that of a part that is neither a type nor a chain of types
unfoldable pub is_part : Bool → ℕ → Bool
is_part types q = if_lt q 10 false (if_true types true (if_eq q 12 false (not (eqb q 16))))

-- the part that word w of record i refers to, 0 for none
unfoldable pub part_at : Reader → Bool → ℕ → ℕ → ℕ
part_at rd types i w = if_true (is_part types (role_at rd i w)) (lower rd i w) 0

-- what the table says of it
unfoldable pub part_entry : Reader → Bool → List ℕ → ℕ → ℕ → ℕ
part_entry rd types table i w = get_or table (part_at rd types i w) 0

-- the key of record i, by what the table says of the smaller records
unfoldable pub key_from : Reader → Bool → List ℕ → ℕ → Key
key_from rd types table i = key (rd i 0) (atom rd i) (part_entry rd types table i 1) (part_entry rd types table i 2) (part_entry rd types table i 3)

-- the same, by the numbers of the parts
unfoldable pub key_at : Reader → ℕ → Key
key_at rd i = key (rd i 0) (atom rd i) (least rd (child rd i 1)) (least rd (child rd i 2)) (least rd (child rd i 3))

-- where the search for a key starts
unfoldable pub bucket_of : Key → ℕ
bucket_of k = (k.kind % 4096 * 1031 + k.atom % 4096 * 2777 + k.first % 4096 * 797 + k.second % 4096 * 3061 + k.third % 4096 * 397) % 4096

-- the side on which the search goes on, and the key with which it does: every bit of every part has its turn
unfoldable pub side_of : Key → ℕ
side_of k = k.kind % 2

unfoldable pub turned : Key → Key
turned k = key k.atom k.first k.second k.third (k.kind / 2)

-- a part is a smaller record
pub part_below : (rd : Reader) (types : Bool) (i w : ℕ) → 0 < i → part_at rd types i w < i
unfolding part_at if_true
part_below rd types i w p = go (is_part types (role_at rd i w))
  where
    go : (b : Bool) → elim b as (λ x. ℕ) [ true ↦ lower rd i w | false ↦ 0 ] < i
    go true = lower_below rd i w p
    go false = p

-- where types count, the parts are the children
pub part_child : (rd : Reader) (i w : ℕ) → part_at rd true i w ≡ child rd i w
unfolding part_at is_part child if_lt if_true
part_child rd i w = go (ltb (role_at rd i w) 10)
  where
    go : (b : Bool) → ◌≡◌ {A = ℕ} (elim (elim b as (λ x. Bool) [ true ↦ false | false ↦ true ]) as (λ x. ℕ) [ true ↦ lower rd i w | false ↦ 0 ]) (elim b as (λ x. ℕ) [ true ↦ 0 | false ↦ lower rd i w ])
    go true = refl
    go false = refl

-- a key needs the table below its record
pub key_set : (rd : Reader) (types : Bool) (table : List ℕ) (i v j : ℕ) → 0 < j → j ≤ i → key_from rd types (set table i v) j ≡ key_from rd types table j
unfolding key_from part_entry
key_set rd types table i v j p h =
    let part : (w : ℕ) → part_entry rd types (set table i v) j w ≡ part_entry rd types table j w =
    λ w. get_or-set_other table i (part_at rd types j w) v 0 (λ e. omega (arith, part_below rd types j w p)) in
    rw (part 1, part 2, part 3) refl

-- the table of numbers gives the key by numbers
pub key_numbers : (rd : Reader) (table : List ℕ) (i n : ℕ) → 0 < i → i ≤ n → Numbered rd table n → key_from rd true table i ≡ key_at rd i
unfolding key_from key_at part_entry
key_numbers rd table i n p h t =
    let part : (w : ℕ) → part_entry rd true table i w ≡ least rd (child rd i w) =
    λ w. ap (λ x. get_or table x 0) (part_child rd i w) ∙ t.holds (child rd i w) (omega (arith, child_below rd i w p)) in
    rw (part 1, part 2, part 3) refl

module _ (rd : Reader) (i j : ℕ) (p : 0 < i) (q : 0 < j) where
  pub key_tree : key_at rd i ≡ key_at rd j → tree rd i ≡ tree rd j
  unfolding key_at
  key_tree e =
      let ek : rd i 0 ≡ rd j 0 = ap (λ (k : Key). k.kind) e in
      let ea : atom rd i ≡ atom rd j = ap (λ (k : Key). k.atom) e in
      let ex : tree rd (child rd i 1) ≡ tree rd (child rd j 1) = least_one rd (child rd i 1) (child rd j 1) (ap (λ (k : Key). k.first) e) in
      let ey : tree rd (child rd i 2) ≡ tree rd (child rd j 2) = least_one rd (child rd i 2) (child rd j 2) (ap (λ (k : Key). k.second) e) in
      let ez : tree rd (child rd i 3) ≡ tree rd (child rd j 3) = least_one rd (child rd i 3) (child rd j 3) (ap (λ (k : Key). k.third) e) in
      let one = tree_step_lem rd i p in
      let other = tree_step_lem rd j q in
      cc

  pub tree_key : tree rd i ≡ tree rd j → key_at rd i ≡ key_at rd j
  unfolding key_at
  tree_key e =
      let one = sym (tree_step_lem rd i p) ∙ e ∙ tree_step_lem rd j q in
      let ek : rd i 0 ≡ rd j 0 = cc in
      let ea : atom rd i ≡ atom rd j = cc in
      let ex : least rd (child rd i 1) ≡ least rd (child rd j 1) = least_equal rd (child rd i 1) (child rd j 1) (cc) in
      let ey : least rd (child rd i 2) ≡ least rd (child rd j 2) = least_equal rd (child rd i 2) (child rd j 2) (cc) in
      let ez : least rd (child rd i 3) ≡ least rd (child rd j 3) = least_equal rd (child rd i 3) (child rd j 3) (cc) in
      cc

-- two keys are equal
unfoldable pub same_key : Key → Key → Bool
same_key k l =
    if_eq k.kind l.kind (if_eq k.atom l.atom (if_eq k.first l.first (if_eq k.second l.second (eqb k.third l.third) false) false) false) false

eq_in : (a b : ℕ) (rest : Bool) → if_eq a b rest false ≡ true → (a ≡ b) × (rest ≡ true)
unfolding if_eq
eq_in a b rest h = go (eqb a b) refl h
  where
    go : (t : Bool) → eqb a b ≡ t → ◌≡◌ {A = Bool} (elim t [ true ↦ rest | false ↦ false ]) true → (a ≡ b) × (rest ≡ true)
    go true e q = (eqb-true a b e, q)
    go false e q = absurd (false≢true q)

pub same_key_equal : (k l : Key) → same_key k l ≡ true → k ≡ l
unfolding same_key
same_key_equal k l h =
    let p = eq_in k.kind l.kind _ h in
    let q = eq_in k.atom l.atom _ p.1 in
    let r = eq_in k.first l.first _ q.1 in
    let s = eq_in k.second l.second _ r.1 in
    let ek : k.kind ≡ l.kind = p.0 in
    let ea : k.atom ≡ l.atom = q.0 in
    let ex : k.first ≡ l.first = r.0 in
    let ey : k.second ≡ l.second = s.0 in
    let ez : k.third ≡ l.third = eqb-true k.third l.third s.1 in
    let fields : key k.kind k.atom k.first k.second k.third ≡ key l.kind l.atom l.first l.second l.third = cc in
    fields

pub same_key_self : (k : Key) → same_key k k ≡ true
unfolding same_key if_eq
same_key_self k =
    simp (if_eq, eq-eqb k.kind k.kind refl, eq-eqb k.atom k.atom refl, eq-eqb k.first k.first refl, eq-eqb k.second k.second refl, eq-eqb k.third k.third refl)

-- what `==` answers, field by field
abbrev pub fields_equal : Key → Key → Bool
fields_equal k l = eqb k.kind l.kind && (eqb k.atom l.atom && (eqb k.first l.first && (eqb k.second l.second && eqb k.third l.third)))

and_if : (a b : ℕ) (x : Bool) → (eqb a b && x) ≡ if_eq a b x false
unfolding if_eq
and_if a b x = go (eqb a b)
  where
    go : (t : Bool) → (t && x) ≡ elim t as (λ t. Bool) [ true ↦ x | false ↦ false ]
    go true = refl
    go false = refl

pub fields_same : (k l : Key) → fields_equal k l ≡ same_key k l
unfolding same_key
fields_same k l = simp and_if

-- what the code's test says of the key x, which it holds as k
module _ (k l x : Key) (ex : k ≡ x) (r : Bool) (er : r ≡ same_key k l) where
  pub keys_equal : r ≡ true → x ≡ l
  keys_equal h = sym ex ∙ same_key_equal k l (sym er ∙ h)

  pub keys_differ : r ≡ false → x ≡ l → ⊥
  keys_differ h q = false≢true (sym h ∙ er ∙ rw (ex ∙ q) (same_key_self l))

pub bucket_small : (k : Key) (s : ℕ) → s ≡ bucket_of k → s < 4096
unfolding bucket_of
bucket_small k s e = omega arith

pub side_small : (k : Key) (b : ℕ) → b ≡ side_of k → b < 2
unfolding side_of
side_small k b e = omega arith

-- The same by the record's words.
unfoldable pub atom_in : ℕ → Record → ℕ
atom_in i x = if_true (is_symbol x.kind) i (if_true (is_number (role x.kind 1)) x.a 0)

unfoldable pub part_in : Bool → ℕ → Record → ℕ → ℕ
part_in types i x w = if_true (is_part types (role x.kind w)) (if_lt (word_in x w) i (word_in x w) 0) 0

module _ (rd : Reader) (i : ℕ) (x : Record) (e : RecordIs rd i x) where
  pub atom_in_lem : atom_in i x ≡ atom rd i
  unfolding atom_in atom role_at
  atom_in_lem = rw (e.kind_is, e.a_is) refl

  pub part_in_lem : (types : Bool) (w : ℕ) → w < 4 → part_in types i x w ≡ part_at rd types i w
  unfolding part_in part_at lower role_at
  part_in_lem types w h = rw (word_in_lem rd i x e w h, e.kind_is) refl

-- The ways out of `part_of`.
module _ (types : Bool) (i : ℕ) (x : Record) (w q : ℕ) (eq : q ≡ role x.kind w) (t : Bool) (et : t ≡ is_part types q) where
  pub part_other : not t ≡ true → 0 ≡ part_in types i x w
  unfolding part_in if_true
  part_other h = simp (part_in, if_true, ← eq, ← et, not-true t h)

  module _ (no : not t ≡ false) (a : ℕ) (ea : a ≡ word_in x w) where
    pub part_near : a < i → a ≡ part_in types i x w
    unfolding part_in if_true if_lt
    part_near h = simp (part_in, if_true, if_lt, ← eq, ← et, not-false t no, ← ea, lt-ltb a i h)

    pub part_far : i ≤ a → 0 ≡ part_in types i x w
    unfolding part_in if_true if_lt
    part_far h = simp (part_in, if_true, if_lt, ← eq, ← et, not-false t no, ← ea, le-ltb a i h)

pub part_in_below : (types : Bool) (i : ℕ) (x : Record) (w : ℕ) → 0 < i → part_in types i x w < i
unfolding part_in if_true if_lt
part_in_below types i x w p = go (is_part types (role x.kind w)) (ltb (word_in x w) i) refl
  where
    go : (b c : Bool) → ltb (word_in x w) i ≡ c → elim b as (λ x. ℕ) [ true ↦ elim c as (λ x. ℕ) [ true ↦ word_in x w | false ↦ 0 ] | false ↦ 0 ] < i
    go true true e = ltb-true (word_in x w) i e
    go true false e = p
    go false c e = p

pub part_in_table : (types : Bool) (table : List ℕ) (i : ℕ) (x : Record) (w a : ℕ) → 0 < i → i ≤ length table → a ≡ part_in types i x w → a < length table
part_in_table types table i x w a p h e = omega (arith, part_in_below types i x w p)

-- The ways out of `part_at`.
module _ (rd : Reader) (types : Bool) (i k w q : ℕ) (ek : k ≡ rd i 0) (eq : q ≡ role k w) (t : Bool) (et : t ≡ is_part types q) where
  role_at_lem : role_at rd i w ≡ q
  unfolding role_at
  role_at_lem = rw (← ek) (sym eq)

  pub part_none : not t ≡ true → 0 ≡ part_at rd types i w
  unfolding part_at if_true
  part_none h = simp (part_at, if_true, role_at_lem, ← et, not-true t h)

  pub part_is : not t ≡ false → (x : ℕ) → x ≡ lower rd i w → x ≡ part_at rd types i w
  unfolding part_at if_true
  part_is h x e = simp (part_at, if_true, role_at_lem, ← et, not-false t h) e

-- the entry of a part
pub part_at_table : (rd : Reader) (types : Bool) (table : List ℕ) (i w x : ℕ) → 0 < i → i ≤ length table → x ≡ part_at rd types i w → x < length table
part_at_table rd types table i w x p h e = omega (arith, part_below rd types i w p)

pub entry_is : (rd : Reader) (types : Bool) (table : List ℕ) (i w x v : ℕ) → x ≡ part_at rd types i w → v ≡ get_or table x 0 → v ≡ part_entry rd types table i w
unfolding part_entry
entry_is rd types table i w x v e h = rw (← e) h

-- the key by the record's words
unfoldable pub key_in : Bool → List ℕ → ℕ → Record → Key
key_in types table i x = key x.kind (atom_in i x) (get_or table (part_in types i x 1) 0) (get_or table (part_in types i x 2) 0) (get_or table (part_in types i x 3) 0)

pub key_in_lem : (rd : Reader) (types : Bool) (table : List ℕ) (i : ℕ) (x : Record) → RecordIs rd i x → key_in types table i x ≡ key_from rd types table i
unfolding key_in key_from part_entry
key_in_lem rd types table i x e =
    let part : (w : ℕ) → w < 4 → part_in types i x w ≡ part_at rd types i w = part_in_lem rd i x e types in
    rw (atom_in_lem rd i x e, part 1 (lit< tt), part 2 (lit< tt), part 3 (lit< tt), e.kind_is) refl

-- The ways out of `has_key`, which has the words x of record i.
module _ (types : Bool) (table : List ℕ) (i : ℕ) (x : Record) (l : Key) where
  pub other_kind : (x.kind ≡ l.kind → ⊥) → eqb x.kind l.kind ≡ same_key (key_in types table i x) l
  unfolding same_key key_in if_eq
  other_kind h = simp (if_eq, ne_eqb x.kind l.kind h)

  pub same_kind : (k : Key) → k ≡ key_in types table i x → (r : Bool) → r ≡ fields_equal k l → r ≡ same_key (key_in types table i x) l
  same_kind k ek r e = rw (← ek) (e ∙ fields_same k l)
