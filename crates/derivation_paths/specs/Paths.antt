-- What is left of a question of replacement down a path of records, and the ways out of the code that follows it.
use Rattle.std.specs.Prelude.{ℕ, ◌+◌, ◌-◌, ◌%◌, ◌<◌, ◌≤◌, ◌≡◌, List, Bool, not, ltb, length}
use Rattle.std.proofs.Math.Path.{refl, sym, ap}
use Rattle.std.proofs.Common.{◌∙◌, arith}
use Rattle.std.proofs.Math.Bool.{true, false}
use Rattle.std.proofs.lemmas.Bool.{false≢true}
use Rattle.std.proofs.Math.Dec.{eqb}
use Rattle.std.proofs.Math.ListN.{get_or}
use borrow.Author.Tests.{eq-eqb, ne_eqb, eqb-true, eqb-false, ltb-true, le-leb, not-false}
use Rattle.reader.specs.Words.{Reader}
use Rattle.reader.specs.Tests.{both}
use Rattle.reader.specs.Trees.{Tree, node, atom, same_head, same}
use Rattle.reader.specs.TreeLaws.{same_self}
use Rattle.reader.specs.Variables.{binders, is_index, indices_below, replaced}
use Rattle.reader_closedness.specs.Reach.{reach, indices_reach, replaced_node, replaced_closed}
use Rattle.reader.specs.declared.Record.{Record}
use Rattle.reader.specs.Fetched.{RecordIs}
use Rattle.reader_equality.specs.declared.Parts.{Parts}
use Rattle.reader_equality.specs.Keys.{part_at, part_entry, atom_in, part_in, atom_in_lem, part_in_lem, part_in_below}
use Rattle.reader_equality.specs.Shapes.{PartsAre}
use Rattle.derivation_rules.specs.Erase.{bare_tree}
use Rattle.derivation_trees.specs.Keys.{negations_of, body_of, rank, decoded, Normal}
use Rattle.derivation_trees.specs.Parts.{Part, part_of, as_node, record_in, record_part}
use Rattle.derivation_known.specs.Known.{fits}
use Rattle.derivation_paths.specs.declared.Left.{Left}
use Rattle.derivation_paths.specs.Tables.{Tables}

-- r says that the key is a record's
pub record RecordKey (key : ℕ) (r : Bool) : Type 0 where
  pub low : r ≡ true → 2 ≤ key
  pub high : r ≡ true → key < 262144

-- r says that records i and h, with the words p and q, have one kind and one atom, and are no variables
pub record HeadsAgree (i : ℕ) (p : Record) (h : ℕ) (q : Record) (r : Bool) : Type 0 where
  pub kinds : r ≡ true → p.kind ≡ q.kind
  pub other : r ≡ true → p.kind ≡ 9 → ⊥
  pub atoms : r ≡ true → atom_in i p ≡ atom_in h q

-- r says that the tree of record q is that of record p with any term in place of index d
pub record Agree (rd : Reader) (keys : List ℕ) (p q d : ℕ) (r : Bool) : Type 0 where
  pub holds : r ≡ true → (t : ℕ) → fits rd (get_or keys q 0) t (get_or keys p 0) d ≡ true

-- the parts are among `size` records
pub record Inside (size : ℕ) (a : Parts) : Type 0 where
  pub first_in : a.first < size
  pub second_in : a.second < size
  pub third_in : a.third < size

-- each part of the one is that of the other with the tree of key t in place of the index
module _ (rd : Reader) (keys : List ℕ) (a b : Parts) (d e t : ℕ) where
  unfoldable pub first_fits : Bool
  first_fits = fits rd (get_or keys b.first 0) t (get_or keys a.first 0) d

  unfoldable pub second_fits : Bool
  second_fits = fits rd (get_or keys b.second 0) t (get_or keys a.second 0) e

  unfoldable pub third_fits : Bool
  third_fits = fits rd (get_or keys b.third 0) t (get_or keys a.third 0) d

-- the parts other than w are so, whatever the term
pub record Alone (rd : Reader) (keys : List ℕ) (a b : Parts) (d e w : ℕ) : Type 0 where
  pub first : w ≡ 1 → (t : ℕ) → (second_fits rd keys a b d e t ≡ true) × (third_fits rd keys a b d e t ≡ true)
  pub second : w ≡ 2 → (t : ℕ) → (first_fits rd keys a b d e t ≡ true) × (third_fits rd keys a b d e t ≡ true)
  pub third : w ≡ 3 → (t : ℕ) → (first_fits rd keys a b d e t ≡ true) × (second_fits rd keys a b d e t ≡ true)

-- r is what is left where part w is
pub record LeftIs (keys : List ℕ) (a b : Parts) (d e x j w : ℕ) (r : Left) : Type 0 where
  pub first : w ≡ 1 → (r.whole ≡ get_or keys b.first 0) × (r.body ≡ get_or keys a.first 0) × (r.depth ≡ d)
  pub second : w ≡ 2 → (r.whole ≡ get_or keys b.second 0) × (r.body ≡ get_or keys a.second 0) × (r.depth ≡ e)
  pub third : w ≡ 3 → (r.whole ≡ get_or keys b.third 0) × (r.body ≡ get_or keys a.third 0) × (r.depth ≡ d)
  pub none : (w ≡ 1 → ⊥) → (w ≡ 2 → ⊥) → (w ≡ 3 → ⊥) → (r.whole ≡ x) × (r.body ≡ j) × (r.depth ≡ d)

-- r is left of the question of keys x and j and index d, whatever the term
pub record Leaves (rd : Reader) (size x j d : ℕ) (r : Left) : Type 0 where
  pub asked : (t : ℕ) → fits rd x t j d ≡ fits rd r.whole t r.body r.depth
  pub whole : Normal rd size r.whole
  pub body : Normal rd size r.body
  pub room : r.depth + rank r.body ≤ d + rank j
  pub low : rank r.body ≤ rank j
  pub falls : (r.body ≡ j → ⊥) → rank r.body < rank j

-- The ways out of `is_record`.
pub key_sign : (key : ℕ) → RecordKey key false
key_sign key = record { low = λ e. absurd (false≢true e); high = λ e. absurd (false≢true e) }

pub key_plain : (key : ℕ) → 2 ≤ key → RecordKey key (ltb key 262144)
key_plain key h = record { low = λ e. h; high = λ e. ltb-true key 262144 e }

-- The ways out of `heads_agree`.
module _ (i : ℕ) (p : Record) (h : ℕ) (q : Record) where
  pub heads_differ : HeadsAgree i p h q false
  heads_differ = record { kinds = λ e. absurd (false≢true e); other = λ e. absurd (false≢true e); atoms = λ e. absurd (false≢true e) }

  pub heads_same : p.kind ≡ q.kind → (p.kind ≡ 9 → ⊥) → (a b : ℕ) → a ≡ atom_in i p → b ≡ atom_in h q → HeadsAgree i p h q (eqb a b)
  heads_same same other a b ea eb = record { kinds = λ e. same; other = λ e. other; atoms = λ e. sym ea ∙ eqb-true a b e ∙ eb }

  pub heads_true : (r : Bool) → HeadsAgree i p h q r → r ≡ true → HeadsAgree i p h q true
  heads_true r agree e = rw e at agree

-- a depth below a key that is not 0 does not wrap
pub depth_room : (j d : ℕ) → 0 < j → d + rank j < 18446744073709551616 → d < 18446744073709551615
unfolding rank negations_of body_of
depth_room j d p h = omega arith

-- The ways out of `depth_under`.
pub under_binder : (k d : ℕ) → k ≡ 19 → d + 1 ≡ d + binders k
unfolding binders
under_binder k d h = simp (binders, eq-eqb k 19 h)

pub under_other : (k d : ℕ) → (k ≡ 19 → ⊥) → d ≡ d + binders k
unfolding binders
under_other k d h = simp (binders, ne_eqb k 19 h) (omega arith)

binders_one : (k : ℕ) → binders k ≤ 1
unfolding binders
binders_one k = go (eqb k 19)
  where
    go : (b : Bool) → elim b as (λ x. ℕ) [ true ↦ 1 | false ↦ 0 ] ≤ 1
    go true = omega arith
    go false = omega arith

-- The ways out of `is_same`.
module _ (rd : Reader) (keys : List ℕ) (p q d : ℕ) where
  pub agree_no : Agree rd keys p q d false
  agree_no = record { holds = λ e. absurd (false≢true e) }

  pub agree_keys : (reaches : List ℕ) → Tables rd keys reaches → p < length keys → (r : ℕ) → r ≡ get_or reaches p 0 % 128 → r ≤ d → (a b : ℕ) →
      a ≡ get_or keys p 0 → b ≡ get_or keys q 0 → Agree rd keys p q d (eqb a b)
  unfolding fits
  agree_keys reaches tables inside r er low a b ea eb = record {
    holds = λ e t.
        let one : get_or keys q 0 ≡ get_or keys p 0 = sym eb ∙ sym (eqb-true a b e) ∙ ea in
        let means : decoded rd (get_or keys p 0) ≡ bare_tree rd p = (tables.table.keyed.holds p inside).stands.means in
        let far : r ≡ reach false (bare_tree rd p) = er ∙ tables.reached.holds p (omega (arith, tables.room)) in
        let closed : indices_below d (decoded rd (get_or keys p 0)) ≡ true = rw (means, indices_reach d (bare_tree rd p), ← far) (le-leb r d low) in
        rw (one, replaced_closed d (decoded rd t) (decoded rd (get_or keys p 0)) closed) (same_self (decoded rd (get_or keys p 0)));
  }

-- The ways out of `part_left`, by what is found of each part.
module _ (rd : Reader) (keys : List ℕ) (a b : Parts) (d e : ℕ) where
  pub alone_none : Alone rd keys a b d e 0
  alone_none = record { first = λ h. absurd (omega arith); second = λ h. absurd (omega arith); third = λ h. absurd (omega arith) }

  module _ (two : Bool) (agree-two : Agree rd keys a.second b.second e two) (three : Bool) (agree-three : Agree rd keys a.third b.third d three) where
    pub alone_first : two ≡ true → three ≡ true → Alone rd keys a b d e 1
    unfolding second_fits third_fits
    alone_first p q = record {
      first = λ h t. (agree-two.holds p t, agree-three.holds q t);
      second = λ h. absurd (omega arith);
      third = λ h. absurd (omega arith);
    }

    module _ (one : Bool) (agree-one : Agree rd keys a.first b.first d one) (o : not one ≡ false) where
      pub alone_third : two ≡ true → Alone rd keys a b d e 3
      unfolding first_fits second_fits
      alone_third p = record {
        first = λ h. absurd (omega arith);
        second = λ h. absurd (omega arith);
        third = λ h t. (agree-one.holds (not-false one o) t, agree-two.holds p t);
      }

      pub alone_second : three ≡ true → Alone rd keys a b d e 2
      unfolding first_fits third_fits
      alone_second p = record {
        first = λ h. absurd (omega arith);
        second = λ h t. (agree-one.holds (not-false one o) t, agree-three.holds p t);
        third = λ h. absurd (omega arith);
      }

-- The ways out of `left_at`.
module _ (keys : List ℕ) (a b : Parts) (d e x j w : ℕ) (y z : ℕ) where
  abbrev left : ℕ → Left
  left depth = record { whole = y; body = z; depth = depth }

  pub left_first : w ≡ 1 → y ≡ get_or keys b.first 0 → z ≡ get_or keys a.first 0 → LeftIs keys a b d e x j w (left d)
  left_first h ey ez = record {
    first = λ g. (ey, ez, refl);
    second = λ g. absurd (omega arith);
    third = λ g. absurd (omega arith);
    none = λ f g k. absurd (f h);
  }

  pub left_second : w ≡ 2 → y ≡ get_or keys b.second 0 → z ≡ get_or keys a.second 0 → LeftIs keys a b d e x j w (left e)
  left_second h ey ez = record {
    first = λ g. absurd (omega arith);
    second = λ g. (ey, ez, refl);
    third = λ g. absurd (omega arith);
    none = λ f g k. absurd (g h);
  }

  pub left_third : w ≡ 3 → y ≡ get_or keys b.third 0 → z ≡ get_or keys a.third 0 → LeftIs keys a b d e x j w (left d)
  left_third h ey ez = record {
    first = λ g. absurd (omega arith);
    second = λ g. absurd (omega arith);
    third = λ g. (ey, ez, refl);
    none = λ f g k. absurd (k h);
  }

pub left_all : (keys : List ℕ) (a b : Parts) (d e x j w : ℕ) → (w ≡ 1 → ⊥) → (w ≡ 2 → ⊥) → (w ≡ 3 → ⊥) →
    LeftIs keys a b d e x j w (record { whole = x; body = j; depth = d })
left_all keys a b d e x j w f g k = record {
  first = λ h. absurd (f h);
  second = λ h. absurd (g h);
  third = λ h. absurd (k h);
  none = λ f g k. (refl, refl, refl);
}

-- The ways out of `stepped`: nothing is done, or one record of each is passed.
pub leaves_all : (rd : Reader) (size x j d : ℕ) → Normal rd size x → Normal rd size j → Leaves rd size x j d (record { whole = x; body = j; depth = d })
leaves_all rd size x j d nx nj = record {
  asked = λ t. refl;
  whole = nx;
  body = nj;
  room = omega arith;
  low = omega arith;
  falls = λ h. absurd (h refl);
}

-- the parts of a record are among those that have keys
pub parts_inside : (rd : Reader) (size key : ℕ) (x : Record) (a : Parts) → Normal rd size key → 2 ≤ key → key < 262144 → PartsAre false (key - 1) x a → Inside size a
parts_inside rd size key x a n h l are =
    let own = record_in rd size key n h l in
    let part : (w : ℕ) → part_in false (key - 1) x w < key - 1 = (λ w. part_in_below false (key - 1) x w (omega arith)) in
    record {
      first_in = omega (arith, are.first_is, part 1);
      second_in = omega (arith, are.second_is, part 2);
      third_in = omega (arith, are.third_is, part 3);
    }

-- same heads of two nodes that are no variables
node_same : (d : ℕ) (t : Tree) (k a l b : ℕ) (x y z u v w : Tree) → k ≡ l → (k ≡ 9 → ⊥) → a ≡ b →
    same (node l b u v w) (replaced d t (node k a x y z)) ≡
    both (same u (replaced d t x)) (both (same v (replaced (d + binders k) t y)) (same w (replaced d t z)))
unfolding same same_head is_index both
node_same d t k a l b x y z u v w ek nine ea =
    rw (replaced_node d t k a x y z) (simp (is_index, ne_eqb k 9 nine) (heads (same_head l k b a) (simp (same_head, eq-eqb l k (sym ek), eq-eqb b a (sym ea)))))
  where
    heads : (s : Bool) → s ≡ true → elim s as (λ x. Bool) [ true ↦ both (same u (replaced d t x)) (both (same v (replaced (d + binders k) t y)) (same w (replaced d t z))) | false ↦ false ] ≡
        both (same u (replaced d t x)) (both (same v (replaced (d + binders k) t y)) (same w (replaced d t z)))
    heads s h = rw h refl

module _ (rd : Reader) (keys reaches : List ℕ) (x j d : ℕ) (tables : Tables rd keys reaches) (nx : Normal rd (length keys) x) (nj : Normal rd (length keys) j)
    (lx : 2 ≤ x) (hx : x < 262144) (lj : 2 ≤ j) (hj : j < 262144) (p q : Record) (ep : RecordIs rd (j - 1) p) (eq : RecordIs rd (x - 1) q)
    (heads : HeadsAgree (j - 1) p (x - 1) q true) (a b : Parts) (pa : PartsAre false (j - 1) p a) (pb : PartsAre false (x - 1) q b) (e : ℕ) (ee : e ≡ d + binders p.kind) where
  -- parts w of both trees, whose records are y and z
  body_part : (w z : ℕ) → 0 < w → w < 4 → z ≡ part_at rd false (j - 1) w → Part rd (length keys) j (get_or keys z 0) (part_of w (decoded rd j))
  unfolding part_entry
  body_part w z low high ez = record_part rd keys j w tables.table nj lj hj low high (j - 1) (get_or keys z 0) refl (rw ez refl)

  whole_part : (w y : ℕ) → 0 < w → w < 4 → y ≡ part_at rd false (x - 1) w → Part rd (length keys) x (get_or keys y 0) (part_of w (decoded rd x))
  unfolding part_entry
  whole_part w y low high ey = record_part rd keys x w tables.table nx lx hx low high (x - 1) (get_or keys y 0) refl (rw ey refl)

  first_body : a.first ≡ part_at rd false (j - 1) 1
  first_body = pa.first_is ∙ part_in_lem rd (j - 1) p ep false 1 (omega arith)

  second_body : a.second ≡ part_at rd false (j - 1) 2
  second_body = pa.second_is ∙ part_in_lem rd (j - 1) p ep false 2 (omega arith)

  third_body : a.third ≡ part_at rd false (j - 1) 3
  third_body = pa.third_is ∙ part_in_lem rd (j - 1) p ep false 3 (omega arith)

  first_whole : b.first ≡ part_at rd false (x - 1) 1
  first_whole = pb.first_is ∙ part_in_lem rd (x - 1) q eq false 1 (omega arith)

  second_whole : b.second ≡ part_at rd false (x - 1) 2
  second_whole = pb.second_is ∙ part_in_lem rd (x - 1) q eq false 2 (omega arith)

  third_whole : b.third ≡ part_at rd false (x - 1) 3
  third_whole = pb.third_is ∙ part_in_lem rd (x - 1) q eq false 3 (omega arith)

  -- the tree of a record's key
  key_tree : (z : ℕ) → z < length keys → bare_tree rd z ≡ decoded rd (get_or keys z 0)
  key_tree z h = sym (tables.table.keyed.holds z h).stands.means

  fits_parts : (t : ℕ) → fits rd x t j d ≡ both (first_fits rd keys a b d e t) (both (second_fits rd keys a b d e t) (third_fits rd keys a b d e t))
  unfolding fits first_fits second_fits third_fits
  fits_parts t =
      let ia = parts_inside rd (length keys) j p a nj lj hj pa in
      let ib = parts_inside rd (length keys) x q b nx lx hx pb in
      let kinds : rd (j - 1) 0 ≡ rd (x - 1) 0 = sym ep.kind_is ∙ heads.kinds refl ∙ eq.kind_is in
      let atoms : atom rd (j - 1) ≡ atom rd (x - 1) = sym (atom_in_lem rd (j - 1) p ep) ∙ heads.atoms refl ∙ atom_in_lem rd (x - 1) q eq in
      let under : d + binders (rd (j - 1) 0) ≡ e = ap (λ (k : ℕ). d + binders k) (sym ep.kind_is) ∙ sym ee in
      rw (as_node rd (length keys) j nj lj hj, as_node rd (length keys) x nx lx hx, ← first_body, ← second_body, ← third_body, ← first_whole, ← second_whole, ← third_whole)
      (node_same d (decoded rd t) _ _ _ _ _ _ _ _ _ _ kinds (λ h. heads.other refl (ep.kind_is ∙ h)) atoms
      ∙ rw (
        under,
        key_tree a.first ia.first_in,
        key_tree a.second ia.second_in,
        key_tree a.third ia.third_in,
        key_tree b.first ib.first_in,
        key_tree b.second ib.second_in,
        key_tree b.third ib.third_in,
      ) refl)

  -- what is left of two parts of depth e or d
  leaves_part : (r : Left) (w z y f : ℕ) → 0 < w → w < 4 → z ≡ part_at rd false (j - 1) w → y ≡ part_at rd false (x - 1) w → r.whole ≡ get_or keys y 0 →
      r.body ≡ get_or keys z 0 → r.depth ≡ f → f ≤ d + 1 → ((t : ℕ) → fits rd x t j d ≡ fits rd (get_or keys y 0) t (get_or keys z 0) f) → Leaves rd (length keys) x j d r
  leaves_part r w z y f low high ez ey ew eb ed hf asked =
      let pz = body_part w z low high ez in
      let py = whole_part w y low high ey in
      let less : rank (get_or keys z 0) < rank j = pz.falls (omega arith) in
      let fall : rank r.body < rank j = rw eb less in
      record {
        asked = λ t. asked t ∙ rw (ew, eb, ed) refl;
        whole = rw ew py.stands.normal;
        body = rw eb pz.stands.normal;
        room = omega (arith, ed, hf, fall);
        low = omega (arith, fall);
        falls = λ h. fall;
      }

  both_first : (s u v : Bool) → u ≡ true → v ≡ true → both s (both u v) ≡ s
  unfolding both
  both_first true u v eu ev = rw (eu, ev) refl
  both_first false u v eu ev = refl

  both_second : (s u v : Bool) → s ≡ true → v ≡ true → both s (both u v) ≡ u
  unfolding both
  both_second s true v es ev = rw (es, ev) refl
  both_second s false v es ev = rw es refl

  both_third : (s u v : Bool) → s ≡ true → u ≡ true → both s (both u v) ≡ v
  unfolding both
  both_third s u v es eu = rw (es, eu) refl

  pub leaves_made : (w : ℕ) (r : Left) → Alone rd keys a b d e w → LeftIs keys a b d e x j w r → Leaves rd (length keys) x j d r
  unfolding first_fits second_fits third_fits
  leaves_made w r alone is = one (eqb w 1) refl
    where
      three : (w ≡ 1 → ⊥) → (w ≡ 2 → ⊥) → (s : Bool) → eqb w 3 ≡ s → Leaves rd (length keys) x j d r
      three f g true h =
          let k = eqb-true w 3 h in
          let l = is.third k in
          leaves_part r 3 a.third b.third d (omega arith) (omega arith) third_body third_whole l.0 l.1 l.2 (omega arith)
          (λ t. let o = alone.third k t in fits_parts t ∙ both_third _ _ _ o.0 o.1)
      three f g false h =
          let l = is.none f g (eqb-false w 3 h) in
          record {
            asked = λ t. rw (l.0, l.1, l.2) refl;
            whole = rw l.0 nx;
            body = rw l.1 nj;
            room = rw (l.1, l.2) (omega arith);
            low = rw l.1 (omega arith);
            falls = λ n. absurd (n l.1);
          }

      two : (w ≡ 1 → ⊥) → (s : Bool) → eqb w 2 ≡ s → Leaves rd (length keys) x j d r
      two f true h =
          let k = eqb-true w 2 h in
          let l = is.second k in
          leaves_part r 2 a.second b.second e (omega arith) (omega arith) second_body second_whole l.0 l.1 l.2 (omega (arith, ee, binders_one p.kind))
          (λ t. let o = alone.second k t in fits_parts t ∙ both_second _ _ _ o.0 o.1)
      two f false h = three f (eqb-false w 2 h) (eqb w 3) refl

      one : (s : Bool) → eqb w 1 ≡ s → Leaves rd (length keys) x j d r
      one true h =
          let k = eqb-true w 1 h in
          let l = is.first k in
          leaves_part r 1 a.first b.first d (omega arith) (omega arith) first_body first_whole l.0 l.1 l.2 (omega arith)
          (λ t. let o = alone.first k t in fits_parts t ∙ both_first _ _ _ o.0 o.1)
      one false h = two (eqb-false w 1 h) (eqb w 2) refl

-- The loop of `follow`: what is left of what is left.
pub leaves_more : (rd : Reader) (size x j d : ℕ) (l r : Left) → Leaves rd size x j d l → Leaves rd size l.whole l.body l.depth r → Leaves rd size x j d r
leaves_more rd size x j d l r a b = record {
  asked = λ t. a.asked t ∙ b.asked t;
  whole = b.whole;
  body = b.body;
  room = omega (arith, a.room, b.room);
  low = omega (arith, a.low, b.low);
  falls = λ h. go (eqb l.body j) refl h;
}
  where
    go : (s : Bool) → eqb l.body j ≡ s → (r.body ≡ j → ⊥) → rank r.body < rank j
    go true e h = let same = eqb-true l.body j e in rw same at (b.falls (λ g. h (g ∙ same)))
    go false e h = let less = a.falls (eqb-false l.body j e) in omega (arith, less, b.low)
