-- Facts that were found about the trees of keys: a row of eight words has one on replacement and two on constants. They are about the file alone, so that
-- none is ever taken back; a row of zeros has facts about the empty tree, so that there is no empty row. Behind the rows stands a set of records that is closed
-- under parts: a constant that is not in it is in no tree of its records.
use Rattle.std.specs.Prelude.{ℕ, zero, suc, ◌+◌, ◌*◌, ◌-◌, ◌/◌, ◌%◌, ◌<◌, ◌≤◌, ◌≡◌, refl, List, Bool, true, not, eqb, length, get_or, set}
use Rattle.std.proofs.Math.Path.{sym}
use Rattle.std.proofs.Common.{◌∙◌, length-set, get_or-set_same, get_or-set_other, arith}
use Rattle.std.proofs.Math.Bool.{false}
use Rattle.std.proofs.lemmas.Bool.{false≢true}
use borrow.Author.Tests.{eqb-true, eqb-false, ne_eqb, not-true, not-false}
use Rattle.reader.specs.Words.{Reader}
use Rattle.reader.specs.Tests.{both, either}
use Rattle.reader.specs.Trees.{same}
use Rattle.reader.specs.TreeLaws.{below}
use Rattle.reader.specs.Variables.{replaced, occurs}
use Rattle.reader_equality.specs.Keys.{part_at, part_below}
use Rattle.reader_equality.specs.Tables.{Zeros}
use Rattle.derivation_rules.specs.Erase.{bare_tree}
use Rattle.derivation_trees.specs.Keys.{decoded}
use Rattle.derivation_trees.specs.Parts.{as_none}
use Rattle.derivation_marks.specs.Marks.{constant_at, part_marked, in_none, in_node, key_sign, key_record}
use Rattle.derivation_known.specs.Held.{held, held_none, held_same, SameRows, Puts, ClosedFrom}

-- the tree of key x is the tree of key j with the tree of key t in place of index d
unfoldable pub fits : Reader → ℕ → ℕ → ℕ → ℕ → Bool
fits rd x t j d = same (decoded rd x) (replaced d (decoded rd t) (decoded rd j))

-- constant c is in the tree of the key
unfoldable pub has : Reader → ℕ → ℕ → Bool
has rd c key = occurs c (decoded rd key)

-- the facts of every row of the table hold: the first four words, the fifth and the sixth, the last two
pub record Facts (rd : Reader) (known : List ℕ) : Type 0 where
  pub fitting : (i : ℕ) → i < 2048 → fits rd (get_or known (8 * i) 0) (get_or known (8 * i + 1) 0) (get_or known (8 * i + 2) 0) (get_or known (8 * i + 3) 0) ≡ true
  pub lacking : (i b : ℕ) → i < 2048 → b < 2 → has rd (get_or known (8 * i + 4 + 2 * b) 0) (get_or known (8 * i + 5 + 2 * b) 0) ≡ false

-- the facts of the table hold, and its set has the parts of its records
pub record Known (rd : Reader) (known : List ℕ) : Type 0 where
  pub facts : Facts rd known
  pub closed : ClosedFrom rd known 0

-- r says that the table has the fact, which then holds in every file whose facts the table has
pub record KnownFits (known : List ℕ) (x t j d : ℕ) (r : Bool) : Type 0 where
  pub holds : (rd : Reader) → Known rd known → r ≡ true → fits rd x t j d ≡ true

pub record KnownLacks (known : List ℕ) (c key : ℕ) (r : Bool) : Type 0 where
  pub holds : (rd : Reader) → Known rd known → r ≡ true → has rd c key ≡ false

-- a table with one fact more has facts of the file where that one is
pub record KeepsFits (before after : List ℕ) (x t j d : ℕ) : Type 0 where
  pub keeps : (rd : Reader) → Known rd before → fits rd x t j d ≡ true → Known rd after

pub record KeepsLacks (before after : List ℕ) (c key : ℕ) : Type 0 where
  pub keeps : (rd : Reader) → Known rd before → has rd c key ≡ false → Known rd after

-- a table of zeros has facts of every file
pub known_zeros : (rd : Reader) (known : List ℕ) → Zeros known → Known rd known
unfolding fits has same replaced occurs
known_zeros rd known z = record {
  facts = record {
    fitting = λ i p. rw (z.zeros (8 * i), z.zeros (8 * i + 1), z.zeros (8 * i + 2), z.zeros (8 * i + 3), as_none rd 0 refl) refl;
    lacking = λ i b p h. rw (z.zeros (8 * i + 4 + 2 * b), z.zeros (8 * i + 5 + 2 * b), as_none rd 0 refl) refl;
  };
  closed = record { parts = λ j low small h w p q. absurd (false≢true (sym (held_none known j (z.zeros (16384 + j / 64))) ∙ h)) };
}

-- the facts are those of the rows, and the set is that of the other words
pub facts_rows : (rd : Reader) (before after : List ℕ) → SameRows before after → Facts rd before → Facts rd after
facts_rows rd before after rows facts = record {
  fitting = λ i p.
      rw (rows.same (8 * i) (omega arith), rows.same (8 * i + 1) (omega arith), rows.same (8 * i + 2) (omega arith), rows.same (8 * i + 3) (omega arith)) (facts.fitting i p);
  lacking = λ i b p h. rw (rows.same (8 * i + 4 + 2 * b) (omega arith), rows.same (8 * i + 5 + 2 * b) (omega arith)) (facts.lacking i b p h);
}

pub facts_put : (rd : Reader) (known one two three : List ℕ) (p q r : ℕ) → Facts rd known → Puts known one p → Puts one two q → Puts two three r → Facts rd three
facts_put rd known one two three p q r facts a b c = facts_rows rd two three c.rows (facts_rows rd one two b.rows (facts_rows rd known one a.rows facts))

closed_rows : (rd : Reader) (before after : List ℕ) → ((k : ℕ) → 16384 ≤ k → get_or after k 0 ≡ get_or before k 0) → ClosedFrom rd before 0 → ClosedFrom rd after 0
closed_rows rd before after same closed = record { parts = λ j low small h w p q. sym (held_same before after same (part_at rd false j w)) ∙ closed.parts j low small (held_same before after same j ∙ h) w p q }

-- The ways out of `fits_known` and `lacks_known`: the words of the row are those asked for, or one is another.
pub fits_unknown : (known : List ℕ) (x t j d : ℕ) → KnownFits known x t j d false
fits_unknown known x t j d = record { holds = λ rd k e. absurd (false≢true e) }

pub fits_found : (known : List ℕ) (row x t j d a b c e : ℕ) → row < 2048 → a ≡ get_or known (8 * row) 0 → a ≡ x → b ≡ get_or known (8 * row + 1) 0 → b ≡ t →
    c ≡ get_or known (8 * row + 2) 0 → c ≡ j → e ≡ get_or known (8 * row + 3) 0 → KnownFits known x t j d (eqb e d)
fits_found known row x t j d a b c e low ea ex eb et ec ej ee = record {
  holds = λ rd k h. rw (← ex, ← et, ← ej, ← eqb-true e d h, ea, eb, ec, ee) (k.facts.fitting row low);
}

pub lacks_unknown : (known : List ℕ) (c key : ℕ) → KnownLacks known c key false
lacks_unknown known c key = record { holds = λ rd k e. absurd (false≢true e) }

pub lacks_found : (known : List ℕ) (row half c key a b : ℕ) → row < 2048 → half < 2 → a ≡ get_or known (8 * row + 4 + 2 * half) 0 → a ≡ c →
    b ≡ get_or known (8 * row + 4 + 2 * half + 1) 0 → KnownLacks known c key (eqb b key)
lacks_found known row half c key a b low h ea ec eb = record {
  holds = λ rd k e.
      let next : 8 * row + 4 + 2 * half + 1 ≡ 8 * row + 5 + 2 * half = omega arith in
      rw (← ec, ← eqb-true b key e, ea, eb, next) (k.facts.lacking row half low h);
}

-- A record of a closed set, which the constant is not in, has the constant in no part and is not the constant.
set_lacks : (rd : Reader) (known : List ℕ) (c : ℕ) → ClosedFrom rd known 0 → held known c ≡ false → (j : ℕ) → j < 262144 → held known j ≡ true →
    occurs c (bare_tree rd j) ≡ false
unfolding constant_at part_marked both either
set_lacks rd known c closed none = below (λ j. j < 262144 → held known j ≡ true → occurs c (bare_tree rd j) ≡ false) step
  where
    step : (j : ℕ) → ((k : ℕ) → k < j → k < 262144 → held known k ≡ true → occurs c (bare_tree rd k) ≡ false) → j < 262144 → held known j ≡ true → occurs c (bare_tree rd j) ≡ false
    step zero ih small h = sym (in_none rd c 0 refl)
    step (suc j) ih small h = sym (in_node rd c (suc j) (λ e. omega arith) false (simp (ne_eqb (suc j) c other, part 1 (omega arith) (omega arith), part 2 (omega arith) (omega arith), part 3 (omega arith) (omega arith))))
      where
        other : suc j ≡ c → ⊥
        other e = false≢true (sym none ∙ rw (← e) h)

        part : (w : ℕ) → 0 < w → w < 4 → occurs c (bare_tree rd (part_at rd false (suc j) w)) ≡ false
        part w p q =
            let less : part_at rd false (suc j) w < suc j = part_below rd false (suc j) w (omega arith) in
            ih (part_at rd false (suc j) w) less (omega arith) (closed.parts (suc j) (omega arith) small h w p q)

-- The ways out of `set_lacks`.
module _ (known : List ℕ) (c key b : ℕ) (eb : b ≡ key % 262144) where
  pub no_constant : b < 2 → KnownLacks known c key true
  unfolding has
  no_constant h = record { holds = λ rd k e. sym (key_sign rd c key b eb h) }

  pub held_lacks : 2 ≤ b → (t : Bool) → t ≡ held known (b - 1) → not t ≡ false → (s : Bool) → s ≡ held known c → KnownLacks known c key (not s)
  unfolding has
  held_lacks h t et given s es = record {
    holds = λ rd k e.
        sym (key_record rd c key b eb h false (sym (set_lacks rd known c k.closed (sym es ∙ not-true s e) (b - 1) (omega arith) (sym et ∙ not-false t given))));
  }

pub lacks_yes : (known : List ℕ) (c key : ℕ) (t : Bool) → KnownLacks known c key t → t ≡ true → KnownLacks known c key true
lacks_yes known c key t found h = rw h at found

-- The ways out of `keep_fits`: four words of a row are made anew.
module _ (known : List ℕ) (row at x t j d : ℕ) (low : row < 2048) (ea : at ≡ 8 * row) (room : at + 4 ≤ length known) where
  abbrev one : List ℕ
  one = set known at x

  abbrev two : List ℕ
  two = set one (at + 1) t

  abbrev three : List ℕ
  three = set two (at + 2) j

  abbrev four : List ℕ
  four = set three (at + 3) d

  fits_other : (k : ℕ) → (at ≤ k → k < at + 4 → ⊥) → get_or four k 0 ≡ get_or known k 0
  fits_other k h =
      get_or-set_other three (at + 3) k d 0 (λ e. h (omega arith) (omega arith)) ∙ get_or-set_other two (at + 2) k j 0 (λ e. h (omega arith) (omega arith)) ∙
      get_or-set_other one (at + 1) k t 0 (λ e. h (omega arith) (omega arith)) ∙ get_or-set_other known at k x 0 (λ e. h (omega arith) (omega arith))

  fits_words : (get_or four at 0 ≡ x) × (get_or four (at + 1) 0 ≡ t) × (get_or four (at + 2) 0 ≡ j) × (get_or four (at + 3) 0 ≡ d)
  fits_words = (
    get_or-set_other three (at + 3) at d 0 (λ e. omega arith) ∙ get_or-set_other two (at + 2) at j 0 (λ e. omega arith) ∙ get_or-set_other one (at + 1) at t 0 (λ e. omega arith) ∙
        get_or-set_same known at x 0 (omega arith),
    get_or-set_other three (at + 3) (at + 1) d 0 (λ e. omega arith) ∙ get_or-set_other two (at + 2) (at + 1) j 0 (λ e. omega arith) ∙
        get_or-set_same one (at + 1) t 0 (simp length-set (omega arith)),
    get_or-set_other three (at + 3) (at + 2) d 0 (λ e. omega arith) ∙ get_or-set_same two (at + 2) j 0 (simp length-set (omega arith)),
    get_or-set_same three (at + 3) d 0 (simp length-set (omega arith)),
  )

  pub fits_kept : KeepsFits known four x t j d
  fits_kept = record {
    keeps = λ rd k new. record {
      facts = record { fitting = λ i p. go rd k.facts new i p (eqb i row) refl; lacking = λ i b p h. kept rd k.facts i b p h };
      closed = closed_rows rd known four (λ i h. fits_other i (λ p q. omega arith)) k.closed;
    };
  }
    where
      kept : (rd : Reader) → Facts rd known → (i b : ℕ) → i < 2048 → b < 2 → has rd (get_or four (8 * i + 4 + 2 * b) 0) (get_or four (8 * i + 5 + 2 * b) 0) ≡ false
      kept rd k i b p h =
          rw (fits_other (8 * i + 4 + 2 * b) (λ p q. omega arith), fits_other (8 * i + 5 + 2 * b) (λ p q. omega arith)) (k.lacking i b p h)

      go : (rd : Reader) → Facts rd known → fits rd x t j d ≡ true → (i : ℕ) → i < 2048 → (s : Bool) → eqb i row ≡ s →
          fits rd (get_or four (8 * i) 0) (get_or four (8 * i + 1) 0) (get_or four (8 * i + 2) 0) (get_or four (8 * i + 3) 0) ≡ true
      go rd k new i r true e =
          let here : 8 * i ≡ at = omega (arith, eqb-true i row e) in
          let w = fits_words in
          rw (here, w.0, w.1, w.2, w.3) new
      go rd k new i r false e =
          let away = eqb-false i row e in
          rw (fits_other (8 * i) (λ p q. omega arith), fits_other (8 * i + 1) (λ p q. omega arith), fits_other (8 * i + 2) (λ p q. omega arith), fits_other (8 * i + 3) (λ p q. omega arith))
          (k.fitting i r)

pub fits_none : (known : List ℕ) (x t j d : ℕ) → KeepsFits known known x t j d
fits_none known x t j d = record { keeps = λ rd k new. k }

-- The ways out of `keep_lacks`: two words of a row are made anew.
module _ (known : List ℕ) (row b at c key : ℕ) (low : row < 2048) (ea : at ≡ 8 * row + 4 + 2 * b) (hb : b < 2) (room : at + 2 ≤ length known) where
  abbrev first : List ℕ
  first = set known at c

  abbrev second : List ℕ
  second = set first (at + 1) key

  lacks_other : (k : ℕ) → (at ≤ k → k < at + 2 → ⊥) → get_or second k 0 ≡ get_or known k 0
  lacks_other k h = get_or-set_other first (at + 1) k key 0 (λ e. h (omega arith) (omega arith)) ∙ get_or-set_other known at k c 0 (λ e. h (omega arith) (omega arith))

  lacks_words : (get_or second at 0 ≡ c) × (get_or second (at + 1) 0 ≡ key)
  lacks_words = (
    get_or-set_other first (at + 1) at key 0 (λ e. omega arith) ∙ get_or-set_same known at c 0 (omega arith),
    get_or-set_same first (at + 1) key 0 (simp length-set (omega arith)),
  )

  -- the words of facts on replacement are others, and so are those of other facts on constants
  lacks_apart : (i a : ℕ) → a < 4 → at ≤ 8 * i + a → 8 * i + a < at + 2 → ⊥
  lacks_apart i a h p q = let more : row < i = omega arith in omega arith

  lacks_even : (i a : ℕ) → (8 * i + 4 + 2 * a ≡ at → ⊥) → (n : ℕ) → n < 2 → at ≤ 8 * i + 4 + 2 * a + n → 8 * i + 4 + 2 * a + n < at + 2 → ⊥
  lacks_even i a away n h p q =
      let most : 4 * i + 2 + a ≤ 4 * row + 2 + b = omega arith in
      let least : 4 * row + 2 + b ≤ 4 * i + 2 + a = omega arith in
      away (omega arith)

  pub lacks_kept : KeepsLacks known second c key
  lacks_kept = record {
    keeps = λ rd k new. record {
      facts = record { fitting = λ i p. kept rd k.facts i p; lacking = λ i a p h. go rd k.facts new i a p h (eqb (8 * i + 4 + 2 * a) at) refl };
      closed = closed_rows rd known second (λ i h. lacks_other i (λ p q. omega arith)) k.closed;
    };
  }
    where
      kept : (rd : Reader) → Facts rd known → (i : ℕ) → i < 2048 → fits rd (get_or second (8 * i) 0) (get_or second (8 * i + 1) 0) (get_or second (8 * i + 2) 0) (get_or second (8 * i + 3) 0) ≡ true
      kept rd k i p =
          let same : (a : ℕ) → a < 4 → get_or second (8 * i + a) 0 ≡ get_or known (8 * i + a) 0 = (λ a h. lacks_other (8 * i + a) (lacks_apart i a h)) in
          rw (lacks_other (8 * i) (λ p q. lacks_apart i 0 (omega arith) (omega arith) (omega arith)), same 1 (omega arith), same 2 (omega arith), same 3 (omega arith)) (k.fitting i p)

      go : (rd : Reader) → Facts rd known → has rd c key ≡ false → (i a : ℕ) → i < 2048 → a < 2 → (s : Bool) → eqb (8 * i + 4 + 2 * a) at ≡ s →
          has rd (get_or second (8 * i + 4 + 2 * a) 0) (get_or second (8 * i + 5 + 2 * a) 0) ≡ false
      go rd k new i a r h true e =
          let here : 8 * i + 4 + 2 * a ≡ at = eqb-true (8 * i + 4 + 2 * a) at e in
          let next : 8 * i + 5 + 2 * a ≡ at + 1 = omega arith in
          let w = lacks_words in
          rw (here, next, w.0, w.1) new
      go rd k new i a r h false e =
          let away = eqb-false (8 * i + 4 + 2 * a) at e in
          rw (
            lacks_other (8 * i + 4 + 2 * a) (λ p q. lacks_even i a away 0 (omega arith) (omega arith) (omega arith)),
            lacks_other (8 * i + 5 + 2 * a)
                (λ p q. lacks_even i a away 1 (omega arith) (omega arith) (omega arith)),
          ) (k.lacking i a r h)

pub lacks_none : (known : List ℕ) (c key : ℕ) → KeepsLacks known known c key
lacks_none known c key = record { keeps = λ rd k new. k }
