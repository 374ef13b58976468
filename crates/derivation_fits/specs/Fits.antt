-- Letters that stand for one thing are equal, replacement, closedness, and the ways out of the code that tests them.
use Rattle.std.specs.Prelude.{ℕ, zero, suc, ◌<◌, ◌≤◌, ◌≡◌, refl, Bool, eqb, ltb}
use Rattle.std.proofs.Common.{sym, ◌∙◌, arith, ltb-true, ltb-false}
use Rattle.std.proofs.Math.Path.{ap}
use mathlib.Core.List.{List, [], ◌∷◌}
use Rattle.std.proofs.Math.Bool.{true, false}
use Rattle.std.proofs.Math.ListN.{drop}
use Rattle.reader.specs.Words.{Reader}
use Rattle.reader.specs.Tests.{both, every, if_eq, if_lt}
use Rattle.reader.specs.TestLaws.{eq_yes, eq_no, lt_yes, lt_no}
use Rattle.reader.specs.Trees.{Tree, lower, same}
use Rattle.reader.specs.Chains.{parts}
use Rattle.reader.specs.TreeLaws.{items_zero, items_step}
use Rattle.reader.specs.Variables.{replaced, indices_below}
use Rattle.reader_chains.specs.Shapes.{lower_zero}
use Rattle.derivation_rules.specs.Erase.{bare_tree, bare_parts}
use Rattle.derivation_rules.specs.Rules.{State, Row, row, indices_closed}
use Rattle.derivation_trees.specs.Keys.{decoded, key_same}
use Rattle.derivation_trees.specs.Table.{KeyOf}
use Rattle.derivation_rules.specs.RowLaws.{row_none, by_rule}
use Rattle.derivation_frames.specs.Frames.{chain_trees}
use Rattle.derivation_tables.specs.Tables.{column, source_tree, step_tree, form_tree}
use Rattle.derivation_forms.specs.Forms.{Formed, lower_most}

-- a tree is closed
unfoldable pub is_closed : Tree → Bool
is_closed t = indices_below 0 t

-- what forms a and b name is equal
unfoldable pub equal_forms : List Tree → Tree → ℕ → ℕ → Bool
equal_forms ps goal a b = same (form_tree ps goal a) (form_tree ps goal b)

-- what form x names is what form j names, with what form t names in place of index 0
unfoldable pub replaced_forms : List Tree → Tree → ℕ → ℕ → ℕ → Bool
replaced_forms ps goal x t j = same (form_tree ps goal x) (replaced 0 (form_tree ps goal t) (form_tree ps goal j))

-- R9: "B is open in index 0 at most"
unfoldable pub equality_fits : List Tree → Tree → Bool
equality_fits ps goal =
    both (indices_below 1 (form_tree ps goal 8)) (both (every is_closed (drop 1 ps)) (both (replaced_forms ps goal 16 13 8) (replaced_forms ps goal 4 14 8)))

-- what rule k asks beside closed parts
unfoldable pub letters_fit : ℕ → List Tree → Tree → Bool
letters_fit k ps goal =
    if_eq (column k 8) 0 (if_eq (column k 10) 0 true (replaced_forms ps goal (column k 10) (column k 11) (column k 12)))
    (equal_forms ps goal (column k 8) (column k 9))

unfoldable pub parts_fit : ℕ → List Tree → Tree → Bool
parts_fit k ps goal = if_eq k 79 (equality_fits ps goal) (both (every is_closed ps) (letters_fit k ps goal))

-- the same of node n; no rule fits nothing
unfoldable pub node_fits : Reader → Tree → ℕ → Bool
node_fits rd goal n = if_lt (rd n 0) 64 false (if_lt 80 (rd n 0) false (parts_fit (rd n 0) (bare_parts rd n) goal))

closed_every : (ps : List Tree) → every is_closed ps ≡ indices_closed ps
unfolding every is_closed
closed_every [] = refl
closed_every (p ∷ ps) = ap (λ (b : Bool). elim (indices_below 0 p) as (λ x. Bool) [ true ↦ b | false ↦ false ]) (closed_every ps)

with_true : (ps : List Tree) → indices_closed ps ≡ both (every is_closed ps) true
unfolding both
with_true ps = rw (closed_every ps) (go (indices_closed ps))
  where
    go : (b : Bool) → b ≡ both b true
    go true = refl
    go false = refl

with_more : (ps : List Tree) (b : Bool) → both (indices_closed ps) b ≡ both (every is_closed ps) b
with_more ps b = rw (closed_every ps) refl

-- the rows say the same
fits_rule : (ps : List Tree) (st : State) (k : ℕ) → 64 ≤ k → k ≤ 80 → (row k ps st).fits ≡ parts_fit k ps st.goal
unfolding row if_eq if_lt column parts_fit letters_fit equality_fits equal_forms replaced_forms form_tree step_tree source_tree
fits_rule ps st =
    by_rule (λ k. 64 ≤ k → k ≤ 80 → (row k ps st).fits ≡ parts_fit k ps st.goal)
    (λ a b. with_true ps) (λ a b. with_true ps) (λ a b. with_true ps) (λ a b. with_true ps) (λ a b. with_true ps)
    (λ a b. with_more ps _)
    (λ a b. with_true ps)
    (λ a b. with_more ps _) (λ a b. with_more ps _)
    (λ a b. with_true ps)
    (λ a b. with_more ps _)
    (λ a b. with_true ps) (λ a b. with_true ps)
    (λ a b. with_more ps _) (λ a b. with_more ps _)
    (λ a b. ap (λ (x : Bool). both (indices_below 1 (form_tree ps st.goal 8)) (both x (both (replaced_forms ps st.goal 16 13 8) (replaced_forms ps st.goal 4 14 8)))) (sym (closed_every (drop 1 ps))))
    (λ a b. with_more ps _)
    (λ k other a b. absurd (other k a b refl))

pub node_fits_lem : (rd : Reader) (n : ℕ) (st : State) → node_fits rd st.goal n ≡ (row (rd n 0) (bare_parts rd n) st).fits
unfolding node_fits
node_fits_lem rd n st = go (rd n 0) (bare_parts rd n) (ltb (rd n 0) 64) refl (ltb 80 (rd n 0)) refl
  where
    go : (k : ℕ) (ps : List Tree) (a : Bool) → ltb k 64 ≡ a → (b : Bool) → ltb 80 k ≡ b →
        if_lt k 64 false (if_lt 80 k false (parts_fit k ps st.goal)) ≡ (row k ps st).fits
    go k ps true e b f =
        let low : k < 64 = ltb-true k 64 e in
        sym (lt_yes k 64 _ _ (row k ps st).fits low (ap (λ (r : Row). r.fits) (row_none k ps st (λ j p q z. omega arith))))
    go k ps false e true f =
        let low : 64 ≤ k = ltb-false k 64 e in
        let high : 80 < k = ltb-true 80 k f in
        sym (lt_no k 64 _ _ (row k ps st).fits low
        (lt_yes 80 k _ _ (row k ps st).fits high (ap (λ (r : Row). r.fits) (row_none k ps st (λ j p q z. omega arith)))))
    go k ps false e false f =
        let low : 64 ≤ k = ltb-false k 64 e in
        let high : k ≤ 80 = ltb-false 80 k f in
        sym (lt_no k 64 _ _ (row k ps st).fits low (lt_no 80 k _ _ (row k ps st).fits high (fits_rule ps st k low high)))

-- The ways out of the code. A test made on a key is made on its tree.
pub closed_key : (rd : Reader) (size x item : ℕ) (r : Bool) → KeyOf rd size x (bare_tree rd item) → r ≡ indices_below 0 (decoded rd x) → r ≡ is_closed (bare_tree rd item)
unfolding is_closed
closed_key rd size x item r k e = rw (← k.stands.means) e

pub forms_equal : (rd : Reader) (size goal more u v : ℕ) (ps : List Tree) (t : Tree) (a b : ℕ) → Formed rd size goal more u (form_tree ps t a) → Formed rd size goal more v (form_tree ps t b) →
    eqb u v ≡ equal_forms ps t a b
unfolding equal_forms
forms_equal rd size goal more u v ps t a b p q =
    rw (← p.stands.means, ← q.stands.means) (key_same rd size u v p.stands.normal q.stands.normal)

pub forms_replaced : (rd : Reader) (size goal more u v w : ℕ) (ps : List Tree) (s : Tree) (x t j : ℕ) (r : Bool) →
    Formed rd size goal more u (form_tree ps s x) → Formed rd size goal more v (form_tree ps s t) → Formed rd size goal more w (form_tree ps s j) →
    r ≡ same (decoded rd u) (replaced 0 (decoded rd v) (decoded rd w)) → r ≡ replaced_forms ps s x t j
unfolding replaced_forms
forms_replaced rd size goal more u v w ps s x t j r p q z e =
    rw (← p.stands.means, ← q.stands.means, ← z.stands.means) e

parts_chain : (rd : Reader) (n c : ℕ) → c ≡ lower rd n 1 → bare_parts rd n ≡ chain_trees rd c
unfolding bare_parts parts chain_trees
parts_chain rd n c e = rw (← e) refl

rest_chain : (rd : Reader) (c : ℕ) → drop 1 (chain_trees rd c) ≡ chain_trees rd (lower rd c 3)
unfolding chain_trees
rest_chain rd zero = rw (lower_zero rd 3, items_zero rd) refl
rest_chain rd (suc c) = rw (items_step rd (suc c) (omega arith)) refl

-- `equality_fits`
module _ (rd : Reader) (n c rest : ℕ) (ec : c ≡ lower rd n 1) (er : rest ≡ lower rd c 3) (size goal more key : ℕ) (t : Tree)
    (body : Formed rd size goal more key (form_tree (bare_parts rd n) t 8)) where
  pub equality_parts : (r : Bool) → r ≡ both (indices_below 1 (decoded rd key))
      (both (every is_closed (chain_trees rd rest)) (both (replaced_forms (bare_parts rd n) t 16 13 8) (replaced_forms (bare_parts rd n) t 4 14 8))) →
      r ≡ equality_fits (bare_parts rd n) t
  unfolding equality_fits
  equality_parts r e =
      let tail : drop 1 (bare_parts rd n) ≡ chain_trees rd rest = ap (drop 1) (parts_chain rd n c ec) ∙ rest_chain rd c ∙ ap (chain_trees rd) (sym er) in
      rw (tail, ← body.stands.means) e

pub rest_below : (rd : Reader) (n c rest size : ℕ) → c ≡ lower rd n 1 → rest ≡ lower rd c 3 → n < size → rest < size
rest_below rd n c rest size ec er p = omega (arith, lower_most rd n 1, lower_most rd c 3)

-- `letters_fit`
module _ (k : ℕ) (ps : List Tree) (t : Tree) (a : ℕ) (ea : a ≡ column k 8) where
  pub letters_equal : (a ≡ 0 → ⊥) → (b : ℕ) (r : Bool) → b ≡ column k 9 → r ≡ equal_forms ps t a b → r ≡ letters_fit k ps t
  unfolding letters_fit
  letters_equal h b r eb e = rw (← ea, ← eb) (eq_no a 0 _ _ r h e)

  module _ (none : a ≡ 0) (x : ℕ) (ex : x ≡ column k 10) where
    pub letters_none : x ≡ 0 → true ≡ letters_fit k ps t
    unfolding letters_fit
    letters_none h = rw (← ea, ← ex) (eq_yes a 0 _ _ true none (eq_yes x 0 _ _ true h refl))

    pub letters_replaced : (x ≡ 0 → ⊥) → (y z : ℕ) (r : Bool) → y ≡ column k 11 → z ≡ column k 12 → r ≡ replaced_forms ps t x y z → r ≡ letters_fit k ps t
    unfolding letters_fit
    letters_replaced h y z r ey ez e = rw (← ea, ← ex, ← ey, ← ez) (eq_yes a 0 _ _ r none (eq_no x 0 _ _ r h e))

-- `fits`
module _ (rd : Reader) (goal : Tree) (n k : ℕ) (ek : k ≡ rd n 0) where
  pub fits_low : k < 64 → false ≡ node_fits rd goal n
  unfolding node_fits
  fits_low h = rw (← ek) (lt_yes k 64 _ _ false h refl)

  module _ (low : 64 ≤ k) where
    pub fits_high : 80 < k → false ≡ node_fits rd goal n
    unfolding node_fits
    fits_high h = rw (← ek) (lt_no k 64 _ _ false low (lt_yes 80 k _ _ false h refl))

    module _ (high : k ≤ 80) where
      pub fits_equality : k ≡ 79 → (r : Bool) → r ≡ equality_fits (bare_parts rd n) goal → r ≡ node_fits rd goal n
      unfolding node_fits parts_fit
      fits_equality h r e = rw (← ek) (lt_no k 64 _ _ r low (lt_no 80 k _ _ r high (eq_yes k 79 _ _ r h e)))

      pub fits_other : (k ≡ 79 → ⊥) → (c : ℕ) (r : Bool) → c ≡ lower rd n 1 → r ≡ both (every is_closed (chain_trees rd c)) (letters_fit k (bare_parts rd n) goal) → r ≡ node_fits rd goal n
      unfolding node_fits parts_fit
      fits_other h c r ec e =
          rw (← ek) (lt_no k 64 _ _ r low (lt_no 80 k _ _ r high (eq_no k 79 _ _ r h e')))
        where
          e' : r ≡ both (every is_closed (bare_parts rd n)) (letters_fit k (bare_parts rd n) goal)
          e' = e ∙ ap (λ (ts : List Tree). both (every is_closed ts) (letters_fit k (bare_parts rd n) goal)) (sym (parts_chain rd n c ec))
