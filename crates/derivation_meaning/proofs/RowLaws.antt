-- The tests of a row, all passed, as propositions; and a row's premises beside the nodes that derive them.
use Rattle.std.specs.Prelude.{ℕ, suc, ◌+◌, ◌≤◌, ◌≡◌, Bool, true, false, get_or, replicate}
use Rattle.std.proofs.Math.Path.{refl, ap}
use Rattle.std.proofs.Common.{◌∙◌, arith}
use mathlib.Core.List.{List, [], ◌∷◌}
use Rattle.std.proofs.lemmas.Bool.{false≢true}
use Rattle.std.proofs.Math.ListN.{length}
use borrow.Author.Tests.{eq-eqb, eqb-true, leb-true, le-leb}
use Rattle.reader.specs.Words.{Reader}
use Rattle.reader.specs.Tests.{every, if_true}
use Rattle.reader.specs.Kinds.{class, is_rule}
use Rattle.reader.specs.Trees.{Tree, kind_of, same}
use Rattle.reader.specs.Chains.{premises}
use Rattle.reader.specs.Variables.{indices_below}
use Rattle.reader.specs.Members.{member, premises_fit}
use Rattle.reader.specs.Shapes.{Shape, of_class, of_kind, has_shape, have_shapes}
use Rattle.reader.specs.Notions.{◌∈◌, here, there, Every, ◌⊆◌, NoIndex, Fresh}
use Rattle.reader.specs.TreeLaws.{same_equal, same_self}
use Rattle.reader.specs.WalkLaws.{Each}
use Rattle.reader_laws.specs.Scan.{both_parts, both_join, demand_parts, demand_join, every_head}
use Rattle.reader_laws.specs.NotionLaws.{every_0, every_more, every_in, every_out, member_in, member_out, indices_in, indices_out, fresh_in, fresh_out}
use Rattle.derivation_rules.specs.Erase.{bare_parts}
use Rattle.derivation_rules.specs.Rules.{State, Row}
use Rattle.derivation_rules.specs.Check.{goal_formed, needs_met, no_other, in_neither, few_members, depth_fits, row_fault}

pub record Passed (rd : Reader) (n : ℕ) (st : State) (r : Row) : Type 0 where
  pub shapes : have_shapes r.shapes (bare_parts rd n) ≡ true
  pub goal_shapes : goal_formed r.goal_shapes st.goal ≡ true
  pub number : length (premises rd n) ≡ length r.premises
  pub rules : every (λ x. is_rule 2 (rd x 0)) (premises rd n) ≡ true
  pub needs : r.needs ⊆ st.members
  pub others : r.only_goal ≡ true → Every (λ t. t ≡ st.goal) st.members
  pub fits : r.fits ≡ true
  pub fresh : Every (λ c. Fresh c (st.goal ∷ st.members)) r.fresh
  pub limit : Every (λ s. length s.members ≤ 2048) r.premises
  pub depth : st.depth ≤ 8192

-- "for BR1 another present"
others_in : (only : Bool) (st : State) → no_other only st ≡ true → only ≡ true → Every (λ t. t ≡ st.goal) st.members
unfolding no_other if_true
others_in true st h e = every_in (λ t. same t st.goal) (λ t. t ≡ st.goal) (λ t q. same_equal t st.goal q) st.members h
others_in false st h e = absurd (false≢true e)

others_out : (only : Bool) (st : State) → (only ≡ true → Every (λ t. t ≡ st.goal) st.members) → no_other only st ≡ true
unfolding no_other if_true
others_out true st h = every_out (λ t. same t st.goal) (λ t. t ≡ st.goal) (λ t q. rw q (same_self st.goal)) st.members (h refl)
others_out false st h = refl

module _ (rd : Reader) (n : ℕ) (st : State) (r : Row) where
  pub no_fault : row_fault rd n st r ≡ 0 → Passed rd n st r
  unfolding row_fault premises_fit needs_met in_neither few_members depth_fits
  no_fault h =
      let a = demand_parts _ 13 _ h refl in
      let b = demand_parts _ 13 _ a.1 refl in
      let c = demand_parts _ 13 _ b.1 refl in
      let d = demand_parts _ 14 _ c.1 refl in
      let e = demand_parts _ 14 _ d.1 refl in
      let f = demand_parts _ 15 _ e.1 refl in
      let g = demand_parts _ 16 _ f.1 refl in
      let i = demand_parts _ 17 _ g.1 refl in
      let j = demand_parts _ 18 _ i.1 refl in
      let p = both_parts _ _ c.0 in
      record {
        shapes = a.0;
        goal_shapes = b.0;
        number = eqb-true _ _ p.0;
        rules = p.1;
        needs = every_in (λ t. member t st.members) (λ t. t ∈ st.members) (λ t. member_in t st.members) r.needs d.0;
        others = others_in r.only_goal st e.0;
        fits = f.0;
        fresh = every_in (in_neither st) (λ c. Fresh c (st.goal ∷ st.members)) (λ c. fresh_in c (st.goal ∷ st.members)) r.fresh g.0;
        limit = every_in few_members (λ s. length s.members ≤ 2048) (λ s. leb-true (length s.members) 2048) r.premises i.0;
        depth = leb-true st.depth 8192 j.0;
      }

  pub faultless : Passed rd n st r → row_fault rd n st r ≡ 0
  unfolding row_fault premises_fit needs_met in_neither few_members depth_fits
  faultless p =
      demand_join _ 13 _ p.shapes
      (demand_join _ 13 _ p.goal_shapes
      (demand_join _ 13 _ (both_join _ _ (eq-eqb _ _ p.number) p.rules)
      (demand_join _ 14 _ (every_out (λ t. member t st.members) (λ t. t ∈ st.members) (λ t. member_out t st.members) r.needs p.needs)
      (demand_join _ 14 _ (others_out r.only_goal st p.others)
      (demand_join _ 15 _ p.fits
      (demand_join _ 16 _ (every_out (in_neither st) (λ c. Fresh c (st.goal ∷ st.members)) (λ c. fresh_out c (st.goal ∷ st.members)) r.fresh p.fresh)
      (demand_join _ 17 _ (every_out few_members (λ s. length s.members ≤ 2048) (λ s. le-leb (length s.members) 2048) r.premises p.limit)
      (demand_join _ 18 0 (le-leb st.depth 8192 p.depth) refl))))))))

-- Shapes.

pub of_class_lem : (c : ℕ) (t : Tree) → has_shape (of_class c) t ≡ true → class (kind_of t) ≡ c
unfolding has_shape
of_class_lem c t h = eqb-true _ _ h

pub has_class_lem : (c : ℕ) (t : Tree) → class (kind_of t) ≡ c → has_shape (of_class c) t ≡ true
unfolding has_shape
has_class_lem c t h = eq-eqb _ _ h

pub of_kind_lem : (k : ℕ) (t : Tree) → has_shape (of_kind k) t ≡ true → kind_of t ≡ k
unfolding has_shape
of_kind_lem k t h = eqb-true _ _ h

-- the first of two or more
shapes_head : (s : Shape) (t : Tree) (ss : List Shape) (ts : List Tree) → have_shapes (s ∷ ss) (t ∷ ts) ≡ true →
    (has_shape s t ≡ true) × (have_shapes ss ts ≡ true)
unfolding have_shapes
shapes_head s t ss ts h = go (has_shape s t) refl
  where
    go : (b : Bool) → has_shape s t ≡ b → (has_shape s t ≡ true) × (have_shapes ss ts ≡ true)
    go true e = (e, simp (have_shapes, e) at h)
    go false e = absurd (false≢true (simp (have_shapes, e) at h))

pub shapes_0 : (ts : List Tree) → have_shapes [] ts ≡ true → ts ≡ []
unfolding have_shapes
shapes_0 [] h = refl
shapes_0 (t ∷ ts) h = absurd (false≢true h)

pub shapes_1 : (s : Shape) (ts : List Tree) → have_shapes (s ∷ []) ts ≡ true → (t : Tree) × (ts ≡ t ∷ []) × (has_shape s t ≡ true)
unfolding have_shapes
shapes_1 s [] h = absurd (false≢true h)
shapes_1 s (t ∷ ts) h = let p = shapes_head s t [] ts h in (t, ap (λ (us : List Tree). t ∷ us) (shapes_0 ts p.1), p.0)

pub shapes_2 : (s r : Shape) (ts : List Tree) → have_shapes (s ∷ r ∷ []) ts ≡ true →
    (t : Tree) × (u : Tree) × (ts ≡ t ∷ u ∷ []) × (has_shape s t ≡ true) × (has_shape r u ≡ true)
unfolding have_shapes
shapes_2 s r [] h = absurd (false≢true h)
shapes_2 s r (t ∷ ts) h =
    let p = shapes_head s t (r ∷ []) ts h in
    let q = shapes_1 r ts p.1 in
    (t, q.0, ap (λ (us : List Tree). t ∷ us) q.1, p.0, q.2)

pub shapes_3 : (s r q : Shape) (ts : List Tree) → have_shapes (s ∷ r ∷ q ∷ []) ts ≡ true →
    (t : Tree) × (u : Tree) × (v : Tree) × (ts ≡ t ∷ u ∷ v ∷ []) × (has_shape s t ≡ true) × (has_shape r u ≡ true) × (has_shape q v ≡ true)
unfolding have_shapes
shapes_3 s r q [] h = absurd (false≢true h)
shapes_3 s r q (t ∷ ts) h =
    let p = shapes_head s t (r ∷ q ∷ []) ts h in
    let o = shapes_2 r q ts p.1 in
    (t, o.0, o.1, ap (λ (us : List Tree). t ∷ us) o.2, p.0, o.3, o.4)

-- all of one shape
pub shapes_all : (s : Shape) (ts : List Tree) → have_shapes (replicate (length ts) s) ts ≡ true → Every (λ t. has_shape s t ≡ true) ts
shapes_all s [] h = every_0 (λ t. has_shape s t ≡ true)
shapes_all s (t ∷ ts) h =
    let p = shapes_head s t (replicate (length ts) s) ts h in every_more (λ t. has_shape s t ≡ true) t ts p.0 (shapes_all s ts p.1)

pub shapes_join : (s : Shape) (t : Tree) (ss : List Shape) (ts : List Tree) → has_shape s t ≡ true → have_shapes ss ts ≡ true →
    have_shapes (s ∷ ss) (t ∷ ts) ≡ true
unfolding have_shapes
shapes_join s t ss ts p q = simp (have_shapes, p) q

pub all_shapes : (s : Shape) (ts : List Tree) → Every (λ t. has_shape s t ≡ true) ts → have_shapes (replicate (length ts) s) ts ≡ true
unfolding have_shapes
all_shapes s [] h = refl
all_shapes s (t ∷ ts) h = shapes_join s t (replicate (length ts) s) ts (h t (here refl)) (all_shapes s ts (λ u m. h u (there m)))

-- the goal's form
pub goal_in : (s : Shape) (t : Tree) → goal_formed (s ∷ []) t ≡ true → has_shape s t ≡ true
unfolding goal_formed
goal_in s t h = (every_head (λ s. has_shape s t) s [] h).0

-- closed parts
pub closed_in : (ts : List Tree) → every (indices_below 0) ts ≡ true → Every NoIndex ts
closed_in ts h = every_in (indices_below 0) NoIndex (indices_in 0) ts h

pub closed_out : (ts : List Tree) → Every NoIndex ts → every (indices_below 0) ts ≡ true
closed_out ts h = every_out (indices_below 0) NoIndex (λ t. indices_out) ts h

-- Premises.

-- Of the nodes xs, each has Q of the state beside it; their nodes are k in all.
unfoldable pub Premises : (State → ℕ → ℕ → Type 0) → List State → List ℕ → ℕ → Type 0
Premises Q [] [] k = k ≡ 0
Premises Q [] (x ∷ xs) k = ⊥
Premises Q (s ∷ ss) [] k = ⊥
Premises Q (s ∷ ss) (x ∷ xs) k = (i : ℕ) × (j : ℕ) × Q s x i × Premises Q ss xs j × (k ≡ i + j)

module _ (Q : State → ℕ → ℕ → Type 0) where
  pub premises_0 : (xs : List ℕ) (k : ℕ) → Premises Q [] xs k → (xs ≡ []) × (k ≡ 0)
  unfolding Premises
  premises_0 [] k h = (refl, h)
  premises_0 (x ∷ xs) k h = absurd h

  pub premises_1 : (s : State) (xs : List ℕ) (k : ℕ) → Premises Q (s ∷ []) xs k → (x : ℕ) × (xs ≡ x ∷ []) × Q s x k
  unfolding Premises
  premises_1 s [] k h = absurd h
  premises_1 s (x ∷ xs) k h =
      let p = premises_0 xs h.1 h.3 in
      let z : k ≡ h.0 = omega (arith, h.4, p.1) in
      (x, ap (λ (ys : List ℕ). x ∷ ys) p.0, rw z h.2)

  pub premises_2 : (s t : State) (xs : List ℕ) (k : ℕ) → Premises Q (s ∷ t ∷ []) xs k →
      (x : ℕ) × (y : ℕ) × (i : ℕ) × (j : ℕ) × (xs ≡ x ∷ y ∷ []) × Q s x i × Q t y j × (k ≡ i + j)
  unfolding Premises
  premises_2 s t [] k h = absurd h
  premises_2 s t (x ∷ xs) k h =
      let p = premises_1 t xs h.1 h.3 in
      (x, p.0, h.0, h.1, ap (λ (ys : List ℕ). x ∷ ys) p.1, h.2, p.2, h.4)

  pub none_premises : Premises Q [] [] 0
  unfolding Premises
  none_premises = refl

  pub one_premise : (s : State) (x k : ℕ) → Q s x k → Premises Q (s ∷ []) (x ∷ []) k
  unfolding Premises
  one_premise s x k q = (k, 0, q, refl, omega arith)

  pub two_premises : (s t : State) (x y i j : ℕ) → Q s x i → Q t y j → Premises Q (s ∷ t ∷ []) (x ∷ y ∷ []) (i + j)
  unfolding Premises
  two_premises s t x y i j p q = (i, j, p, (j, 0, q, refl, omega arith), refl)

  -- premises by their number, as the walk has them, and as a list
  module _ (next : State → ℕ → ℕ → State) (st : State) (n : ℕ) where
    head_state : (s : State) (ss : List State) (b : ℕ) → ((j : ℕ) → next st n (b + j) ≡ get_or (s ∷ ss) j st) → next st n b ≡ s
    head_state s ss b h = let z : b ≡ b + 0 = omega arith in ap (next st n) z ∙ h 0

    later_state : (s : State) (ss : List State) (b : ℕ) → ((j : ℕ) → next st n (b + j) ≡ get_or (s ∷ ss) j st) →
        (j : ℕ) → next st n (b + 1 + j) ≡ get_or ss j st
    later_state s ss b h j = let z : b + 1 + j ≡ b + suc j = omega arith in ap (next st n) z ∙ h (suc j)

    pub each_premise : (ss : List State) (xs : List ℕ) (b k : ℕ) → length xs ≡ length ss → ((j : ℕ) → next st n (b + j) ≡ get_or ss j st) →
        Each Q next st n b xs k → Premises Q ss xs k
    unfolding Premises Each
    each_premise [] [] b k e h p = p
    each_premise [] (x ∷ xs) b k e h p = absurd (omega arith)
    each_premise (s ∷ ss) [] b k e h p = absurd (omega arith)
    each_premise (s ∷ ss) (x ∷ xs) b k e h p =
        (p.0, p.1, rw (head_state s ss b h) at p.2, each_premise ss xs (b + 1) p.1 (omega arith) (later_state s ss b h) p.3, p.4)

    pub premise_each : (ss : List State) (xs : List ℕ) (b k : ℕ) → ((j : ℕ) → next st n (b + j) ≡ get_or ss j st) →
        Premises Q ss xs k → Each Q next st n b xs k
    unfolding Premises Each
    premise_each [] [] b k h p = p
    premise_each [] (x ∷ xs) b k h p = absurd p
    premise_each (s ∷ ss) [] b k h p = absurd p
    premise_each (s ∷ ss) (x ∷ xs) b k h p =
        (p.0, p.1, rw (head_state s ss b h) p.2, premise_each ss xs (b + 1) p.1 (later_state s ss b h) p.3, p.4)
