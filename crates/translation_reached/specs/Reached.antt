-- Every rule node of an accepted proof is reached from the root, so it proves some sequent. The check walks only from the root; but every rule node is the
-- root or a premise of a larger rule node, and a premise of a node that proves a sequent proves one itself.
use Rattle.std.specs.Prelude.{ℕ, zero, suc, ◌+◌, ◌<◌, ◌≤◌, ◌≡◌, refl, List, [], ◌∷◌, Bool, true, false, ◌⊎◌, eqb}
use Rattle.std.proofs.Common.{subst, ap, inl, inr, arith, eqb-true}
use Rattle.std.proofs.lemmas.Bool.{eqb-false}
use Rattle.reader.specs.Words.{Reader}
use Rattle.reader.specs.Tests.{if_eq, between, if_lt}
use Rattle.reader.specs.Kinds.{is_rule}
use Rattle.reader.specs.Trees.{Tree, lower}
use Rattle.reader.specs.Chains.{items, premises}
use Rattle.reader.specs.TreeLaws.{below, lower_below, items_zero, items_step}
use Rattle.reader.specs.Places.{root_of, times_in, namings}
use Rattle.reader_laws.specs.Scan.{when_different}
use Rattle.reader_laws.specs.Agree.{lower_most}
use Rattle.reader_laws.specs.File.{beside, last_of, ReadObligation, ReadSecond}
use Rattle.reader_laws.specs.Pair.{rule_once}
use Rattle.reader_laws.specs.Named.{NamedBy, names_rule, namer_rule, root_or_named}
use Rattle.proof_meaning.specs.Proves.{ProofNode, Proves}
use Rattle.proof_meaning.specs.Statements.{RootProves}

-- node i proves some sequent, by some number of nodes
abbrev pub ProvesSome : Reader → ℕ → Type 0
ProvesSome rd i = (Γ : List Tree) × (j : ℕ) × Proves rd Γ i j

-- What a list names.

-- the empty list names nothing
names_none : {A : Type 0} (i : ℕ) → 0 < times_in i [] → A
unfolding times_in
names_none i h = absurd (omega arith)

-- what a list names is its first element, or the rest of the list names it
names_more : {A : Type 0} (i x : ℕ) (xs : List ℕ) → 0 < times_in i (x ∷ xs) → (x ≡ i → A) → (0 < times_in i xs → A) → A
unfolding times_in
names_more {A} i x xs h first later = go (eqb x i) refl
  where
    go : (b : Bool) → eqb x i ≡ b → A
    go true e = first (eqb-true x i e)
    go false e = let other : if_eq {A = ℕ} x i 1 0 ≡ 0 = when_different 1 0 x i (eqb-false x i e) in later (omega arith)

-- A premise is smaller than its node.

-- the items of a chain are smaller than its first link
item_below : (rd : Reader) (i c : ℕ) → 0 < times_in i (items rd c) → i < c
item_below rd i = below (λ c. 0 < times_in i (items rd c) → i < c) step
  where
    step : (c : ℕ) → ((j : ℕ) → j < c → 0 < times_in i (items rd j) → i < j) → 0 < times_in i (items rd c) → i < c
    step zero f h = names_none i (rw (items_zero rd) at h)
    step (suc c) f h =
        let item : lower rd (suc c) 1 < suc c = lower_below rd (suc c) 1 (omega arith) in
        let next : lower rd (suc c) 3 < suc c = lower_below rd (suc c) 3 (omega arith) in
        names_more i (lower rd (suc c) 1) (items rd (lower rd (suc c) 3)) (rw (items_step rd (suc c) (omega arith)) at h)
        (λ e. omega arith)
        (λ later. let less : i < lower rd (suc c) 3 = f (lower rd (suc c) 3) next later in omega arith)

pub premise_below : (rd : Reader) (n i : ℕ) → 0 < times_in i (premises rd n) → i < n
unfolding premises
premise_below rd n i h =
    let most : lower rd n 2 ≤ n = lower_most rd n 2 in
    let less : i < lower rd n 2 = item_below rd i (lower rd n 2) h in
    omega arith

-- a node that proves something is a rule node
pub proves_rule : {rd : Reader} {Γ : List Tree} {i k : ℕ} → Proves rd Γ i k → is_rule 1 (rd i 0) ≡ true
unfolding is_rule between if_eq if_lt
proves_rule (Proves.⊥ o m) = ap (is_rule 1) o.kind
proves_rule (Proves.¬⊤ o m) = ap (is_rule 1) o.kind
proves_rule (Proves.Ax o f c m l) = ap (is_rule 1) o.kind
proves_rule (Proves.≠ o c m) = ap (is_rule 1) o.kind
proves_rule (Proves.Sym o c m l) = ap (is_rule 1) o.kind
proves_rule (Proves.Cut o f c r d s e) = ap (is_rule 1) o.kind
proves_rule (Proves.¬¬ o f c m r d) = ap (is_rule 1) o.kind
proves_rule (Proves.∧ᴸ o c m r d) = ap (is_rule 1) o.kind
proves_rule (Proves.¬⇒ o c m r d) = ap (is_rule 1) o.kind
proves_rule (Proves.⇒ o c m r d s e) = ap (is_rule 1) o.kind
proves_rule (Proves.¬∧ o c m r d s e) = ap (is_rule 1) o.kind
proves_rule (Proves.¬∀ o f c i b m w r d) = ap (is_rule 1) o.kind
proves_rule (Proves.∀ᴸ o i y f c t b m r d) = ap (is_rule 1) o.kind
proves_rule (Proves.∀type o ts f cs c m r d) = ap (is_rule 1) o.kind
proves_rule (Proves.Subst o f i t u y b ct cu ft bt fu bu m r d s e) = ap (is_rule 1) o.kind

-- A premise of a node that proves a sequent proves one.
module _ (rd : Reader) (i : ℕ) where
  -- of a node without premises, with one, with two
  of_none : {n k : ℕ} {ps : List Tree} → ProofNode rd n k ps [] → 0 < times_in i (premises rd n) → ProvesSome rd i
  of_none node h = names_none i (rw node.premises_are at h)

  of_one : {n k x : ℕ} {ps : List Tree} → ProofNode rd n k ps (x ∷ []) → ProvesSome rd x → 0 < times_in i (premises rd n) → ProvesSome rd i
  of_one {x} node p h =
      names_more i x [] (rw node.premises_are at h) (λ same. subst (ProvesSome rd) same p) (λ later. names_none i later)

  of_two : {n k x y : ℕ} {ps : List Tree} → ProofNode rd n k ps (x ∷ y ∷ []) → ProvesSome rd x → ProvesSome rd y →
      0 < times_in i (premises rd n) → ProvesSome rd i
  of_two {x} {y} node p q h =
      names_more i x (y ∷ []) (rw node.premises_are at h) (λ same. subst (ProvesSome rd) same p)
      (λ later. names_more i y [] later (λ same. subst (ProvesSome rd) same q) (λ last. names_none i last))

  pub premise_proves : {Γ : List Tree} {n k : ℕ} → Proves rd Γ n k → 0 < times_in i (premises rd n) → ProvesSome rd i
  premise_proves (Proves.⊥ node _) h = of_none node h
  premise_proves (Proves.¬⊤ node _) h = of_none node h
  premise_proves (Proves.Ax node _ _ _ _) h = of_none node h
  premise_proves (Proves.≠ node _ _) h = of_none node h
  premise_proves (Proves.Sym node _ _ _) h = of_none node h
  premise_proves (Proves.Cut node _ _ _ p _ q) h = of_two node (_, _, p) (_, _, q) h
  premise_proves (Proves.¬¬ node _ _ _ _ p) h = of_one node (_, _, p) h
  premise_proves (Proves.∧ᴸ node _ _ _ p) h = of_one node (_, _, p) h
  premise_proves (Proves.¬⇒ node _ _ _ p) h = of_one node (_, _, p) h
  premise_proves (Proves.⇒ node _ _ _ p _ q) h = of_two node (_, _, p) (_, _, q) h
  premise_proves (Proves.¬∧ node _ _ _ p _ q) h = of_two node (_, _, p) (_, _, q) h
  premise_proves (Proves.¬∀ node _ _ _ _ _ _ _ p) h = of_one node (_, _, p) h
  premise_proves (Proves.∀ᴸ node _ _ _ _ _ _ _ _ p) h = of_one node (_, _, p) h
  premise_proves (Proves.∀type node _ _ _ _ _ _ p) h = of_one node (_, _, p) h
  premise_proves (Proves.Subst node _ _ _ _ _ _ _ _ _ _ _ _ _ _ p _ q) h = of_two node (_, _, p) (_, _, q) h

-- An accepted pair.
module _ (ob pf : List ℕ) (k : ℕ) (first : ReadObligation ob) (second : ReadSecond 1 ob pf) (root : RootProves ob pf k) where
  -- a rule node proves a sequent where the larger ones do: it is the root, or a premise of a larger rule node
  from_larger : (i : ℕ) → is_rule 1 (beside ob pf i 0) ≡ true →
      ((j : ℕ) → i < j → j ≤ last_of ob pf → is_rule 1 (beside ob pf j 0) ≡ true → ProvesSome (beside ob pf) j) → ProvesSome (beside ob pf) i
  from_larger i r larger = go (root_or_named 1 (beside ob pf) (root_of pf) i (last_of ob pf) (rule_once 1 ob pf first second i r))
    where
      go : ((root_of pf ≡ i) × (namings 1 (beside ob pf) i (last_of ob pf) ≡ 0)) ⊎
          ((root_of pf ≡ i → ⊥) × NamedBy 1 (beside ob pf) i (last_of ob pf)) → ProvesSome (beside ob pf) i
      go (inl own) = subst (ProvesSome (beside ob pf)) own.0 (_, k, root)
      go (inr other) =
          let by = other.1 in
          let once = by.once in
          let rule = namer_rule 1 (beside ob pf) by.namer i (omega arith) in
          let named : 0 < times_in i (premises (beside ob pf) by.namer) = omega (arith, names_rule 1 (beside ob pf) by.namer i rule) in
          premise_proves (beside ob pf) i (larger by.namer (premise_below (beside ob pf) by.namer i named) by.within rule).2 named

  -- by recursion on the distance to the last record
  within_distance : (d i : ℕ) → last_of ob pf ≤ i + d → is_rule 1 (beside ob pf i 0) ≡ true → ProvesSome (beside ob pf) i
  within_distance zero i h r = from_larger i r (λ j p q s. absurd (omega arith))
  within_distance (suc d) i h r = from_larger i r (λ j p q s. within_distance d j (omega arith) s)

-- every rule node of an accepted pair proves some sequent
pub reached : (ob pf : List ℕ) (k : ℕ) → ReadObligation ob → ReadSecond 1 ob pf → RootProves ob pf k →
    (i : ℕ) → is_rule 1 (beside ob pf i 0) ≡ true → (Γ : List Tree) × (j : ℕ) × Proves (beside ob pf) Γ i j
reached ob pf k first second root i r = within_distance ob pf k first second root (last_of ob pf) i (omega arith) r
