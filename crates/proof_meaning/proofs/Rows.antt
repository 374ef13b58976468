-- A node without a fault, column by column of its row, and the rules by their kind.
use Rattle.std.specs.Prelude.{ℕ, ◌+◌, ◌≡◌, refl, List, [], ◌∷◌, ◌++◌, map, Bool, true, false, ◌⊎◌, eqb, length, get_or}
use Rattle.std.proofs.Common.{append_assoc, inl, inr, ⊎_elim, length-append, eqb-true, eq-eqb, leb, leb-true, le-leb, arith}
use Rattle.std.proofs.lemmas.Bool.{false≢true}
use Rattle.reader.specs.Words.{Reader}
use Rattle.reader.specs.Tests.{every, if_eq}
use Rattle.reader.specs.Kinds.{is_rule}
use Rattle.reader.specs.Trees.{Tree, tree}
use Rattle.reader.specs.Chains.{parts, premises}
use Rattle.reader.specs.Shapes.{have_shapes}
use Rattle.reader_laws.specs.Scan.{both_parts, both_join, demand_parts, demand_join}
use Rattle.proof_rules.specs.Rules.{Row, row}
use Rattle.proof_rules.specs.Check.{row_of, has_room, row_fault, node_fault, premise_sequent}
use Rattle.reader.specs.Members.{◌▹◌, premises_fit}
use Rattle.reader.specs.Notions.{◌∈◌, Every, Fresh}
use Rattle.reader_laws.specs.NotionLaws.{every_in, every_out, member_in, member_out, fresh_in, fresh_out}
use Rattle.proof_meaning.specs.Proves.{Fits}

-- the trees of a node's parts
abbrev pub parts_of : Reader → ℕ → List Tree
parts_of rd n = map (tree rd) (parts rd n)

-- Node n passes the tests of the row of kind k with parts ps, at the sequent Γ.
pub record Passed (rd : Reader) (Γ : List Tree) (n k : ℕ) (ps : List Tree) : Type 0 where
  pub shapes : have_shapes (row k ps).shapes ps ≡ true
  pub number : length (premises rd n) ≡ length (row k ps).adds
  pub rules : every (λ x. is_rule 1 (rd x 0)) (premises rd n) ≡ true
  pub needs : Every (λ t. t ∈ Γ) (row k ps).needs
  pub fits : (row k ps).fits ≡ true
  pub fresh : Every (λ c. Fresh c Γ) (row k ps).fresh
  pub room : Every (λ A. Fits (Γ ++ A)) (row k ps).adds

-- a node without a fault passes the tests of its row
pub passed_in : (rd : Reader) (Γ : List Tree) (n : ℕ) → node_fault rd Γ n ≡ 0 → Passed rd Γ n (rd n 0) (parts_of rd n)
unfolding node_fault row_fault row_of premises_fit has_room
passed_in rd Γ n h =
    let a = demand_parts _ 13 _ h refl in
    let b = demand_parts _ 13 _ a.1 refl in
    let c = demand_parts _ 14 _ b.1 refl in
    let d = demand_parts _ 15 _ c.1 refl in
    let e = demand_parts _ 16 _ d.1 refl in
    let f = demand_parts _ 17 _ e.1 refl in
    let p = both_parts _ _ b.0 in
    record {
      shapes = a.0;
      number = eqb-true _ _ p.0;
      rules = p.1;
      needs = every_in _ (λ t. t ∈ Γ) (λ t. member_in t Γ) _ c.0;
      fits = d.0;
      fresh = every_in _ (λ c. Fresh c Γ) (λ c. fresh_in c Γ) _ e.0;
      room = every_in _ (λ A. Fits (Γ ++ A)) (λ (A : List Tree) (q : leb (length Γ + length A) 1024 ≡ true). rw (length-append Γ A) (omega (arith, leb-true (length Γ + length A) 1024 q))) _ f.0;
    }

-- and the other way round, where its kind and parts are known
pub passed_out : (rd : Reader) (Γ : List Tree) (n k : ℕ) (ps : List Tree) → rd n 0 ≡ k → parts_of rd n ≡ ps → Passed rd Γ n k ps → node_fault rd Γ n ≡ 0
unfolding node_fault row_fault row_of premises_fit has_room
passed_out rd Γ n k ps ek ep p =
    rw (ek, ep)
    (demand_join _ 13 _ p.shapes
    (demand_join _ 13 _ (both_join _ _ (eq-eqb _ _ p.number) p.rules)
    (demand_join _ 14 _ (every_out _ (λ t. t ∈ Γ) (λ t. member_out t Γ) _ p.needs)
    (demand_join _ 15 _ p.fits
    (demand_join _ 16 _ (every_out _ (λ c. Fresh c Γ) (λ c. fresh_out c Γ) _ p.fresh)
    (demand_join _ 17 _ (every_out _ (λ A. Fits (Γ ++ A)) (λ A q. le-leb (length Γ + length A) 1024 (rw (← length-append Γ A) q)) _ p.room) refl))))))

-- the sequent of premise b
pub next_is : (rd : Reader) (Γ : List Tree) (n k : ℕ) (ps : List Tree) (b : ℕ) → rd n 0 ≡ k → parts_of rd n ≡ ps →
    premise_sequent rd Γ n b ≡ Γ ++ get_or (row k ps).adds b []
unfolding premise_sequent row_of
next_is rd Γ n k ps b ek ep = rw (ek, ep)

-- two formulas added one after the other
pub two_added : (Γ : List Tree) (P Q : Tree) → Γ ▹ P ▹ Q ≡ Γ ++ (P ∷ Q ∷ [])
two_added Γ P Q = append_assoc Γ (P ∷ []) (Q ∷ [])

-- a row selected by kind fits: the kind is c, or the other row fits
chosen : (k c : ℕ) (x y : Row) → (if_eq k c x y).fits ≡ true → (k ≡ c) ⊎ (y.fits ≡ true)
unfolding if_eq
chosen k c x y h = go (eqb k c) refl h
  where
    go : (b : Bool) → eqb k c ≡ b → ◌≡◌ {A = Bool} (elim b as (λ v. Row) [ true ↦ x | false ↦ y ]).fits true → (k ≡ c) ⊎ (y.fits ≡ true)
    go true e h = inl (eqb-true k c e)
    go false e h = inr h

-- what holds of each of the fifteen kinds holds of a kind whose row fits
pub by_kind : {C : Type 0} (k : ℕ) (ps : List Tree) → (row k ps).fits ≡ true →
    (k ≡ 32 → C) → (k ≡ 33 → C) → (k ≡ 34 → C) → (k ≡ 35 → C) → (k ≡ 36 → C) → (k ≡ 37 → C) → (k ≡ 38 → C) → (k ≡ 39 → C) → (k ≡ 40 → C) →
    (k ≡ 41 → C) → (k ≡ 42 → C) → (k ≡ 43 → C) → (k ≡ 44 → C) → (k ≡ 45 → C) → (k ≡ 46 → C) → C
unfolding row
by_kind k ps h r32 r33 r34 r35 r36 r37 r38 r39 r40 r41 r42 r43 r44 r45 r46 =
    ⊎_elim r32 (λ h. ⊎_elim r33 (λ h. ⊎_elim r34 (λ h. ⊎_elim r35 (λ h. ⊎_elim r36 (λ h. ⊎_elim r37 (λ h. ⊎_elim r38 (λ h. ⊎_elim r39
    (λ h. ⊎_elim r40 (λ h. ⊎_elim r41 (λ h. ⊎_elim r42 (λ h. ⊎_elim r43 (λ h. ⊎_elim r44 (λ h. ⊎_elim r45 (λ h. ⊎_elim r46 (λ h. absurd (false≢true h))
    (chosen k 46 _ _ h)) (chosen k 45 _ _ h)) (chosen k 44 _ _ h)) (chosen k 43 _ _ h)) (chosen k 42 _ _ h)) (chosen k 41 _ _ h)) (chosen k 40 _ _ h))
    (chosen k 39 _ _ h)) (chosen k 38 _ _ h)) (chosen k 37 _ _ h)) (chosen k 36 _ _ h)) (chosen k 35 _ _ h)) (chosen k 34 _ _ h)) (chosen k 33 _ _ h))
    (chosen k 32 _ _ h)
