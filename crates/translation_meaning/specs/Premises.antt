-- The premises of a node that proves a sequent: as many as its rule has, each a rule node.
use Rattle.std.specs.Prelude.{ℕ, zero, suc, ◌<◌, ◌≡◌, refl, List, [], ◌∷◌, true, get_or, length}
use Rattle.std.proofs.Common.{sym, ap, subst, ◌∙◌, arith}
use Rattle.reader.specs.Words.{Reader}
use Rattle.reader.specs.Tests.{if_eq}
use Rattle.reader.specs.Kinds.{is_rule}
use Rattle.reader.specs.Trees.{Tree}
use Rattle.reader.specs.Chains.{premises}
use Rattle.proof_meaning.specs.Proves.{Proves, ProofNode}
use Rattle.translation_reached.specs.Reached.{proves_rule}
use Rattle.translation_named.specs.Cells.{arity_of}

-- each of the nodes is a rule node
abbrev AreRules : Reader → List ℕ → Type 0
AreRules rd xs = (a : ℕ) → a < length xs → is_rule 1 (rd (get_or xs a 0) 0) ≡ true

none_rules : (rd : Reader) → AreRules rd []
none_rules rd a h = absurd (omega arith)

one_rule : (rd : Reader) (x : ℕ) → is_rule 1 (rd x 0) ≡ true → AreRules rd (x ∷ [])
one_rule rd x r zero h = r
one_rule rd x r (suc a) h = absurd (omega arith)

two_rules : (rd : Reader) (x y : ℕ) → is_rule 1 (rd x 0) ≡ true → is_rule 1 (rd y 0) ≡ true → AreRules rd (x ∷ y ∷ [])
two_rules rd x y r s zero h = r
two_rules rd x y r s (suc zero) h = s
two_rules rd x y r s (suc (suc a)) h = absurd (omega arith)

-- what is known of a node's premises
pub record Premised (rd : Reader) (i : ℕ) : Type 0 where
  pub arity : length (premises rd i) ≡ arity_of (rd i 0)
  pub rules : (a : ℕ) → a < length (premises rd i) → is_rule 1 (rd (get_or (premises rd i) a 0) 0) ≡ true

premised : {rd : Reader} {i k : ℕ} {ps : List Tree} {xs : List ℕ} → ProofNode rd i k ps xs → length xs ≡ arity_of k → AreRules rd xs → Premised rd i
premised {rd} o e r = record {
  arity = ap length o.premises_are ∙ e ∙ sym (ap arity_of o.kind);
  rules = subst (AreRules rd) (sym o.premises_are) r;
}

premised_0 : {rd : Reader} {i k : ℕ} {ps : List Tree} → ProofNode rd i k ps [] → 0 ≡ arity_of k → Premised rd i
premised_0 {rd} o e = premised o e (none_rules rd)

premised_1 : {rd : Reader} {i k x : ℕ} {ps : List Tree} → ProofNode rd i k ps (x ∷ []) → 1 ≡ arity_of k → is_rule 1 (rd x 0) ≡ true → Premised rd i
premised_1 {rd} {x = x} o e r = premised o e (one_rule rd x r)

premised_2 : {rd : Reader} {i k x y : ℕ} {ps : List Tree} → ProofNode rd i k ps (x ∷ y ∷ []) → 2 ≡ arity_of k →
    is_rule 1 (rd x 0) ≡ true → is_rule 1 (rd y 0) ≡ true → Premised rd i
premised_2 {rd} {x = x} {y = y} o e r s = premised o e (two_rules rd x y r s)

pub proves_premised : {rd : Reader} {Γ : List Tree} {i k : ℕ} → Proves rd Γ i k → Premised rd i
unfolding arity_of if_eq
proves_premised (Proves.⊥ o m) = premised_0 o refl
proves_premised (Proves.¬⊤ o m) = premised_0 o refl
proves_premised (Proves.Ax o f c m l) = premised_0 o refl
proves_premised (Proves.≠ o c m) = premised_0 o refl
proves_premised (Proves.Sym o c m l) = premised_0 o refl
proves_premised (Proves.Cut o f c r d s e) = premised_2 o refl (proves_rule d) (proves_rule e)
proves_premised (Proves.¬¬ o f c m r d) = premised_1 o refl (proves_rule d)
proves_premised (Proves.∧ᴸ o c m r d) = premised_1 o refl (proves_rule d)
proves_premised (Proves.¬⇒ o c m r d) = premised_1 o refl (proves_rule d)
proves_premised (Proves.⇒ o c m r d s e) = premised_2 o refl (proves_rule d) (proves_rule e)
proves_premised (Proves.¬∧ o c m r d s e) = premised_2 o refl (proves_rule d) (proves_rule e)
proves_premised (Proves.¬∀ o f c i b m w r d) = premised_1 o refl (proves_rule d)
proves_premised (Proves.∀ᴸ o i y f c t b m r d) = premised_1 o refl (proves_rule d)
proves_premised (Proves.∀type o ts f cs c m r d) = premised_1 o refl (proves_rule d)
proves_premised (Proves.Subst o f i t u y b ct cu ft bt fu bu m r d s e) = premised_2 o refl (proves_rule d) (proves_rule e)
