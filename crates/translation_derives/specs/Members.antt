-- Sequents with their types removed: members, and what a rule adds.
use Rattle.std.specs.Prelude.{ℕ, ◌≡◌, refl, List, [], ◌∷◌, map}
use Rattle.std.proofs.Common.{ap, subst, ◌∙◌}
use Rattle.reader.specs.Trees.{Tree}
use Rattle.reader.specs.Members.{◌▹◌}
use Rattle.reader.specs.Notions.{◌∈◌, here, there, Occurs, Fresh}
use Rattle.derivation_rules.specs.Erase.{⌊◌⌋}
use Rattle.derivation_meaning.proofs.EraseLaws.{occurs_erase}
use Rattle.derivation_meaning.proofs.Intro.{in_map}

-- a member, types removed
pub member_bare : {Γ : List Tree} (P : Tree) {Q : Tree} → ⌊ P ⌋ ≡ Q → P ∈ Γ → Q ∈ map ⌊◌⌋ Γ
member_bare {Γ} P e m = subst (λ (t : Tree). t ∈ map ⌊◌⌋ Γ) e (in_map ⌊◌⌋ m)

-- one member more, and two
pub one_more : (Γ : List Tree) (P : Tree) {Q : Tree} → ⌊ P ⌋ ≡ Q → map ⌊◌⌋ (Γ ▹ P) ≡ map ⌊◌⌋ Γ ▹ Q
one_more [] P e = ap (λ (t : Tree). t ∷ []) e
one_more (G ∷ Γ) P e = ap (λ (ts : List Tree). ⌊ G ⌋ ∷ ts) (one_more Γ P e)

pub two_more : (Γ : List Tree) (P R : Tree) {Q S : Tree} → ⌊ P ⌋ ≡ Q → ⌊ R ⌋ ≡ S → map ⌊◌⌋ (Γ ▹ P ▹ R) ≡ map ⌊◌⌋ Γ ▹ Q ▹ S
two_more Γ P R {S = S} e f = one_more (Γ ▹ P) R f ∙ ap (λ (ts : List Tree). ts ▹ S) (one_more Γ P e)

-- a constant that is fresh in a sequent is fresh in it, types removed
pub fresh_bare : (c : ℕ) (Γ : List Tree) → Fresh c Γ → Fresh c (map ⌊◌⌋ Γ)
fresh_bare c [] f t m o = f t m o
fresh_bare c (G ∷ Γ) f t (here e) o = f G (here refl) (occurs_erase c G (subst (Occurs c) e o))
fresh_bare c (G ∷ Γ) f t (there m) o = fresh_bare c Γ (λ u n. f u (there n)) t m o
