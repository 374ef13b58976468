-- A term of the typed language has one type, the one that it carries, and that is a type.
use Rattle.std.specs.Prelude.{◌≡◌, refl, List, ◌∷◌}
use Rattle.std.proofs.Math.Path.{sym, subst}
use Rattle.reader.specs.Words.{Reader}
use Rattle.reader.specs.Tests.{if_eq}
use Rattle.reader.specs.Trees.{Tree, first_of, setᵗ}
use Rattle.reader.specs.Typing.{type_of}
use Rattle.proof_meaning.specs.TypedTrees.{TypeOver, Types, HasType}

first_type : {rd : Reader} {ts own : Tree} {αs : List Tree} → Types rd ts (own ∷ αs) → first_of ts ≡ own
unfolding first_of
first_type (Types.more t ts) = refl

-- a term has one type, the one that it carries
pub type_carried : {rd : Reader} {t τ : Tree} → HasType rd t τ → type_of t ≡ τ
unfolding type_of if_eq
type_carried (HasType.constant c) = refl
type_carried (HasType.variable t) = refl
type_carried (HasType.pair p q) = refl
type_carried (HasType.product p q) = refl
type_carried (HasType.powerset p) = refl
type_carried (HasType.application f ts x e) = first_type ts
type_carried (HasType.choice p) = refl

pub carried : {rd : Reader} {t u τ : Tree} → t ≡ u → HasType rd u τ → HasType rd t (type_of t)
carried {rd = rd} {t = t} {u = u} {τ = τ} e h =
    let own : HasType rd t τ = subst (λ (x : Tree). HasType rd x τ) (sym e) h in
    subst (HasType rd t) (sym (type_carried own)) own

-- and that is a type
own_type : {rd : Reader} {ts own : Tree} {αs : List Tree} → Types rd ts (own ∷ αs) → TypeOver rd own
own_type (Types.more t ts) = t

set_inside : {rd : Reader} {τ : Tree} → TypeOver rd (setᵗ τ) → TypeOver rd τ
set_inside (TypeOver.set t) = t

pub type_over : {rd : Reader} {t τ : Tree} → HasType rd t τ → TypeOver rd τ
type_over (HasType.constant c) = c.type
type_over (HasType.variable t) = t
type_over (HasType.pair p q) = TypeOver.pair (type_over p) (type_over q)
type_over (HasType.product p q) = TypeOver.set (TypeOver.pair (set_inside (type_over p)) (set_inside (type_over q)))
type_over (HasType.powerset p) = TypeOver.set (type_over p)
type_over (HasType.application f ts x e) = own_type ts
type_over (HasType.choice p) = set_inside (type_over p)
