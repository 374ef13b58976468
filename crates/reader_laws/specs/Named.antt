-- By which premise chain, and by which link of it, a rule node is named that is named exactly once.
use Rattle.std.specs.Prelude.{ℕ, zero, suc, ◌+◌, ◌<◌, ◌≤◌, ◌≡◌, refl, List, [], ◌∷◌, map, Bool, true, false, ◌⊎◌, eqb, length, get_or}
use Rattle.std.proofs.Common.{sym, ap, ◌∙◌, inl, inr, arith, eq-eqb, eqb-true}
use Rattle.std.proofs.lemmas.Bool.{eqb-false}
use Rattle.reader.specs.Words.{Reader}
use Rattle.reader.specs.Tests.{if_eq}
use Rattle.reader.specs.Kinds.{is_rule}
use Rattle.reader.specs.Trees.{lower}
use Rattle.reader.specs.Chains.{linked, items, premises}
use Rattle.reader.specs.Places.{times_in, namings}

-- what record j's premise chain adds to the namings of i
unfoldable pub names_of : ℕ → Reader → ℕ → ℕ → ℕ
names_of mode rd j i = elim (is_rule mode (rd j 0)) [ true ↦ times_in i (premises rd j) | false ↦ 0 ]

namings_step : (mode : ℕ) (rd : Reader) (i j : ℕ) → namings mode rd i (suc j) ≡ names_of mode rd (suc j) i + namings mode rd i j
unfolding namings names_of
namings_step mode rd i j = refl

-- of a rule node, it is the times that its chain names i
pub names_rule : (mode : ℕ) (rd : Reader) (j i : ℕ) → is_rule mode (rd j 0) ≡ true → names_of mode rd j i ≡ times_in i (premises rd j)
unfolding names_of
names_rule mode rd j i r = simp (names_of, r)

-- a record that names something is a rule node
pub namer_rule : (mode : ℕ) (rd : Reader) (j i : ℕ) → 0 < names_of mode rd j i → is_rule mode (rd j 0) ≡ true
unfolding names_of
namer_rule mode rd j i h = go (is_rule mode (rd j 0)) h
  where
    go : (b : Bool) → 0 < elim b as (λ x. ℕ) [ true ↦ times_in i (premises rd j) | false ↦ 0 ] → b ≡ true
    go true p = refl
    go false p = absurd (omega arith)

-- no premise chain names i
pub named_never : (mode : ℕ) (rd : Reader) (i last : ℕ) → namings mode rd i last ≡ 0 → (j : ℕ) → 1 ≤ j → j ≤ last → names_of mode rd j i ≡ 0
named_never mode rd i zero h j p q = absurd (omega arith)
named_never mode rd i (suc n) h j p q =
    let both : names_of mode rd (suc n) i + namings mode rd i n ≡ 0 = sym (namings_step mode rd i n) ∙ h in
    go both (λ e less. named_never mode rd i n e j p less) (eqb j (suc n)) refl
  where
    go : names_of mode rd (suc n) i + namings mode rd i n ≡ 0 → (namings mode rd i n ≡ 0 → j ≤ n → names_of mode rd j i ≡ 0) → (b : Bool) → eqb j (suc n) ≡ b →
        names_of mode rd j i ≡ 0
    go both below true e = let own : names_of mode rd (suc n) i ≡ 0 = omega arith in ap (λ (k : ℕ). names_of mode rd k i) (eqb-true j (suc n) e) ∙ own
    go both below false e = let no = eqb-false j (suc n) e in below (omega arith) (omega arith)

-- one record's premise chain names i, once, and no other's does
pub record NamedBy (mode : ℕ) (rd : Reader) (i last : ℕ) : Type 0 where
  pub namer : ℕ
  pub given : 1 ≤ namer
  pub within : namer ≤ last
  pub once : names_of mode rd namer i ≡ 1
  pub others : (j : ℕ) → 1 ≤ j → j ≤ last → (j ≡ namer → ⊥) → names_of mode rd j i ≡ 0

-- where it stands, for any use of it
found : {A : Type 0} (mode : ℕ) (rd : Reader) (i last : ℕ) → namings mode rd i last ≡ 1 →
    ((namer : ℕ) → 1 ≤ namer → namer ≤ last → names_of mode rd namer i ≡ 1 →
    ((j : ℕ) → 1 ≤ j → j ≤ last → (j ≡ namer → ⊥) → names_of mode rd j i ≡ 0) → A) → A
unfolding namings
found mode rd i zero h give = absurd (omega arith)
found {A} mode rd i (suc n) h give =
    let both : names_of mode rd (suc n) i + namings mode rd i n ≡ 1 = sym (namings_step mode rd i n) ∙ h in
    go both (namings mode rd i n) refl (found {A = A} mode rd i n)
  where
    others : (namer : ℕ) → names_of mode rd (suc n) i ≡ 0 → ((j : ℕ) → 1 ≤ j → j ≤ n → (j ≡ namer → ⊥) → names_of mode rd j i ≡ 0) →
        (j : ℕ) → 1 ≤ j → j ≤ suc n → (j ≡ namer → ⊥) → (b : Bool) → eqb j (suc n) ≡ b → names_of mode rd j i ≡ 0
    others namer none rest j p q differs true e = ap (λ (k : ℕ). names_of mode rd k i) (eqb-true j (suc n) e) ∙ none
    others namer none rest j p q differs false e = let other = eqb-false j (suc n) e in rest j p (omega arith) differs

    go : names_of mode rd (suc n) i + namings mode rd i n ≡ 1 → (k : ℕ) → namings mode rd i n ≡ k → (namings mode rd i n ≡ 1 →
        ((namer : ℕ) → 1 ≤ namer → namer ≤ n → names_of mode rd namer i ≡ 1 →
        ((j : ℕ) → 1 ≤ j → j ≤ n → (j ≡ namer → ⊥) → names_of mode rd j i ≡ 0) → A) → A) → A
    go both zero e ih =
        let one : names_of mode rd (suc n) i ≡ 1 = omega arith in
        give (suc n) (omega arith) (omega arith) one (λ j p q differs. named_never mode rd i n e j p (omega arith))
    go both (suc k) e ih =
        let none : names_of mode rd (suc n) i ≡ 0 = omega arith in
        ih (omega arith) (λ namer given within once rest.
        give namer given (omega arith) once (λ j p q differs. others namer none rest j p q differs (eqb j (suc n)) refl))

pub named_by : (mode : ℕ) (rd : Reader) (i last : ℕ) → namings mode rd i last ≡ 1 → NamedBy mode rd i last
named_by mode rd i last h =
    found mode rd i last h (λ namer given within once others. record { namer = namer; given = given; within = within; once = once; others = others })

-- a node named exactly once is the root and in no premise chain, or not the root and in one
pub root_or_named : (mode : ℕ) (rd : Reader) (root i last : ℕ) → if_eq root i 1 0 + namings mode rd i last ≡ 1 →
    ((root ≡ i) × (namings mode rd i last ≡ 0)) ⊎ ((root ≡ i → ⊥) × NamedBy mode rd i last)
unfolding if_eq
root_or_named mode rd root i last h = go (eqb root i) refl
  where
    go : (b : Bool) → eqb root i ≡ b → ((root ≡ i) × (namings mode rd i last ≡ 0)) ⊎ ((root ≡ i → ⊥) × NamedBy mode rd i last)
    go true e = let own : if_eq {A = ℕ} root i 1 0 ≡ 1 = simp (if_eq, e) in inl (eqb-true root i e, omega arith)
    go false e = let own : if_eq {A = ℕ} root i 1 0 ≡ 0 = simp (if_eq, e) in
        let one : namings mode rd i last ≡ 1 = omega arith in
        inr (
          eqb-false root i e,
          found mode rd i last one (λ namer given within once others. record {
            namer = namer;
            given = given;
            within = within;
            once = once;
            others = others;
          }),
        )

-- a list whose elements' images include i once, at one place
pub record OnceIn (f : ℕ → ℕ) (i : ℕ) (ls : List ℕ) : Type 0 where
  pub place : ℕ
  pub inside : place < length ls
  pub names : f (get_or ls place 0) ≡ i
  pub alone : (k : ℕ) → k < length ls → (k ≡ place → ⊥) → f (get_or ls k 0) ≡ i → ⊥

never_in : (f : ℕ → ℕ) (i : ℕ) (ls : List ℕ) → times_in i (map f ls) ≡ 0 → (k : ℕ) → k < length ls → f (get_or ls k 0) ≡ i → ⊥
unfolding times_in if_eq
never_in f i [] h k p e = omega arith
never_in f i (l ∷ ls) h zero p e = let own : if_eq {A = ℕ} (f l) i 1 0 ≡ 1 = simp (if_eq, eq-eqb (f l) i e) in omega arith
never_in f i (l ∷ ls) h (suc k) p e = never_in f i ls (omega arith) k (omega arith) e

pub once_in : (f : ℕ → ℕ) (i : ℕ) (ls : List ℕ) → times_in i (map f ls) ≡ 1 → OnceIn f i ls
unfolding times_in if_eq
once_in f i [] h = absurd (omega arith)
once_in f i (l ∷ ls) h = go (eqb (f l) i) refl (λ e. once_in f i ls e)
  where
    go : (b : Bool) → eqb (f l) i ≡ b → (times_in i (map f ls) ≡ 1 → OnceIn f i ls) → OnceIn f i (l ∷ ls)
    go true e ih =
        let own : if_eq {A = ℕ} (f l) i 1 0 ≡ 1 = simp (if_eq, e) in
        let none : times_in i (map f ls) ≡ 0 = omega arith in
        record { place = 0; inside = omega arith; names = eqb-true (f l) i e; alone = λ k. apart k none }
      where
        apart : (k : ℕ) → times_in i (map f ls) ≡ 0 → k < suc (length ls) → (k ≡ 0 → ⊥) → f (get_or (l ∷ ls) k 0) ≡ i → ⊥
        apart zero none p differs q = differs refl
        apart (suc k) none p differs q = never_in f i ls none k (omega arith) q
    go false e ih =
        let own : if_eq {A = ℕ} (f l) i 1 0 ≡ 0 = simp (if_eq, e) in
        let r = ih (omega arith) in
        record { place = suc r.place; inside = omega (arith, r.inside); names = r.names; alone = λ k. apart k r }
      where
        apart : (k : ℕ) (r : OnceIn f i ls) → k < suc (length ls) → (k ≡ suc r.place → ⊥) → f (get_or (l ∷ ls) k 0) ≡ i → ⊥
        apart zero r p differs q = eqb-false (f l) i e q
        apart (suc k) r p differs q = r.alone k (omega arith) (λ same. differs (ap suc same)) q

-- the link of node j's premise chain that names i, and no other does
pub link_by : (rd : Reader) (j i : ℕ) → times_in i (premises rd j) ≡ 1 → OnceIn (λ l. lower rd l 1) i (linked rd (lower rd j 2))
unfolding premises items
link_by rd j i h = once_in (λ l. lower rd l 1) i (linked rd (lower rd j 2)) h
