-- A record is named once in words exactly where the root and the premise chains name it once.
use Rattle.std.specs.Prelude.{ℕ, zero, suc, ◌+◌, ◌≡◌, refl, List, [], ◌∷◌, Bool, true, false, eqb}
use Rattle.std.proofs.Common.{subst, arith, eqb-true}
use Rattle.std.proofs.lemmas.Bool.{eqb-false}
use Rattle.reader.specs.Words.{Reader}
use Rattle.reader.specs.Tests.{if_eq}
use Rattle.reader.specs.Kinds.{is_rule}
use Rattle.reader.specs.Chains.{premises}
use Rattle.reader.specs.Places.{times_in, namings}
use Rattle.reader_laws.specs.Scan.{when_equal, when_different}
use Rattle.reader_laws.specs.NotionLaws.{not_so, failed}
use Rattle.reader_meaning.specs.WellFormed.{Times, Namings, NamedOnce}
use Rattle.reader_meaning.proofs.TableLaws.{rule_in, rule_out}

-- one for what is the same, none for what is another
same_one : (x i : ℕ) → x ≡ i → ◌≡◌ {A = ℕ} (if_eq x i 1 0) 1
same_one x i e = when_equal 1 0 x i e

other_none : (x i : ℕ) → (x ≡ i → ⊥) → ◌≡◌ {A = ℕ} (if_eq x i 1 0) 0
other_none x i e = when_different 1 0 x i e

-- how often a record is named
times_out : {i c : ℕ} {xs : List ℕ} → Times i xs c → times_in i xs ≡ c
unfolding times_in
times_out Times.none = refl
times_out {i} (Times.this {x = x} {c = c} {xs = xs} e t) =
    let rest : times_in i xs ≡ c = times_out t in omega (arith, same_one x i e, rest)
times_out {i} (Times.other {x = x} {c = c} {xs = xs} e t) =
    let rest : times_in i xs ≡ c = times_out t in omega (arith, other_none x i e, rest)

times_in_lem : (i : ℕ) (xs : List ℕ) → Times i xs (times_in i xs)
unfolding times_in if_eq
times_in_lem i [] = Times.none
times_in_lem i (x ∷ xs) = go (eqb x i) refl (times_in_lem i xs)
  where
    go : (b : Bool) → eqb x i ≡ b → Times i xs (times_in i xs) → Times i (x ∷ xs) (elim b as (λ v. ℕ) [ true ↦ 1 | false ↦ 0 ] + times_in i xs)
    go true e t = let one : suc (times_in i xs) ≡ 1 + times_in i xs = omega arith in subst (Times i (x ∷ xs)) one (Times.this (eqb-true x i e) t)
    go false e t = let same : times_in i xs ≡ 0 + times_in i xs = omega arith in subst (Times i (x ∷ xs)) same (Times.other (eqb-false x i e) t)

namings_out : {mode : ℕ} {rd : Reader} {i n c : ℕ} → Namings mode rd i n c → namings mode rd i n ≡ c
unfolding namings
namings_out Namings.none = refl
namings_out {mode} {rd} {i} (Namings.rule {n = n} {b = b} {c = c} r t s) = simp (namings, rule_out r, times_out t, namings_out s)
namings_out {mode} {rd} {i} (Namings.other {n = n} {c = c} none s) =
    simp (namings, not_so (is_rule mode (rd (suc n) 0)) (λ r. none (rule_in mode (rd (suc n) 0) r)), namings_out s) (omega arith)

namings_in : (mode : ℕ) (rd : Reader) (i n : ℕ) → Namings mode rd i n (namings mode rd i n)
unfolding namings
namings_in mode rd i zero = Namings.none
namings_in mode rd i (suc n) = go (is_rule mode (rd (suc n) 0)) refl (namings_in mode rd i n)
  where
    go : (b : Bool) → is_rule mode (rd (suc n) 0) ≡ b → Namings mode rd i n (namings mode rd i n) →
        Namings mode rd i (suc n) (elim b as (λ v. ℕ) [ true ↦ times_in i (premises rd (suc n)) | false ↦ 0 ] + namings mode rd i n)
    go true e s = Namings.rule (rule_in mode (rd (suc n) 0) e) (times_in_lem i (premises rd (suc n))) s
    go false e s =
        let same : namings mode rd i n ≡ 0 + namings mode rd i n = omega arith in
        subst (Namings mode rd i (suc n)) same (Namings.other (λ r. failed (is_rule mode (rd (suc n) 0)) e (rule_out r)) s)

pub once_in : (mode : ℕ) (rd : Reader) (root last i : ℕ) → if_eq root i 1 0 + namings mode rd i last ≡ 1 → NamedOnce mode rd root last i
once_in mode rd root last i h = go (eqb root i) refl
  where
    go : (b : Bool) → eqb root i ≡ b → NamedOnce mode rd root last i
    go true e =
        let none : namings mode rd i last ≡ 0 = omega (arith, same_one root i (eqb-true root i e), h) in
        NamedOnce.by_header (eqb-true root i e) (subst (Namings mode rd i last) none (namings_in mode rd i last))
    go false e =
        let one : namings mode rd i last ≡ 1 = omega (arith, other_none root i (eqb-false root i e), h) in
        NamedOnce.by_node (eqb-false root i e) (subst (Namings mode rd i last) one (namings_in mode rd i last))

pub once_out : {mode : ℕ} {rd : Reader} {root last i : ℕ} → NamedOnce mode rd root last i → if_eq root i 1 0 + namings mode rd i last ≡ 1
once_out {mode} {rd} {root} {last} {i} (NamedOnce.by_header e s) =
    let none : namings mode rd i last ≡ 0 = namings_out s in omega (arith, same_one root i e, none)
once_out {mode} {rd} {root} {last} {i} (NamedOnce.by_node e s) =
    let one : namings mode rd i last ≡ 1 = namings_out s in omega (arith, other_none root i e, one)
