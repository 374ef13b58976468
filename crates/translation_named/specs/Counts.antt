-- Laws of counts: how often a number is among the images of a list, and sums of which all summands but one are 0.
use Rattle.std.specs.Prelude.{ℕ, zero, suc, ◌+◌, ◌<◌, ◌≤◌, ◌≡◌, refl, List, [], ◌∷◌, map, Bool, true, false, eqb, ltb, get_or, length}
use Rattle.std.proofs.Common.{sym, ap, ◌∙◌, arith, eqb-true, ltb-true}
use Rattle.std.proofs.lemmas.Bool.{false≢true, eqb-false}
use Rattle.reader.specs.Words.{Reader}
use Rattle.reader.specs.Tests.{every, if_eq}
use Rattle.reader.specs.Kinds.{is_rule}
use Rattle.reader.specs.Places.{times_in, namings}
use Rattle.reader_laws.specs.Scan.{every_head, when_equal, when_different}
use Rattle.reader_laws.specs.Named.{names_of}
use Rattle.reader_laws.specs.Sums.{sum_to, sum_none}
use Rattle.translation_rules.specs.Templates.{Cell}
use Rattle.translation_named.specs.Cells.{choose, owns_in, is_inner, choose_cases}

-- two tests that hold together or fail together
pub same_test : (a b c d : ℕ) → (a ≡ b → c ≡ d) → (c ≡ d → a ≡ b) → if_eq {A = ℕ} a b 1 0 ≡ if_eq c d 1 0
same_test a b c d f g = go (eqb a b) refl
  where
    go : (t : Bool) → eqb a b ≡ t → if_eq {A = ℕ} a b 1 0 ≡ if_eq c d 1 0
    go true e = let h = eqb-true a b e in when_equal 1 0 a b h ∙ sym (when_equal 1 0 c d (f h))
    go false e = let h = eqb-false a b e in when_different 1 0 a b h ∙ sym (when_different 1 0 c d (λ q. h (g q)))

-- r is among the images where i is among the list
pub times_image : (f : ℕ → ℕ) (r i : ℕ) (xs : List ℕ) → ((a : ℕ) → a < length xs → f (get_or xs a 0) ≡ r → get_or xs a 0 ≡ i) → f i ≡ r →
    times_in r (map f xs) ≡ times_in i xs
unfolding times_in
times_image f r i [] h e = refl
times_image f r i (x ∷ xs) h e =
    let here : if_eq {A = ℕ} (f x) r 1 0 ≡ if_eq x i 1 0 = same_test (f x) r x i (h 0 (omega arith)) (λ q. ap f q ∙ e) in
    let rest : times_in r (map f xs) ≡ times_in i xs = times_image f r i xs (λ a p. h (suc a) (omega arith)) e in
    omega arith

-- r is not among the images
pub times_none : (f : ℕ → ℕ) (r : ℕ) (xs : List ℕ) → ((a : ℕ) → a < length xs → f (get_or xs a 0) ≡ r → ⊥) → times_in r (map f xs) ≡ 0
unfolding times_in
times_none f r [] h = refl
times_none f r (x ∷ xs) h =
    let here : if_eq {A = ℕ} (f x) r 1 0 ≡ 0 = when_different 1 0 (f x) r (h 0 (omega arith)) in
    let rest : times_in r (map f xs) ≡ 0 = times_none f r xs (λ a p. h (suc a) (omega arith)) in
    omega arith

-- r is not the image of any record of the block that is not its last
pub owns_none : (f : ℕ → ℕ) (r size : ℕ) (cs : List Cell) → every (is_inner size) cs ≡ true → ((s : ℕ) → s + 1 < size → f s ≡ r → ⊥) →
    times_in r (map f (owns_in cs)) ≡ 0
unfolding times_in owns_in is_inner choose
owns_none f r size [] h differs = refl
owns_none f r size (c ∷ cs) h differs =
    let test = every_head (is_inner size) c cs h in
    let rest : times_in r (map f (owns_in cs)) ≡ 0 = owns_none f r size cs test.1 differs in
    choose_cases (λ c. times_in r (map f (owns_in (c ∷ cs))) ≡ 0) c (λ s. ltb (s + 1) size) (λ j. true) false test.0
    (λ s e. let here : if_eq {A = ℕ} (f s) r 1 0 ≡ 0 = when_different 1 0 (f s) r (differs s (ltb-true (s + 1) size e)) in omega arith)
    (λ j e. rest) (λ e. absurd (false≢true e))

-- the images under an addition
pub times_shift : (b o : ℕ) (xs : List ℕ) → times_in (b + o) (map (λ s. b + s) xs) ≡ times_in o xs
times_shift b o xs = times_image (λ s. b + s) (b + o) o xs (λ a p q. omega arith) refl

-- a sum of which all summands but one are 0
pub sum_only : (f : ℕ → ℕ) (i t : ℕ) → 1 ≤ i → i ≤ t → ((x : ℕ) → 1 ≤ x → x ≤ t → (x ≡ i → ⊥) → f x ≡ 0) → sum_to f t ≡ f i
unfolding sum_to
sum_only f i zero p q h = absurd (omega arith)
sum_only f i (suc t) p q h = go (eqb i (suc t)) refl (λ less. sum_only f i t p less (λ x u v. h x u (omega arith)))
  where
    go : (b : Bool) → eqb i (suc t) ≡ b → (i ≤ t → sum_to f t ≡ f i) → f (suc t) + sum_to f t ≡ f i
    go true e rest =
        let here : i ≡ suc t = eqb-true i (suc t) e in
        let none : sum_to f t ≡ 0 = sum_none f t (λ x u v. h x u (omega arith) (λ z. absurd (omega arith))) in
        let same : f i ≡ f (suc t) = ap f here in
        omega arith
    go false e rest =
        let other : i ≡ suc t → ⊥ = eqb-false i (suc t) e in
        let here : f (suc t) ≡ 0 = h (suc t) (omega arith) (omega arith) (λ z. other (sym z)) in
        let below : sum_to f t ≡ f i = rest (omega arith) in
        omega arith

-- records that are no rule nodes name nothing
pub names_none : (mode : ℕ) (rd : Reader) (r t : ℕ) → ((j : ℕ) → j ≤ t → is_rule mode (rd j 0) ≡ false) → namings mode rd r t ≡ 0
unfolding namings
names_none mode rd r zero h = refl
names_none mode rd r (suc t) h =
    let rest : namings mode rd r t ≡ 0 = names_none mode rd r t (λ j p. h j (omega arith)) in
    rw (h (suc t) (omega arith)) (omega arith)

pub names_of_none : (mode : ℕ) (rd : Reader) (j i : ℕ) → is_rule mode (rd j 0) ≡ false → names_of mode rd j i ≡ 0
unfolding names_of
names_of_none mode rd j i h = simp (names_of, h)

-- the names by records 1 to m + c are those by records 1 to m and by the c records after them
pub names_sum : (mode : ℕ) (rd : Reader) (i m c : ℕ) → namings mode rd i (m + c) ≡ namings mode rd i m + sum_to (λ k. names_of mode rd (m + k) i) c
unfolding namings names_of sum_to
names_sum mode rd i m zero = let same : m + 0 ≡ m = omega arith in rw same (omega arith)
names_sum mode rd i m (suc c) =
    let same : m + suc c ≡ suc (m + c) = omega arith in
    let rest = names_sum mode rd i m c in
    rw same (omega arith)
