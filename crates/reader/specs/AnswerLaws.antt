-- Laws of answers: the loop that looks for the first fault, and places one after the other.
use Prim.Native.Nat.{ℕ, zero, suc, ◌+◌, ◌-◌, ◌<◌, ◌≤◌}
use Rattle.std.specs.Prelude.{◌≡◌, refl, Bool, true, false, eqb}
use native.Mathlib.Omega.{arith}
use Rattle.std.proofs.Common.{eq-eqb, ne_eqb}
use Rattle.reader.specs.declared.Answer.{Answer}
use Rattle.reader.specs.Answers.{answer, accepted, or_answer, first_fault}

-- A loop that looks for the first fault from record `first` on, up to `last`: from record i on it gives the answer.
module _ (fault : ℕ → ℕ) (f first last i : ℕ) (inv : first_fault fault f (last + 1 - first) first ≡ first_fault fault f (last + 1 - i) i) where
  scan_step : i ≤ last →
      first_fault fault f (last + 1 - i) i
      ≡ elim (eqb (fault i) 0) [ true ↦ first_fault fault f (last + 1 - (i + 1)) (i + 1) | false ↦ answer (fault i) f i 0 ]
  unfolding first_fault
  scan_step h = let e : last + 1 - i ≡ suc (last + 1 - (i + 1)) = omega arith in rw e

  module _ (within : i ≤ last) (w : ℕ) (ew : w ≡ fault i) where
    pub scan_stop : (w ≡ 0 → ⊥) → answer w f i 0 ≡ first_fault fault f (last + 1 - first) first
    scan_stop h = rw (inv, scan_step within) (simp (← ew, ne_eqb w 0 h))

    pub scan_more : w ≡ 0 → first_fault fault f (last + 1 - first) first ≡ first_fault fault f (last + 1 - (i + 1)) (i + 1)
    scan_more h = rw (inv, scan_step within) (simp (← ew, eq-eqb w 0 h))

  pub scan_end : last < i → accepted 0 ≡ first_fault fault f (last + 1 - first) first
  unfolding first_fault
  scan_end h = let e : last + 1 - i ≡ 0 = omega arith in rw (inv, e)

-- two ways of stating faults that agree on the records looked at
pub scan_same : (fault other : ℕ → ℕ) (f n i : ℕ) → ((j : ℕ) → i ≤ j → j < i + n → fault j ≡ other j) → first_fault fault f n i ≡ first_fault other f n i
unfolding first_fault
scan_same fault other f zero i h = refl
scan_same fault other f (suc n) i h =
    let rest : first_fault fault f n (i + 1) ≡ first_fault other f n (i + 1) = scan_same fault other f n (i + 1) (λ j p q. h j (omega arith) (omega arith)) in
    go (eqb (other i) 0) refl (h i (omega arith) (omega arith)) rest
  where
    go : (b : Bool) → eqb (other i) 0 ≡ b → fault i ≡ other i → first_fault fault f n (i + 1) ≡ first_fault other f n (i + 1) →
        first_fault fault f (suc n) i ≡ first_fault other f (suc n) i
    go true e same rest = simp (first_fault, same, e) rest
    go false e same rest = simp (first_fault, same, e)

-- `if r.refusal != 0 { return r; }`
pub answer_stop : (a b r : Answer) → r ≡ a → (r.refusal ≡ 0 → ⊥) → r ≡ or_answer a b
unfolding or_answer
answer_stop a b r e h = simp (or_answer, ← e, ne_eqb r.refusal 0 h)

pub answer_go : (a b r s : Answer) → r ≡ a → r.refusal ≡ 0 → s ≡ b → s ≡ or_answer a b
unfolding or_answer
answer_go a b r s e h q = simp (or_answer, ← e, eq-eqb r.refusal 0 h) q

pub ruleset answers = (answer_stop, answer_go)
