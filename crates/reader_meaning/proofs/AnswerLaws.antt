-- The answer of a check, from its two halves, the reading of the files and the walk, for any calculus: what acceptance means, and that a pair that is not
-- accepted is refused.
use Rattle.std.specs.Prelude.{ℕ, ◌+◌, ◌≤◌, ◌≡◌, refl, List, Bool, true, false, ◌↔◌, ◌⊎◌, eqb}
use Rattle.std.proofs.Common.{sym, ap, subst, ◌∙◌, inl, inr, ⊎_elim, arith, eqb-true, ne_eqb}
use Rattle.std.proofs.lemmas.Bool.{eqb-false}
use Rattle.reader.specs.declared.Answer.{Answer}
use Rattle.reader.specs.Answers.{accepted, or_answer}
use Rattle.reader.specs.Places.{root_of, count_of, reading}
use Rattle.reader.specs.Walk.{walk_node}
use Rattle.reader_laws.specs.Scan.{or_answer_parts, or_answer_join}
use Rattle.reader_laws.specs.File.{beside, reading_parts, reading_join}
use Rattle.reader_laws.specs.Pair.{word_first}
use Rattle.reader_meaning.specs.WellFormed.{WellFormedPair}
use Rattle.reader_meaning.specs.Refused.{RefusedPair}
use Rattle.reader_meaning.specs.Stops.{Test, Stops}
use Rattle.reader_meaning.proofs.FileLaws.{pair_in, pair_out}
use Rattle.reader_meaning.proofs.Refusals.{well_formed_or_refused, refused_before}
use Rattle.reader_meaning.proofs.StopLaws.{Calculus, stops_out, stops_in}

-- record 0 is the header, kind 1
pub head : (mode : ℕ) (ob s : List ℕ) → WellFormedPair mode ob s → beside ob s 0 0 ≡ 1
head mode ob s w = word_first ob s (count_of ob) 0 0 (omega arith) ∙ w.obligation.header.first

-- where both the reading and the walk give no refusal
pub halves : (mode : ℕ) (ob s : List ℕ) (walk : Answer) → (or_answer (reading mode ob s) walk).refusal ≡ 0 →
    (reading mode ob s ≡ accepted 0) × (walk.refusal ≡ 0)
halves mode ob s walk h =
    let p = or_answer_parts (reading mode ob s) walk h in
    let r = reading_parts mode ob s p.0 in
    (reading_join mode ob s r.0 r.1, p.1)

-- the count starts from 0
from_none : (k : ℕ) → accepted (0 + k) ≡ accepted k
from_none k = let e : 0 + k ≡ k = omega arith in ap (λ (n : ℕ). accepted n) e

-- a place that refuses gives the answer
stop_at : (a b c : Answer) → a ≡ c → 1 ≤ c.refusal → or_answer a b ≡ c
unfolding or_answer
stop_at a b c e h = rw e (simp (or_answer, ne_eqb c.refusal 0 (λ z. omega arith)))

module _ {S : Type 0} (mode : ℕ) (known : mode ≤ 2) (ob s : List ℕ) (fault : S → ℕ → ℕ) (tests : S → ℕ → List Test) (next : S → ℕ → ℕ → S)
    (Done : S → ℕ → ℕ → Type 0) (Within : S → Type 0) (calculus : Calculus mode (beside ob s) fault tests next Done Within)
    (start : S) (within : WellFormedPair mode ob s → Within start) where
  abbrev walk : Answer
  walk = walk_node (beside ob s) fault next (root_of s) start 0

  -- the answer
  abbrev given : Answer
  given = or_answer (reading mode ob s) walk

  abbrev Stopped : Answer → Type 0
  Stopped = Stops mode (beside ob s) tests next Done start (root_of s) 0

  walked : WellFormedPair mode ob s → given ≡ walk
  walked w = or_answer_join (reading mode ob s) walk (ap (λ (a : Answer). a.refusal) (pair_out mode ob s w))

  pub some_count : given.refusal ≡ 0 → (k : ℕ) × (given ≡ accepted k)
  some_count h =
      let p = halves mode ob s walk h in
      let w = pair_in mode ob s known p.0 in
      let r = calculus.walked start (root_of s) 0 (within w) p.1 in
      (r.0, walked w ∙ r.2 ∙ from_none r.0)

  -- Acceptance gives a well-formed pair whose root does what the start asks, and k is the number of its nodes.
  pub accepted_in : (k : ℕ) → given ≡ accepted k → WellFormedPair mode ob s × Done start (root_of s) k
  accepted_in k h =
      let p = halves mode ob s walk (ap (λ (a : Answer). a.refusal) h) in
      let w = pair_in mode ob s known p.0 in
      let r = calculus.walked start (root_of s) 0 (within w) p.1 in
      let e : 0 + r.0 ≡ k = ap (λ (a : Answer). a.nodes) (sym r.2 ∙ sym (walked w) ∙ h) in
      let same : r.0 ≡ k = omega arith in
      (w, subst (Done start (root_of s)) same r.1)

  pub accepted_out : (k : ℕ) → WellFormedPair mode ob s → Done start (root_of s) k → given ≡ accepted k
  accepted_out k w d = walked w ∙ calculus.walks (head mode ob s w) start (root_of s) k 0 d ∙ from_none k

  -- What `RefusedPair` says is the answer, and a refusal.
  refused_gives : {a : Answer} → RefusedPair mode ob s Stopped a → (given ≡ a) × (1 ≤ a.refusal)
  refused_gives (RefusedPair.before_walk {a = a} r) =
      let b = refused_before known r in (stop_at (reading mode ob s) walk a b.0 b.1, b.1)
  refused_gives (RefusedPair.in_walk w d) =
      let v = stops_out mode (beside ob s) fault tests next Done Within calculus (head mode ob s w) d in (walked w ∙ v.0, v.1)

  -- Every pair is accepted or refused.
  pub accepted_or_refused : ((k : ℕ) × (WellFormedPair mode ob s × Done start (root_of s) k)) ⊎ ((a : Answer) × RefusedPair mode ob s Stopped a)
  accepted_or_refused =
      ⊎_elim (λ w. go w (eqb walk.refusal 0) refl) (λ r. inr (r.0, RefusedPair.before_walk r.1)) (well_formed_or_refused mode known ob s)
    where
      go : (w : WellFormedPair mode ob s) (b : Bool) → eqb walk.refusal 0 ≡ b →
          ((k : ℕ) × (WellFormedPair mode ob s × Done start (root_of s) k)) ⊎ ((a : Answer) × RefusedPair mode ob s Stopped a)
      go w true e = let r = calculus.walked start (root_of s) 0 (within w) (eqb-true _ 0 e) in inl (r.0, (w, r.1))
      go w false e =
          inr (
            walk,
            RefusedPair.in_walk w
                (stops_in mode (beside ob s) fault tests next Done Within calculus (head mode ob s w) (root_of s) w.second.root.rule start 0 (within w)
                (eqb-false _ 0 e)),
          )

  pub refused_where : (a : Answer) → 1 ≤ a.refusal → (given ≡ a) ↔ RefusedPair mode ob s Stopped a
  refused_where a some = (to, λ r. (refused_gives r).0)
    where
      to : given ≡ a → RefusedPair mode ob s Stopped a
      to e =
          ⊎_elim {C = RefusedPair mode ob s Stopped a}
          (λ p. let z = ap (λ (x : Answer). x.refusal) (sym e ∙ accepted_out p.0 p.1.0 p.1.1) in absurd (omega arith))
          (λ r. subst (RefusedPair mode ob s Stopped) (sym (refused_gives r.1).0 ∙ e) r.1) accepted_or_refused
