-- The ways out of the translation: the proof check refuses, the buffer is too short, the derivation is written.
use Prim.Native.Nat.{ℕ, ◌+◌, ◌*◌, ◌<◌, ◌≤◌}
use Rattle.std.specs.Prelude.{◌≡◌, Result, Err, IsErrAnd}
use Rattle.std.proofs.lemmas.Result.{err_from_is_err_and}
use Rattle.std.proofs.Math.Path.{refl, sym, ap}
use Rattle.std.proofs.Common.{◌∙◌}
use mathlib.Core.List.{List, ◌++◌}
use Rattle.std.proofs.Math.ListN.{length, take, drop}
use Rattle.std.proofs.Math.Seq.{take_at, drop-append_seam}
use native.Mathlib.Omega.{arith}
use borrow.Author.Tests.{eq-eqb, ne_eqb, lt-ltb, le-ltb}
use Rattle.reader.specs.declared.Answer.{Answer}
use Rattle.reader.specs.declared.Refusal.{Refusal}
use Rattle.reader.specs.Refusals.{answer_of}
use Rattle.reader.specs.RefusalLaws.{number_some}
use Rattle.reader.specs.Words.{word_of}
use Rattle.reader.specs.Tests.{if_lt}
use Rattle.reader.specs.Answers.{answer, accepted}
use Rattle.reader.specs.Places.{count_of, root_of}
use Rattle.reader.specs.Walk.{and_then}
use Rattle.reader_laws.specs.File.{beside}
use Rattle.proof_rules.specs.Check.{proof_answer}
use Rattle.proof_meaning.proofs.Theorems.{proof_accepted}
use Rattle.derivation_rules.specs.Check.{derivation_answer}
use Rattle.translation_rules.specs.Output.{written}
use Rattle.translation_rules.specs.Bytes.{derivation_bytes}
use Rattle.translation_rules.specs.Check.{room_for, translation_answer}
use Rattle.translation_addresses.proofs.Addresses.{written_fits}
use Rattle.translation_meaning.specs.Translates.{Translates}
use Rattle.translation_meaning.specs.Accepted.{obligation_few, proof_few, long, range, root_rule, bytes_are}
use Rattle.translation_meaning.specs.Theorems.{translation_accepted}
use Rattle.translation_write.specs.Put.{put}
use Rattle.translation_file.specs.Derivation.{Ready}
use Rattle.translation.specs.declared.Translation.{Translation}
use Rattle.translation.specs.Numbers.{answer_in, length_in}

module _ (ob pf before : List ℕ) (a : Answer) (ea : a ≡ proof_answer ob pf) where
  -- the proof check's refusal
  refused_answer : (a.refusal ≡ 0 → ⊥) → a ≡ translation_answer ob pf (length before)
  unfolding translation_answer and_then
  refused_answer h = simp (translation_answer, and_then, ← ea, ne_eqb a.refusal 0 h)

  pub refused_translates : (a.refusal ≡ 0 → ⊥) → Translates ob pf before before a 0
  refused_translates h = record {
    answers = refused_answer h;
    refused = λ no. (refl, refl);
    within = omega arith;
    past = refl;
    derived = λ e. absurd (h e);
  }

  module _ (none : a.refusal ≡ 0) (n : ℕ) (en : n ≡ word_of pf 0 1) where
    -- an accepted proof has few records
    accepts : (k : ℕ) × (proof_answer ob pf ≡ accepted k)
    accepts = proof_accepted ob pf (ap (λ (x : Answer). x.refusal) (sym ea) ∙ none)

    pub count_few : n ≤ 3072
    count_few = omega (arith, en, proof_few ob pf accepts.0 accepts.1)

    -- "19 buffer under 16 × (1 + 64 × (n+1)) bytes"
    short_answer : length before < 16 * (1 + 64 * (n + 1)) → answer 19 2 0 a.nodes ≡ translation_answer ob pf (length before)
    unfolding translation_answer and_then if_lt room_for
    short_answer h = simp (translation_answer, and_then, ← ea, eq-eqb a.refusal 0 none, if_lt, room_for, lt-ltb (length before) (16 * (1 + 64 * (word_of pf 0 1 + 1))) (rw en at h))

    pub short_translates : length before < 16 * (1 + 64 * (n + 1)) → Translates ob pf before before (answer 19 2 0 a.nodes) 0
    short_translates h = record {
      answers = short_answer h;
      refused = λ no. (refl, refl);
      within = omega arith;
      past = refl;
      derived = λ e. absurd (omega (arith, e));
    }

    -- the derivation is written
    done_answer : 16 * (1 + 64 * (n + 1)) ≤ length before → a ≡ translation_answer ob pf (length before)
    unfolding translation_answer and_then if_lt room_for
    done_answer h = simp (translation_answer, and_then, ← ea, eq-eqb a.refusal 0 none, if_lt, room_for, le-ltb (length before) (16 * (1 + 64 * (word_of pf 0 1 + 1))) (rw en at h)) refl

    pub done_translates : 16 * (1 + 64 * (n + 1)) ≤ length before → (after : List ℕ) (len : ℕ) →
        len ≡ 16 * (1 + written (beside ob pf) (count_of ob) (count_of pf)) → after ≡ put before 0 (derivation_bytes ob pf) → Translates ob pf before after a len
    unfolding put
    done_translates h after len el ea =
        let dv : List ℕ = derivation_bytes ob pf in
        let long : length dv ≡ len = bytes_are ob pf accepts.0 accepts.1 ∙ sym el in
        let front : take len after ≡ dv = ap (take len) ea ∙ take_at dv (drop (0 + length dv) before) len long in
        let d = translation_accepted ob pf accepts.0 accepts.1 in
        record {
          answers = done_answer h;
          refused = λ no. absurd (no none);
          within = omega (arith, el, en, written_fits (beside ob pf) (count_of ob) (count_of pf));
          past = ap (drop len) ea ∙ drop_behind dv before len long;
          derived = λ e. (d.0, ap (derivation_answer ob) front ∙ d.1);
        }
      where
        drop_behind : (vs l : List ℕ) (c : ℕ) → length vs ≡ c → drop c (vs ++ drop (0 + length vs) l) ≡ drop c l
        drop_behind vs l c e =
            let same : 0 + length vs ≡ c = omega arith in
            ap (λ (x : ℕ). drop x (vs ++ drop (0 + length vs) l)) (sym e)
            ∙ drop-append_seam vs (drop (0 + length vs) l) ∙ ap (λ (x : ℕ). drop x l) same

    -- what the writer asks of an accepted pair and its buffer
    pub ready : 16 * (1 + 64 * (n + 1)) ≤ length before → Ready ob pf before
    ready h =
        let k : ℕ = accepts.0 in
        let e : proof_answer ob pf ≡ accepted k = accepts.1 in
        record {
          few = omega (arith, obligation_few ob pf k e);
          count = omega (arith, proof_few ob pf k e);
          whole = long ob pf k e;
          root = (range ob pf k e (root_of pf) (root_rule ob pf k e)).1;
          room = omega (arith, en);
        }

-- the proof check's refusal e, returned as it is
pub err_translates : (ob pf before : List ℕ) (e : Refusal) (r : Result Translation Refusal) → answer_of (Err e) ≡ proof_answer ob pf
    → IsErrAnd r (λ x. x ≡ e) → Translates ob pf before before (answer_in r) (length_in r)
err_translates ob pf before e r h same =
    let p = err_from_is_err_and r same in
    rw (p.1, p.2) (refused_translates ob pf before (answer_of (Err e)) h (number_some e.fault))
