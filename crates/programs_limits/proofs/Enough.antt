-- Of each file one byte more is read than an accepted one has, and the buffer has room for the derivation of any accepted proof.
use Rattle.std.specs.Prelude.{ℕ, ◌+◌, ◌≤◌, ◌≡◌, refl, List, Bool, true, false, eqb, length, take}
use Rattle.std.proofs.Common.{sym, ◌∙◌, arith, eqb-true, le-ltb, take-take}
use Rattle.reader.specs.declared.Answer.{Answer}
use Rattle.reader.specs.Tests.{if_eq, if_lt}
use Rattle.reader.specs.Words.{word}
use Rattle.reader.specs.Places.{most_records, count_of, root_of, reading}
use Rattle.reader.specs.Walk.{and_then}
use Rattle.reader_laws.specs.Scan.{or_answer_parts}
use Rattle.reader_laws.specs.File.{reading_parts, records_few}
use Rattle.proof_rules.specs.Check.{proof_walk, proof_answer}
use Rattle.derivation_rules.specs.Check.{derivation_walk, derivation_answer}
use Rattle.translation_rules.specs.Check.{room_for, translation_answer}
use Rattle.translation_meaning.specs.Translates.{Translates}
use Rattle.programs.specs.Enough as any-answer
use Rattle.programs_limits.specs.Limits.{obligation_read, proof_read, derivation_read, buffer_size}

-- A file longer than any accepted one is still answered rightly where one byte more than the limit is read

pub proof_enough : (ob pf : List ℕ) → proof_answer (take obligation_read ob) (take proof_read pf) ≡ proof_answer ob pf
unfolding proof_answer most_records if_eq
proof_enough = any-answer.enough 1 (λ ob pf. proof_walk (word ob pf (count_of ob)) (root_of pf)) obligation_read proof_read refl refl

pub derivation_enough : (ob dv : List ℕ) → derivation_answer (take obligation_read ob) (take derivation_read dv) ≡ derivation_answer ob dv
unfolding derivation_answer most_records if_eq
derivation_enough = any-answer.enough 2 (λ ob dv. derivation_walk (word ob dv (count_of ob)) (root_of dv)) obligation_read derivation_read refl refl

-- an accepted proof has at most 3,072 records after its header
few_records : (ob pf : List ℕ) → (proof_answer ob pf).refusal ≡ 0 → count_of pf + 1 ≤ 3073
unfolding proof_answer most_records if_eq
few_records ob pf h = records_few 1 ob pf (reading_parts 1 ob pf (or_answer_parts (reading 1 ob pf) _ h).0).1

-- The buffer is never too small: the four numbers are the proof check's
pub room_for_all : (ob pf : List ℕ) → translation_answer ob pf buffer_size ≡ proof_answer ob pf
unfolding translation_answer and_then if_lt room_for
room_for_all ob pf = go (eqb (proof_answer ob pf).refusal 0) refl
  where
    go : (b : Bool) → eqb (proof_answer ob pf).refusal 0 ≡ b → translation_answer ob pf buffer_size ≡ proof_answer ob pf
    go false e = simp (translation_answer, and_then, e)
    go true e =
        let few = few_records ob pf (eqb-true _ 0 e) in
        let room : room_for (count_of pf) ≤ buffer_size = omega arith in
        simp (translation_answer, and_then, e, if_lt, le-ltb buffer_size (room_for (count_of pf)) room)

-- The translation's four numbers, too, are those of the whole files
pub translation_enough : (ob pf : List ℕ) → translation_answer (take obligation_read ob) (take proof_read pf) buffer_size ≡ proof_answer ob pf
translation_enough ob pf = room_for_all (take obligation_read ob) (take proof_read pf) ∙ proof_enough ob pf

-- a derivation is checked alike beside the bytes read of an obligation and beside all of it
obligation_enough : (ob dv : List ℕ) → derivation_answer (take obligation_read ob) dv ≡ derivation_answer ob dv
obligation_enough ob dv =
    sym (rw (take-take obligation_read obligation_read ob (omega arith)) at (derivation_enough (take obligation_read ob) dv)) ∙ derivation_enough ob dv

-- What the program does with the bytes that it reads, it does with the whole files
pub translates_enough : (ob pf before after : List ℕ) (a : Answer) (len : ℕ) → length before ≡ buffer_size
    → Translates (take obligation_read ob) (take proof_read pf) before after a len → Translates ob pf before after a len
translates_enough ob pf before after a len size t =
    let same = translation_enough ob pf ∙ sym (room_for_all ob pf) in
    record {
      answers = t.answers ∙ rw size same;
      refused = t.refused;
      within = t.within;
      past = t.past;
      derived = λ accepts. let d = t.derived accepts in (d.0, sym (obligation_enough ob (take len after)) ∙ d.1);
    }
