-- An accepted pair, and the file that its translation is: what the laws of copies, blocks, bytes and naming ask, from the two checks' laws.
use Rattle.std.specs.Prelude.{ℕ, ◌+◌, ◌*◌, ◌%◌, ◌<◌, ◌≤◌, ◌≡◌, refl, List, Bool, true, false, ltb}
use Rattle.std.proofs.Common.{sym, ap, subst, ⊎_elim, arith, eq-eqb, le-leb, ltb-true, ltb-false}
use Rattle.std.proofs.Math.ListN.{length}
use Rattle.reader.specs.declared.Answer.{Answer}
use Rattle.reader.specs.Words.{Reader, word_of, record_count}
use Rattle.reader.specs.Tests.{if_eq}
use Rattle.reader.specs.Kinds.{is_rule}
use Rattle.reader.specs.Trees.{Tree}
use Rattle.reader.specs.Answers.{accepted}
use Rattle.reader.specs.Places.{most_records, length_fits, header_fits, counts_fit, count_of, root_of}
use Rattle.reader_laws.specs.Scan.{both_join}
use Rattle.reader_laws.specs.Record.{Sound}
use Rattle.reader_laws.specs.File.{beside, ReadObligation, ReadSecond, reading_parts, length_parts, header_parts, counts_parts}
use Rattle.reader_laws.specs.Pair.{pair_sound, rule_range}
use Rattle.proof_rules.specs.Check.{proof_answer}
use Rattle.proof_meaning.specs.Proves.{Proves}
use Rattle.proof_meaning.specs.Statements.{RootProves}
use Rattle.proof_meaning.proofs.AnswerLaws.{read_and_walked, accepted_means}
use Rattle.derivation_meaning.specs.Formulas.{OfLanguage}
use Rattle.derivation_meaning.proofs.Start.{files_formed}
use Rattle.translation_rules.specs.Templates.{template, lines_of_start}
use Rattle.translation_rules.specs.Output.{copied, size, base_of, start_of, written, letters_of, letters_of_start, Translated}
use Rattle.translation_rules.specs.Bytes.{derivation_bytes}
use Rattle.translation_addresses.proofs.Addresses.{size_rule, base_start, last_is, written_most, InBlock, InStart, locate}
use Rattle.translation_reached.specs.Reached.{reached}
use Rattle.translation_copies.specs.Copies.{copied_tree, copied_class}
use Rattle.translation_copies.specs.Sound.{copied_bottom_tree}
use Rattle.translation_copies.specs.Outputs.{output_tree, output_class, output_bottom, output_sound}
use Rattle.translation_records.specs.AddressLaws.{addresses}
use Rattle.translation_records.specs.Blocks.{Passed, block_passed, start_passed, passed_sound}
use Rattle.translation_records.specs.Below.{passed_below}
use Rattle.translation_bytes.specs.Lines.{BlocksFit, StartFits}
use Rattle.translation_bytes.specs.Written.{bytes_length, header_first, header_count, header_root, header_obligation, translated}

module _ (ob pf : List ℕ) (k : ℕ) (h : proof_answer ob pf ≡ accepted k) where
  abbrev rd : Reader
  rd = beside ob pf

  abbrev m : ℕ
  m = count_of ob

  abbrev n : ℕ
  n = count_of pf

  abbrev root : ℕ
  root = root_of pf

  -- the pair passed places 1 to 12, and its root proves the start
  files : ReadObligation ob × ReadSecond 1 ob pf
  files = reading_parts 1 ob pf (ap (λ (a : Answer). a.refusal) (read_and_walked ob pf (ap (λ (a : Answer). a.refusal) h)).0)

  pub obligation_read : ReadObligation ob
  obligation_read = files.0

  pub proof_read : ReadSecond 1 ob pf
  proof_read = files.1

  pub root_proves : RootProves ob pf k
  root_proves = (accepted_means ob pf k h).1

  pub sound : (i : ℕ) → 1 ≤ i → i ≤ count_of ob + count_of pf → Sound 1 (beside ob pf) i
  sound = pair_sound 1 ob pf obligation_read proof_read

  pub range : (i : ℕ) → is_rule 1 (beside ob pf i 0) ≡ true → (count_of ob < i) × (i ≤ count_of ob + count_of pf)
  range i e = let p = rule_range 1 ob pf obligation_read proof_read i e in omega (arith, p.0, p.1)

  pub root_rule : is_rule 1 (beside ob pf (root_of pf) 0) ≡ true
  root_rule = proof_read.root

  pub formed : OfLanguage (beside ob pf)
  formed = files_formed 1 ob pf obligation_read proof_read

  pub proved : (i : ℕ) → is_rule 1 (beside ob pf i 0) ≡ true → (Γ : List Tree) × (j : ℕ) × Proves (beside ob pf) Γ i j
  proved = reached ob pf k obligation_read proof_read root_proves

  -- the counts are within the limits
  pub obligation_few : count_of ob + 1 ≤ 1024
  unfolding most_records if_eq
  obligation_few = omega (arith, (length_parts 0 ob obligation_read.length_of).2, (header_parts ob obligation_read.header).1)

  counts_of : (word_of pf 0 0 ≡ 1) × (count_of pf + 1 ≡ record_count pf)
  counts_of = header_parts pf (counts_parts ob pf proof_read.counts).0

  pub proof_few : count_of pf + 1 ≤ 3073
  unfolding most_records if_eq
  proof_few = omega (arith, (length_parts 1 pf proof_read.length_of).2, counts_of.1)

  pub long : 16 * (1 + count_of pf) ≤ length pf
  unfolding record_count
  long = omega (arith, counts_of.1)

  pub few : written (beside ob pf) (count_of ob) (count_of pf) ≤ 67589
  few = omega (arith, written_most rd m n, proof_few)

  pub no_rules : (i : ℕ) → i ≤ count_of ob → is_rule 1 (beside ob pf i 0) ≡ false
  no_rules i p = go (is_rule 1 (rd i 0)) refl
    where
      go : (b : Bool) → is_rule 1 (rd i 0) ≡ b → is_rule 1 (rd i 0) ≡ false
      go true e = absurd (omega (arith, (range i e).0))
      go false e = e

  -- Every word of a block is an address of the file, so it fits 32 bits.
  copies_passed : (i : ℕ) → is_rule 1 (rd i 0) ≡ true → Passed rd (copied rd) (letters_of rd m n i) (template (rd i 0))
  copies_passed i e =
      block_passed rd (copied rd) m n root sound (copied_tree rd (m + n) sound) (λ j p q. copied_class rd j q) (λ j p q r. copied_bottom_tree rd j p r)
      range root_rule (addresses rd m n) (proved i e).2

  start_copies : Passed rd (copied rd) (letters_of_start rd m n root) lines_of_start
  start_copies =
      start_passed rd (copied rd) m n root sound (copied_tree rd (m + n) sound) (λ j p q. copied_class rd j q) (λ j p q r. copied_bottom_tree rd j p r)
      range root_rule (addresses rd m n)

  pub blocks_fit : BlocksFit (beside ob pf) (count_of ob) (count_of pf)
  blocks_fit i r low high e less =
      let w = passed_below rd (copied rd) (letters_of rd m n i) (template (rd i 0)) (copies_passed i e) r less in
      let last : base_of rd m n i + size rd i ≤ start_of rd m n = base_start rd m n i low high in
      let long_is : size rd i ≡ length (template (rd i 0)) = (size_rule rd i e).0 in
      let end : m + written rd m n ≡ start_of rd m n + 4 = last_is rd m n in
      let most : written rd m n ≤ 67589 = few in
      let count : m + 1 ≤ 1024 = obligation_few in
      record { first = omega (arith, w.first); second = omega (arith, w.second); third = omega (arith, w.third) }

  pub start_fits : StartFits (beside ob pf) (count_of ob) (count_of pf) (root_of pf)
  start_fits r less =
      let w = passed_below rd (copied rd) (letters_of_start rd m n root) lines_of_start start_copies r less in
      let end : m + written rd m n ≡ start_of rd m n + 4 = last_is rd m n in
      let most : written rd m n ≤ 67589 = few in
      let count : m + 1 ≤ 1024 = obligation_few in
      record { first = omega (arith, w.first); second = omega (arith, w.second); third = omega (arith, w.third) }

  -- The file that is written.
  abbrev dv : List ℕ
  dv = derivation_bytes ob pf

  abbrev ro : Reader
  ro = beside ob dv

  small : m + written rd m n < 4294967296
  small = omega (arith, few, obligation_few)

  pub tr : Translated (beside ob pf) (beside ob (derivation_bytes ob pf)) (count_of ob) (count_of pf) (root_of pf)
  tr = translated ob pf long no_rules blocks_fit start_fits

  pub count_is : count_of (derivation_bytes ob pf) ≡ written (beside ob pf) (count_of ob) (count_of pf)
  count_is = header_count ob pf small

  pub root_is : root_of (derivation_bytes ob pf) ≡ start_of (beside ob pf) (count_of ob) (count_of pf) + 4
  root_is = header_root ob pf small

  pub bytes_are : length (derivation_bytes ob pf) ≡ 16 * (1 + written (beside ob pf) (count_of ob) (count_of pf))
  bytes_are = bytes_length ob pf long

  -- its length and header
  records_are : record_count dv ≡ 1 + written rd m n
  unfolding record_count
  records_are = omega (arith, bytes_are)

  pub length_fits_lem : length_fits 2 (derivation_bytes ob pf) ≡ true
  unfolding length_fits most_records if_eq
  length_fits_lem =
      let l : length dv ≡ 16 * (1 + written rd m n) = bytes_are in
      both_join _ _ (le-leb 16 (length dv) (omega arith))
      (both_join _ _ (eq-eqb (length dv % 16) 0 (omega arith)) (le-leb (record_count dv) 200001 (omega (arith, records_are, few))))

  pub counts_fit_lem : counts_fit ob (derivation_bytes ob pf) ≡ true
  unfolding counts_fit header_fits
  counts_fit_lem =
      both_join _ _
      (both_join _ _ (eq-eqb (word_of dv 0 0) 1 (header_first ob pf small)) (eq-eqb (word_of dv 0 1 + 1) (record_count dv) (omega (arith, count_is, records_are))))
      (eq-eqb (word_of dv 0 3) m (header_obligation ob pf small))

  -- its records
  output_passed : (i : ℕ) → is_rule 1 (rd i 0) ≡ true → Passed rd ro (letters_of rd m n i) (template (rd i 0))
  output_passed i e =
      block_passed rd ro m n root sound (output_tree rd (m + n) ro tr.copies sound) (output_class rd (m + n) ro tr.copies)
      (output_bottom rd (m + n) ro tr.copies) range root_rule (addresses rd m n) (proved i e).2

  start_output : Passed rd ro (letters_of_start rd m n root) lines_of_start
  start_output =
      start_passed rd ro m n root sound (output_tree rd (m + n) ro tr.copies sound) (output_class rd (m + n) ro tr.copies)
      (output_bottom rd (m + n) ro tr.copies) range root_rule (addresses rd m n)

  in_block : (r : ℕ) → InBlock rd m n r → Sound 2 ro r
  in_block r b =
      let i : ℕ = b.block in
      let less : b.offset < length (template (rd i 0)) = omega (arith, b.inside, (size_rule rd i b.rule).0) in
      subst (Sound 2 ro) (sym b.is)
      (passed_sound rd ro (letters_of rd m n i) (template (rd i 0)) (output_passed i b.rule) (tr.blocks i b.after b.within b.rule) b.offset less)

  in_start : (r : ℕ) → InStart rd m n r → Sound 2 ro r
  in_start r b =
      subst (Sound 2 ro) (sym b.is)
      (passed_sound rd ro (letters_of_start rd m n root) lines_of_start start_output tr.start b.offset b.inside)

  pub output_all : (i : ℕ) → count_of ob + 1 ≤ i → i ≤ count_of ob + count_of (derivation_bytes ob pf) → Sound 2 (beside ob (derivation_bytes ob pf)) i
  output_all i low high = go (ltb (m + n) i) refl
    where
      go : (b : Bool) → ltb (m + n) i ≡ b → Sound 2 ro i
      go true e = ⊎_elim (in_block i) (in_start i) (locate rd m n i (ltb-true (m + n) i e) (omega (arith, count_is)))
      go false e = output_sound rd (m + n) ro tr.copies sound i (omega arith) (ltb-false (m + n) i e)
