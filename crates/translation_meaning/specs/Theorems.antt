-- The translation of an accepted proof passes places 1 to 12 and its root derives the start: the proofs of the claims of `Statements`.
use Prim.Native.Nat.{ℕ, zero, suc, ◌+◌, ◌<◌, ◌≤◌}
use Rattle.std.specs.Prelude.{◌≡◌, refl, Bool, true, take}
use Rattle.std.proofs.Common.{sym, ◌∙◌, length-append, lt-ltb, le-ltb}
use Rattle.std.proofs.Math.Path.{ap, subst}
use mathlib.Core.List.{List, [], ◌∷◌, map}
use Rattle.std.proofs.Math.Bool.{false}
use Rattle.std.proofs.Math.ListN.{length, length-map}
use native.Mathlib.Omega.{arith}
use Rattle.reader.specs.declared.Answer.{Answer}
use Rattle.reader.specs.Words.{Reader}
use Rattle.reader.specs.Tests.{if_eq, if_lt, between}
use Rattle.reader.specs.Kinds.{is_rule}
use Rattle.reader.specs.Trees.{Tree, tree, lower, ⊥ᵗ, ¬ᵗ◌}
use Rattle.reader.specs.Chains.{linked, items, item_trees}
use Rattle.reader.specs.Answers.{accepted}
use Rattle.reader.specs.Places.{hypothesis_chain, hypotheses, goal, count_of, root_of, namings}
use Rattle.reader.specs.Members.{◌▹◌}
use Rattle.reader.specs.Walk.{and_then}
use Rattle.reader_laws.specs.Scan.{when_true, when_false}
use Rattle.reader_laws.specs.File.{alone, beside, ReadSecond, hypotheses_limit}
use Rattle.reader_laws.specs.Pair.{header_kind, kind_or_rule, rule_once}
use Rattle.proof_rules.specs.Check.{proof_answer, start_sequent}
use Rattle.proof_meaning.proofs.Theorems.{start_is}
use Rattle.derivation_rules.specs.Erase.{⌊◌⌋, bare_tree}
use Rattle.derivation_rules.specs.Check.{bare_hypotheses, bare_goal, derivation_answer}
use Rattle.derivation_meaning.specs.Derives.{Derives}
use Rattle.derivation_meaning.proofs.EraseLaws.{erase_false, erase_not}
use Rattle.derivation_meaning.proofs.Start.{hypotheses_alone, goal_alone}
use Rattle.derivation_meaning.proofs.AnswerLaws.{read_accepted}
use Rattle.derivation_meaning.proofs.Theorems.{derivation-B}
use Rattle.translation_rules.specs.Output.{line_word, copied, end_of, start_of, written, letters_of_start}
use Rattle.translation_rules.specs.Bytes.{derivation_bytes}
use Rattle.translation_rules.specs.Check.{room_for, translation_answer}
use Rattle.translation_addresses.proofs.Addresses.{base_after, base_start, end_start}
use Rattle.translation_copies.specs.Outputs.{output_bottom}
use Rattle.translation_blocks.specs.Quantified.{block_start}
use Rattle.translation_derives.specs.Members.{one_more}
use Rattle.translation_derives.specs.Nodes.{derives}
use Rattle.translation_named.specs.Once.{named_once}
use Rattle.translation_records.specs.Letters.{premise_below}
use Rattle.translation_meaning.specs.Statements.{TranslationAccepted, TranslationB, TranslationMeans, TranslationLengthIs, TranslationLength}
use Rattle.translation_meaning.specs.Accepted.{obligation_read, proof_read, root_proves, sound, range, root_rule, formed, proved, tr, count_is, root_is, bytes_are, length_fits_lem, counts_fit_lem, output_all}
use Rattle.translation_meaning.specs.Premises.{proves_premised}
use Rattle.translation_meaning.specs.Length.{length_most}

-- a kind of the table, or 14, is no rule of a derivation
low_kind : (k : ℕ) → k < 64 → is_rule 2 k ≡ false
unfolding is_rule between if_eq if_lt
low_kind k h = simp (is_rule, between, if_eq, if_lt, lt-ltb k 64 h)

module _ (ob pf : List ℕ) (k : ℕ) (h : proof_answer ob pf ≡ accepted k) where
  abbrev rd : Reader
  rd = beside ob pf

  abbrev m : ℕ
  m = count_of ob

  abbrev n : ℕ
  n = count_of pf

  abbrev root : ℕ
  root = root_of pf

  abbrev dv : List ℕ
  dv = derivation_bytes ob pf

  abbrev ro : Reader
  ro = beside ob dv

  -- copied records are no nodes of a derivation
  rule_free : (i : ℕ) → i ≤ m + n → is_rule 2 (ro i 0) ≡ false
  unfolding copied if_eq
  rule_free i p = ap (is_rule 2) ((tr ob pf k h).copies i 0 p) ∙ low_kind (copied rd i 0) (go (is_rule 1 (rd i 0)) refl)
    where
      low : is_rule 1 (rd i 0) ≡ false → (j : ℕ) → i ≡ j → rd i 0 < 64
      low e zero z = let one : rd 0 0 ≡ 1 = header_kind ob pf (obligation_read ob pf k h) in rw z (omega arith)
      low e (suc j) z = omega (arith, (kind_or_rule 1 (rd i 0) (sound ob pf k h i (omega arith) p).kind e).1)

      go : (b : Bool) → is_rule 1 (rd i 0) ≡ b → copied rd i 0 < 64
      go true e = omega (arith, when_true (if_eq 0 0 14 0) (rd i 0) (is_rule 1 (rd i 0)) e)
      go false e = omega (arith, when_false (if_eq 0 0 14 0) (rd i 0) (is_rule 1 (rd i 0)) e, low e i refl)

  -- every rule node is named exactly once
  once : (r : ℕ) → m < r → r ≤ m + written rd m n → is_rule 2 (ro r 0) ≡ true → if_eq (start_of rd m n + 4) r 1 0 + namings 2 ro r (m + written rd m n) ≡ 1
  once =
      named_once rd ro m n root (tr ob pf k h) rule_free (range ob pf k h) (root_rule ob pf k h)
      (λ i e. (proves_premised (proved ob pf k h i e).2).arity)
      (λ i a e less. ((proves_premised (proved ob pf k h i e).2).rules a less, premise_below rd i (omega (arith, (range ob pf k h i e).0)) a))
      (rule_once 1 ob pf (obligation_read ob pf k h) (proof_read ob pf k h))

  -- the root is the start's concluding node
  root_kind : ro (root_of dv) 0 ≡ 75
  unfolding line_word if_eq
  root_kind = ap (λ (i : ℕ). ro i 0) (root_is ob pf k h) ∙ (tr ob pf k h).start 4 0 (omega arith)

  -- places 1 to 12 of the derivation
  derivation_read : ReadSecond 2 ob dv
  unfolding is_rule between if_eq if_lt
  derivation_read = record {
    length_of = length_fits_lem ob pf k h;
    counts = counts_fit_lem ob pf k h;
    sound = output_all ob pf k h;
    root = ap (is_rule 2) root_kind;
    once = λ i low high e.
        let c : count_of dv ≡ written rd m n = count_is ob pf k h in
        let last : m + written rd m n ≡ m + count_of dv = omega arith in
        ap (λ (x : ℕ). if_eq x i 1 0 + namings 2 ro i (m + count_of dv)) (root_is ob pf k h)
        ∙ ap (λ (x : ℕ). if_eq (start_of rd m n + 4) i 1 0 + namings 2 ro i x) (sym last) ∙ once i (omega arith) (omega arith) e;
  }

  -- the start's sequent, types removed
  abbrev Γ : List Tree
  Γ = map ⌊◌⌋ (hypotheses (alone ob))

  abbrev G : Tree
  G = ⌊ goal (alone ob) ⌋

  few_hypotheses : length (hypotheses (alone ob)) ≤ 256
  unfolding item_trees items
  few_hypotheses =
      let chain = linked (alone ob) (hypothesis_chain (alone ob)) in
      let a : length (hypotheses (alone ob)) ≡ length (map (λ (l : ℕ). lower (alone ob) l 1) chain) = length-map (map (λ (l : ℕ). lower (alone ob) l 1) chain) (tree (alone ob)) in
      omega (arith, a, length-map chain (λ (l : ℕ). lower (alone ob) l 1), hypotheses_limit (alone ob) (obligation_read ob pf k h).hypotheses)

  start_bare : map ⌊◌⌋ (start_sequent rd) ≡ Γ ▹ ¬ᵗ G
  start_bare =
      ap (map ⌊◌⌋) (start_is ob pf (obligation_read ob pf k h) (proof_read ob pf k h))
      ∙ one_more (hypotheses (alone ob)) (¬ᵗ (goal (alone ob))) (erase_not (goal (alone ob)))

  start_length : length (start_sequent rd) ≤ 257
  start_length =
      let e = ap length (start_is ob pf (obligation_read ob pf k h) (proof_read ob pf k h)) in
      omega (arith, e, length-append (hypotheses (alone ob)) (¬ᵗ (goal (alone ob)) ∷ []), few_hypotheses)

  -- the root derives the start
  root_derives : (j : ℕ) × Derives ro Γ G 1 (start_of rd m n + 4) j
  unfolding bare_tree
  root_derives =
      let few : length (start_sequent rd) ≤ 257 = start_length in
      let p = derives rd ro m n root (tr ob pf k h) (sound ob pf k h) (range ob pf k h) (formed ob pf k h) (root_proves ob pf k h) 2 (omega arith) in
      let premise : Derives ro (Γ ▹ ¬ᵗ G) ⊥ᵗ 2 (end_of rd m n root) p.0 = subst (λ (Δ : List Tree). Derives ro Δ ⊥ᵗ 2 (end_of rd m n root) p.0) start_bare p.1 in
      let low : m < root = (range ob pf k h root (root_rule ob pf k h)).0 in
      let high : root ≤ m + n = (range ob pf k h root (root_rule ob pf k h)).1 in
      let end : end_of rd m n root < start_of rd m n = end_start rd m n root low high (root_rule ob pf k h) in
      let after = base_after rd m n root in
      let bottom = ap ⌊◌⌋ (output_bottom rd (m + n) ro (tr ob pf k h).copies root (omega arith) high (root_rule ob pf k h)) ∙ erase_false in (
        p.0 + 2,
        block_start rd ro (letters_of_start rd m n root) Γ 1 G (tr ob pf k h).start
            (record { members = omega (arith, length-map (hypotheses (alone ob)) ⌊◌⌋, few_hypotheses); depth = omega arith })
            (root_before, end) bottom premise,
      )
    where
      root_before : root < start_of rd m n
      root_before =
          let high : root ≤ m + n = (range ob pf k h root (root_rule ob pf k h)).1 in
          omega (arith, base_start rd m n root (range ob pf k h root (root_rule ob pf k h)).0 high, base_after rd m n root)

  translates : (j : ℕ) × (derivation_answer ob dv ≡ accepted j)
  translates =
      let p = root_derives in
      let r = obligation_read ob pf k h in
      let at : Derives ro (bare_hypotheses ro) (bare_goal ro) 1 (root_of dv) p.0 =
      subst (λ (i : ℕ). Derives ro (bare_hypotheses ro) (bare_goal ro) 1 i p.0) (sym (root_is ob pf k h))
      (subst (λ (Δ : List Tree). Derives ro Δ (bare_goal ro) 1 (start_of rd m n + 4) p.0) (sym (hypotheses_alone 2 ob dv r derivation_read))
      (subst (λ (P : Tree). Derives ro Γ P 1 (start_of rd m n + 4) p.0) (sym (goal_alone 2 ob dv r derivation_read)) p.1)) in
      (p.0, read_accepted ob dv p.0 r derivation_read at)

pub translation_accepted : TranslationAccepted
translation_accepted ob pf k h = translates ob pf k h

pub translation-B : TranslationB
translation-B ob pf k h = let p = translates ob pf k h in derivation-B ob (derivation_bytes ob pf) p.0 p.1

-- the proof check accepts, and there is room
room_answer : (ob pf : List ℕ) (size k : ℕ) → proof_answer ob pf ≡ accepted k → room_for (count_of pf) ≤ size → translation_answer ob pf size ≡ accepted k
unfolding translation_answer and_then if_lt
room_answer ob pf size k h room = simp (translation_answer, and_then, h, if_lt, le-ltb size (room_for (count_of pf)) room) refl

pub translation_means : TranslationMeans
translation_means ob pf before after a len k t h room =
    let same : a ≡ accepted k = t.answers ∙ room_answer ob pf (length before) k h room in
    let p = t.derived (ap (λ (x : Answer). x.refusal) same) in
    record { same = same; count = p.0; checked = p.1; derived_by_b = derivation-B ob (take len after) p.0 p.1 }

pub translation_length_is : TranslationLengthIs
translation_length_is ob pf k h = bytes_are ob pf k h

pub translation_length : TranslationLength
translation_length ob pf k h = length_most ob pf k h
