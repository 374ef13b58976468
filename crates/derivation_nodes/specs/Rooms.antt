-- refusal 17: by the number of members and the table, and the ways out of the code.
use Rattle.std.specs.Prelude.{ℕ, ◌+◌, ◌≤◌, ◌≡◌, List, [], ◌∷◌, ◌++◌, Bool}
use Rattle.std.proofs.Math.Path.{refl, sym, ap}
use Rattle.std.proofs.Common.{◌∙◌, length-append, arith, leb-true, le-leb}
use Rattle.std.proofs.Math.Bool.{true, false}
use Rattle.std.proofs.Math.Dec.{leb}
use Rattle.std.proofs.Math.ListN.{length, length-map}
use Rattle.reader.specs.Words.{Reader}
use Rattle.reader.specs.Tests.{every, if_eq, if_lt}
use Rattle.reader.specs.TestLaws.{eq_yes, eq_no}
use Rattle.reader.specs.Trees.{Tree, lower, first_of, ¬ᵗ◌}
use Rattle.reader.specs.Chains.{linked, items, parts}
use Rattle.derivation_rules.specs.Erase.{bare_tree, bare_parts}
use Rattle.derivation_rules.specs.Rules.{State, row}
use Rattle.reader.specs.Members.{part}
use Rattle.derivation_rules.specs.Check.{few_members}
use Rattle.derivation_rules.specs.RowLaws.{row_none, by_rule}
use Rattle.reader_bytes.specs.Bytes.{byte_of, premises_of}
use Rattle.derivation_bytes.specs.Bytes.{derivation_byte}
use Rattle.derivation_bytes.proofs.Rows.{premises_none}
use Rattle.derivation_tables.specs.Tables.{column}

-- the premises of node n have room beside h members; those of BR2 are its parts
unfoldable pub node_room : Reader → ℕ → ℕ → Bool
node_room rd h n =
    if_eq (rd n 0) 65 (leb (length (bare_parts rd n)) 2048) (if_eq (premises_of (derivation_byte (rd n 0))) 0 true (leb (h + column (rd n 0) 2) 2048))

once : (b : Bool) → elim b as (λ x. Bool) [ true ↦ true | false ↦ false ] ≡ b
once true = refl
once false = refl

twice : (b : Bool) → elim b as (λ x. Bool) [ true ↦ elim b [ true ↦ true | false ↦ false ] | false ↦ false ] ≡ b
twice true = refl
twice false = refl

-- room for one member more is room
one_more : (h : ℕ) → elim (leb h 2048) as (λ x. Bool) [ true ↦ elim (leb (h + 1) 2048) [ true ↦ true | false ↦ false ] | false ↦ false ] ≡ leb (h + 1) 2048
one_more h = go (leb (h + 1) 2048) refl
  where
    go : (b : Bool) → leb (h + 1) 2048 ≡ b → elim (leb h 2048) as (λ x. Bool) [ true ↦ elim b [ true ↦ true | false ↦ false ] | false ↦ false ] ≡ b
    go true e =
        let high : h + 1 ≤ 2048 = leb-true (h + 1) 2048 e in
        let fits : leb h 2048 ≡ true = le-leb h 2048 (omega arith) in
        rw fits refl
    go false e = by (leb h 2048)
      where
        by : (a : Bool) → elim a as (λ x. Bool) [ true ↦ elim false as (λ x. Bool) [ true ↦ true | false ↦ false ] | false ↦ false ] ≡ false
        by true = refl
        by false = refl

module _ (ps : List Tree) (st : State) where
  abbrev h : ℕ
  h = length st.members

  none_more : leb h 2048 ≡ leb (h + 0) 2048
  none_more = let same : h ≡ h + 0 = omega arith in ap (λ (n : ℕ). leb n 2048) same

  added : (t : Tree) → length (st.members ++ (t ∷ [])) ≡ h + 1
  added t = length-append st.members (t ∷ [])

  two : (t : Tree) → elim (leb (length (st.members ++ (t ∷ []))) 2048) as (λ x. Bool) [ true ↦ elim (leb (length (st.members ++ (t ∷ []))) 2048) [ true ↦ true | false ↦ false ] | false ↦ false ]
      ≡ leb (h + 1) 2048
  two t = twice (leb (length (st.members ++ (t ∷ []))) 2048) ∙ ap (λ (n : ℕ). leb n 2048) (added t)

  -- the rows say the same
  room_rule : (k : ℕ) → every few_members (row k ps st).premises ≡ if_eq k 65 (leb (length ps) 2048) (if_eq (premises_of (derivation_byte k)) 0 true (leb (h + column k 2) 2048))
  unfolding row if_eq if_lt column premises_of derivation_byte byte_of every few_members
  room_rule =
      by_rule (λ k. every few_members (row k ps st).premises ≡ if_eq k 65 (leb (length ps) 2048) (if_eq (premises_of (derivation_byte k)) 0 true (leb (h + column k 2) 2048)))
      refl
      (once (leb (length ps) 2048))
      refl
      (ap (λ (n : ℕ). elim (leb h 2048) as (λ x. Bool) [ true ↦ elim (leb n 2048) [ true ↦ true | false ↦ false ] | false ↦ false ]) (added (part ps 0)) ∙ one_more h)
      refl
      (twice (leb h 2048) ∙ none_more)
      (twice (leb h 2048) ∙ none_more)
      (once (leb h 2048) ∙ none_more)
      (once (leb h 2048) ∙ none_more)
      (ap (λ (n : ℕ). elim (leb n 2048) as (λ x. Bool) [ true ↦ true | false ↦ false ]) (added (first_of st.goal)) ∙ once (leb (h + 1) 2048))
      (once (leb h 2048) ∙ none_more)
      (two (¬ᵗ st.goal))
      (two (first_of st.goal))
      (once (leb h 2048) ∙ none_more)
      (once (leb h 2048) ∙ none_more)
      (twice (leb h 2048) ∙ none_more)
      refl
      (λ k other. rw (row_none k ps st other)
      (eq_no k 65 _ _ true (λ z. other 65 (omega arith) (omega arith) z) (eq_yes (premises_of (derivation_byte k)) 0 _ _ true (sym (premises_none k other)) refl)))

pub node_room_lem : (rd : Reader) (n : ℕ) (st : State) → node_room rd (length st.members) n ≡ every few_members (row (rd n 0) (bare_parts rd n) st).premises
unfolding node_room
node_room_lem rd n st = sym (room_rule (bare_parts rd n) st (rd n 0))

-- The ways out of `has_room`.
module _ (rd : Reader) (h n k : ℕ) (ek : k ≡ rd n 0) where
  parts_length : length (bare_parts rd n) ≡ length (linked rd (lower rd n 1))
  unfolding bare_parts parts items
  parts_length = length-map (items rd (lower rd n 1)) (bare_tree rd) ∙ length-map (linked rd (lower rd n 1)) (λ l. lower rd l 1)

  pub room_parts : k ≡ 65 → (c count : ℕ) → c ≡ lower rd n 1 → count ≡ length (linked rd c) → leb count 2048 ≡ node_room rd h n
  unfolding node_room
  room_parts q c count ec e =
      rw (← ek) (eq_yes k 65 _ _ (leb count 2048) q (ap (λ (i : ℕ). leb i 2048) (e ∙ ap (λ (l : ℕ). length (linked rd l)) ec ∙ sym parts_length)))

  module _ (other : k ≡ 65 → ⊥) (byte count : ℕ) (eb : byte ≡ derivation_byte k) (ec : count ≡ premises_of byte) where
    pub room_none : count ≡ 0 → true ≡ node_room rd h n
    unfolding node_room
    room_none q = rw (← ek, ← eb, ← ec) (eq_no k 65 _ _ true other (eq_yes count 0 _ _ true q refl))

    pub room_some : (count ≡ 0 → ⊥) → (more : ℕ) → more ≡ column k 2 → leb (h + more) 2048 ≡ node_room rd h n
    unfolding node_room
    room_some q more em = rw (← ek, ← eb, ← ec, ← em) (eq_no k 65 _ _ (leb (h + more) 2048) other (eq_no count 0 _ _ (leb (h + more) 2048) q refl))
