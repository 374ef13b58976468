-- The bytes of rules 32 to 46 say what the rows say: each law is one computation over the whole table.
use Rattle.std.specs.Prelude.{ℕ, ◌≤◌, ◌≡◌, refl, List, [], ◌∷◌, length}
use Rattle.std.proofs.Common.{sym, ap, ◌∙◌, arith}
use Rattle.reader.specs.Tests.{if_eq, if_lt}
use Rattle.reader.specs.Trees.{Tree, leaf, node, atom_of}
use Rattle.proof_rules.specs.Rules.{row}
use Rattle.proof_rules.specs.RowLaws.{NoRule, row_none, by_rule}
use Rattle.reader_bytes.specs.Bytes.{byte_of, parts_of, premises_of}
use Rattle.reader_bytes.specs.ByteLaws.{Says, says_one, halves_one, always, no_byte}
use Rattle.proof_bytes.specs.Bytes.{proof_bytes, proof_byte}

-- a kind that is no rule has the byte 0
byte_none : (k : ℕ) → NoRule k → 0 ≡ proof_byte k
unfolding proof_byte
byte_none k other = no_byte 32 proof_bytes k (λ low. let past : k ≤ 46 → ⊥ = λ high. other k low high refl in omega arith)

pub parts_none : (k : ℕ) → NoRule k → 0 ≡ parts_of (proof_byte k)
unfolding parts_of
parts_none k other = ap parts_of (byte_none k other)

-- the low half is the number of premises
pub proof_premises : (ps : List Tree) (k : ℕ) → length (row k ps).adds ≡ premises_of (proof_byte k)
unfolding row if_eq if_lt premises_of proof_byte byte_of
proof_premises ps =
    by_rule (λ k. length (row k ps).adds ≡ premises_of (proof_byte k))
    refl refl refl refl refl refl refl refl refl refl refl refl refl refl refl
    (λ k other. rw (row_none k ps other) (ap premises_of (byte_none k other)))

-- 45: a kind 22 of count 2 wants a type more than one of count 1
instance_varies : Says 15 (λ ps. length (row 45 ps).shapes)
unfolding row if_eq atom_of
instance_varies = record {
  fixed = λ h. absurd (h refl);
  varies = λ e. record { some = node 22 1 leaf leaf leaf ∷ []; others = node 22 2 leaf leaf leaf ∷ []; differ = λ z. absurd (omega arith) };
}

-- the high half says the number of parts
pub proof_parts : (k : ℕ) → Says (parts_of (proof_byte k)) (λ ps. length (row k ps).shapes)
unfolding row if_eq if_lt parts_of proof_byte byte_of
proof_parts =
    by_rule (λ k. Says (parts_of (proof_byte k)) (λ ps. length (row k ps).shapes))
    (always _ (omega arith))
    (always _ (omega arith))
    (always _ (omega arith))
    (always _ (omega arith))
    (always _ (omega arith))
    (always _ (omega arith))
    (always _ (omega arith))
    (always _ (omega arith))
    (always _ (omega arith))
    (always _ (omega arith))
    (always _ (omega arith))
    (always _ (omega arith))
    (always _ (omega arith))
    instance_varies
    (always _ (omega arith))
    (λ k other.
    let none : 0 ≡ parts_of (proof_byte k) = parts_none k other in
    record { fixed = λ h ps. rw (row_none k ps other) none; varies = λ e. absurd (omega arith) })

-- only the parts of 45 vary in number
pub proof_varies : (k : ℕ) → parts_of (proof_byte k) ≡ 15 → k ≡ 45
unfolding parts_of proof_byte byte_of if_lt
proof_varies =
    by_rule (λ k. parts_of (proof_byte k) ≡ 15 → k ≡ 45)
    (λ e. absurd (omega arith)) (λ e. absurd (omega arith)) (λ e. absurd (omega arith)) (λ e. absurd (omega arith)) (λ e. absurd (omega arith))
    (λ e. absurd (omega arith)) (λ e. absurd (omega arith)) (λ e. absurd (omega arith)) (λ e. absurd (omega arith)) (λ e. absurd (omega arith))
    (λ e. absurd (omega arith)) (λ e. absurd (omega arith)) (λ e. absurd (omega arith)) (λ e. refl) (λ e. absurd (omega arith))
    (λ k other e. let none : 0 ≡ parts_of (proof_byte k) = parts_none k other in absurd (omega arith))

-- "a wrong half in any of the 32 bytes breaks a contract": no other byte says what the row says
pub proof_byte_one : (k b : ℕ) → Says (parts_of b) (λ ps. length (row k ps).shapes) → ((ps : List Tree) → length (row k ps).adds ≡ premises_of b) → b ≡ proof_byte k
proof_byte_one k b high low = halves_one b (proof_byte k) (says_one (parts_of b) (parts_of (proof_byte k)) _ high (proof_parts k)) (sym (low []) ∙ proof_premises [] k)
