-- The bytes of rules 64 to 80 say what the rows say: each law is one computation over the whole table.
use Rattle.std.specs.Prelude.{ℕ, ◌≤◌, ◌≡◌, List, [], ◌∷◌}
use Rattle.std.proofs.Math.Path.{refl}
use Rattle.std.proofs.Common.{sym, ap, ◌∙◌, arith}
use Rattle.std.proofs.Math.ListN.{length}
use Rattle.reader.specs.Tests.{if_eq, if_lt}
use Rattle.reader.specs.Trees.{Tree, leaf}
use Rattle.derivation_rules.specs.Rules.{State, row}
use Rattle.derivation_rules.specs.RowLaws.{NoRule, row_none, by_rule}
use Rattle.reader_bytes.specs.Bytes.{byte_of, parts_of, premises_of}
use Rattle.reader_bytes.specs.ByteLaws.{Says, says_one, halves_one, always, no_byte}
use Rattle.derivation_bytes.specs.Bytes.{derivation_bytes, derivation_byte}

-- the byte of a kind that was read
pub derivation_byte_at : (word k byte : ℕ) → k ≡ word → byte ≡ derivation_byte k → byte ≡ derivation_byte word
derivation_byte_at word k byte ek eb = rw (← ek) eb

-- a kind that is no rule has the byte 0
byte_none : (k : ℕ) → NoRule k → 0 ≡ derivation_byte k
unfolding derivation_byte
byte_none k other = no_byte 64 derivation_bytes k (λ low. let past : k ≤ 80 → ⊥ = λ high. other k low high refl in omega arith)

pub parts_none : (k : ℕ) → NoRule k → 0 ≡ parts_of (derivation_byte k)
unfolding parts_of
parts_none k other = ap parts_of (byte_none k other)

pub premises_none : (k : ℕ) → NoRule k → 0 ≡ premises_of (derivation_byte k)
unfolding premises_of
premises_none k other = ap premises_of (byte_none k other)

module _ (st : State) where
  -- the low half is the number of premises
  pub derivation_premises : (ps : List Tree) (k : ℕ) → length (row k ps st).premises ≡ premises_of (derivation_byte k)
  unfolding row if_eq if_lt premises_of derivation_byte byte_of
  derivation_premises ps =
      by_rule (λ k. length (row k ps st).premises ≡ premises_of (derivation_byte k))
      refl refl refl refl refl refl refl refl refl refl refl refl refl refl refl refl refl
      (λ k other. rw (row_none k ps st other) (premises_none k other))

  -- BR2: a formula more kept is a part more
  kept_vary : Says 15 (λ ps. length (row 65 ps st).shapes)
  unfolding row if_eq
  kept_vary = record {
    fixed = λ h. absurd (h refl);
    varies = λ e. record { some = []; others = leaf ∷ []; differ = λ z. absurd (omega arith) };
  }

  -- the high half says the number of parts
  pub derivation_parts : (k : ℕ) → Says (parts_of (derivation_byte k)) (λ ps. length (row k ps st).shapes)
  unfolding row if_eq if_lt parts_of derivation_byte byte_of
  derivation_parts =
      by_rule (λ k. Says (parts_of (derivation_byte k)) (λ ps. length (row k ps st).shapes))
      (always _ (omega arith))
      kept_vary
      (always _ (omega arith))
      (always _ (omega arith))
      (always _ (omega arith))
      (always _ (omega arith))
      (always _ (omega arith))
      (always _ (omega arith))
      (always _ (omega arith))
      (always _ (omega arith))
      (always _ (omega arith))
      (always _ (omega arith))
      (always _ (omega arith))
      (always _ (omega arith))
      (always _ (omega arith))
      (always _ (omega arith))
      (always _ (omega arith))
      (λ k other.
      let none : 0 ≡ parts_of (derivation_byte k) = parts_none k other in
      record { fixed = λ h ps. rw (row_none k ps st other) none; varies = λ e. absurd (omega arith) })

  -- "a wrong half in any of the 32 bytes breaks a contract": no other byte says what the row says
  pub derivation_byte_one : (k b : ℕ) → Says (parts_of b) (λ ps. length (row k ps st).shapes) → ((ps : List Tree) → length (row k ps st).premises ≡ premises_of b) →
      b ≡ derivation_byte k
  derivation_byte_one k b high low =
      halves_one b (derivation_byte k) (says_one (parts_of b) (parts_of (derivation_byte k)) _ high (derivation_parts k)) (sym (low []) ∙ derivation_premises [] k)

-- only the parts of BR2 vary in number
pub derivation_varies : (k : ℕ) → parts_of (derivation_byte k) ≡ 15 → k ≡ 65
unfolding parts_of derivation_byte byte_of if_lt
derivation_varies =
    by_rule (λ k. parts_of (derivation_byte k) ≡ 15 → k ≡ 65)
    (λ e. absurd (omega arith)) (λ e. refl) (λ e. absurd (omega arith)) (λ e. absurd (omega arith)) (λ e. absurd (omega arith)) (λ e. absurd (omega arith))
    (λ e. absurd (omega arith)) (λ e. absurd (omega arith)) (λ e. absurd (omega arith)) (λ e. absurd (omega arith)) (λ e. absurd (omega arith)) (λ e. absurd (omega arith))
    (λ e. absurd (omega arith)) (λ e. absurd (omega arith)) (λ e. absurd (omega arith)) (λ e. absurd (omega arith)) (λ e. absurd (omega arith))
    (λ k other e. let none : 0 ≡ parts_of (derivation_byte k) = parts_none k other in absurd (omega arith))
