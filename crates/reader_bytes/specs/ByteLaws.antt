-- What a half of a byte says of a number, that no other half says it, and the kinds that a table has no byte for.
use Rattle.std.specs.Prelude.{ℕ, ◌+◌, ◌-◌, ◌<◌, ◌≤◌, ◌≡◌, refl, List, [], Bool, true, false, eqb, ltb, get_or, length}
use Rattle.std.proofs.Common.{sym, ◌∙◌, arith, ltb-false, eqb-true}
use Rattle.std.proofs.lemmas.Bool.{eqb-false}
use Rattle.reader.specs.Tests.{if_lt}
use Rattle.reader.specs.TestLaws.{Rest, rest_past}
use Rattle.reader.specs.WordLaws.{past_end}
use Rattle.reader.specs.Trees.{Tree}
use Rattle.reader_bytes.specs.Bytes.{byte_of, parts_of, premises_of}

-- a number that is not the same for all lists of parts
pub record Varies (number : List Tree → ℕ) : Type 0 where
  pub some : List Tree
  pub others : List Tree
  pub differ : number some ≡ number others → ⊥

-- "with 15 for a number that varies": what a half says of a number that may go by the parts
pub record Says (half : ℕ) (number : List Tree → ℕ) : Type 0 where
  pub fixed : (half ≡ 15 → ⊥) → (ps : List Tree) → number ps ≡ half
  pub varies : half ≡ 15 → Varies number

-- One half alone says it: another, also a 15 for a number that is fixed or a number for one that varies, says something false.
pub says_one : (a b : ℕ) (number : List Tree → ℕ) → Says a number → Says b number → a ≡ b
says_one a b number p q = go (eqb a 15) refl (eqb b 15) refl
  where
    not_both : (half : ℕ) → (half ≡ 15 → ⊥) → Says half number → Varies number → ⊥
    not_both half h s v = v.differ (s.fixed h v.some ∙ sym (s.fixed h v.others))

    go : (x : Bool) → eqb a 15 ≡ x → (y : Bool) → eqb b 15 ≡ y → a ≡ b
    go true e true f = eqb-true a 15 e ∙ sym (eqb-true b 15 f)
    go true e false f = absurd (not_both b (eqb-false b 15 f) q (p.varies (eqb-true a 15 e)))
    go false e true f = absurd (not_both a (eqb-false a 15 e) p (q.varies (eqb-true b 15 f)))
    go false e false f = sym (p.fixed (eqb-false a 15 e) []) ∙ q.fixed (eqb-false b 15 f) []

-- two bytes with the same halves are the same
pub halves_one : (a b : ℕ) → parts_of a ≡ parts_of b → premises_of a ≡ premises_of b → a ≡ b
unfolding parts_of premises_of
halves_one a b high low = omega arith

-- a number below 15 that is the same for all parts
pub always : (n : ℕ) → n < 15 → Says n (λ ps. n)
always n low = record { fixed = λ h ps. refl; varies = λ e. absurd (omega arith) }

-- outside a table's kinds the byte is 0
pub no_byte : (first : ℕ) (table : List ℕ) (k : ℕ) → (first ≤ k → first + length table ≤ k) → 0 ≡ byte_of first table k
unfolding byte_of if_lt
no_byte first table k h = go (ltb k first) refl
  where
    go : (b : Bool) → ltb k first ≡ b → ◌≡◌ {A = ℕ} 0 (elim b [ true ↦ 0 | false ↦ get_or table (k - first) 0 ])
    go true e = refl
    go false e =
        let low : first ≤ k = ltb-false k first e in
        let high : first + length table ≤ k = h low in
        past_end table (k - first) (omega arith)

-- the last arm of a `match` on the kind
pub byte_rest : (first : ℕ) (table : List ℕ) (k : ℕ) → Rest first k (length table) → 0 ≡ byte_of first table k
byte_rest first table k rest = no_byte first table k (λ low. rest_past first k (length table) low rest)
