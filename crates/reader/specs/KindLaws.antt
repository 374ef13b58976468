-- The rows of the table of records, each packed in one number: the ways out of the code that looks a kind up.
use Rattle.std.specs.Prelude.{ℕ, ◌/◌, ◌%◌, ◌<◌, ◌≤◌, ◌≡◌, Bool}
use Rattle.std.proofs.Math.Path.{refl, ap}
use Rattle.std.proofs.Common.{sym, ◌∙◌}
use Rattle.std.proofs.Math.Bool.{true, false}
use Rattle.std.proofs.Math.Dec.{eqb, ltb}
use Rattle.std.proofs.Math.ListN.{get_or-eq_default}
use borrow.Author.Tests.{eqb-true, eqb-false, lt-ltb, le-ltb, ltb-true, ltb-false}
use Rattle.reader.specs.Tests.{if_eq, if_lt}
use Rattle.reader.specs.Kinds.{nothingʳ, Layout, records, no_layout, rule_node, layout, class, role}

-- the row that a number packs: two hexadecimal digits each for the class and the roles of words 1 to 3
unfoldable pub unpacked : ℕ → Layout
unpacked n = record { class = n / 16777216; first = n / 65536 % 256; second = n / 256 % 256; third = n % 256 }

-- what the code reads of a row that it looked up
module _ (k row q : ℕ) (e : unpacked row ≡ layout k) where
  pub class_in : q ≡ (unpacked row).class → q ≡ class k
  unfolding class
  class_in h = h ∙ ap (λ (l : Layout). l.class) e

  pub first_in : q ≡ (unpacked row).first → q ≡ (layout k).first
  first_in h = h ∙ ap (λ (l : Layout). l.first) e

  pub second_in : q ≡ (unpacked row).second → q ≡ (layout k).second
  second_in h = h ∙ ap (λ (l : Layout). l.second) e

  pub third_in : q ≡ (unpacked row).third → q ≡ (layout k).third
  third_in h = h ∙ ap (λ (l : Layout). l.third) e

pub ruleset rows = (first_in, second_in, third_in)

-- the role of word w by a row
abbrev role_in : ℕ → Layout → ℕ
role_in w l = if_eq w 1 l.first (if_eq w 2 l.second (if_eq w 3 l.third nothingʳ))

-- the role of word w of a rule node
abbrev pub rule_role : ℕ → ℕ
rule_role w = role_in w rule_node

module _ (k : ℕ) where
  -- a kind past the table, and a rule node's
  row_past : 24 ≤ k → k < 32 → no_layout ≡ layout k
  unfolding if_lt
  row_past p h = simp (if_lt, lt-ltb k 32 h) (sym (get_or-eq_default records no_layout p))

  pub row_rule : 32 ≤ k → rule_node ≡ layout k
  unfolding if_lt
  row_rule h = simp (if_lt, le-ltb k 32 h)

  -- none of the table's
  pub row_none : k < 32 → ((k ≡ 0 → ⊥) → 24 ≤ k) → no_layout ≡ layout k
  unfolding if_lt
  row_none h p = go (eqb k 0) refl
    where
      go : (b : Bool) → eqb k 0 ≡ b → no_layout ≡ layout k
      go true e = ap layout (sym (eqb-true k 0 e))
      go false e = row_past (p (eqb-false k 0 e)) h

  -- only the kinds of the table have a class
  pub class_none : 24 ≤ k → 0 ≡ class k
  unfolding class if_lt
  class_none p = go (ltb k 32) refl
    where
      go : (b : Bool) → ltb k 32 ≡ b → 0 ≡ (layout k).class
      go true e = ap (λ (l : Layout). l.class) (row_past p (ltb-true k 32 e))
      go false e = ap (λ (l : Layout). l.class) (row_rule (ltb-false k 32 e))

  -- the words of a rule node
  pub rule_role_lem : 32 ≤ k → (w : ℕ) → role k w ≡ rule_role w
  unfolding role if_eq if_lt
  rule_role_lem h w = ap (role_in w) (sym (row_rule h))
