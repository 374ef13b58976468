-- The forms of what each rule needs and adds, as tables, and that the rows say the same.
use Rattle.std.specs.Prelude.{ℕ, zero, suc, ◌+◌, ◌*◌, ◌-◌, ◌/◌, ◌%◌, ◌<◌, ◌≤◌, ◌≡◌, Bool, true, false, not, length, take, drop}
use Rattle.std.proofs.Math.Path.{refl, ap}
use Rattle.std.proofs.Common.{sym, ◌∙◌}
use mathlib.Core.List.{List, [], ◌∷◌}
use Rattle.std.proofs.Math.ListN.{get_or}
use native.Mathlib.Omega.{arith}
use borrow.Author.Tests.{le-ltb, not-true, not-false}
use Rattle.reader.specs.Words.{Reader}
use Rattle.reader.specs.Tests.{both, every, if_eq, if_lt}
use Rattle.reader.specs.TestLaws.{Rest}
use Rattle.reader.specs.Trees.{Tree}
use Rattle.proof_rules.specs.Rules.{row}
use Rattle.proof_rules.specs.RowLaws.{row_none, by_rule}
use Rattle.proof_rules.specs.Check.{row_of}
use Rattle.reader.specs.Members.{member}
use Rattle.proof_forms.specs.Tables.{rule_entry, entry_none, entry_rest}
use Rattle.reader.specs.Chains.{item_trees, parts}
use Rattle.proof_references.specs.declared.References.{References}
use Rattle.proof_references.specs.References.{ReferencesAre}
use Rattle.proof_rows.specs.Paths.{step_tree, path_tree}
use Rattle.proof_rows.specs.Forms.{left_path, right_path, form_tree, need_tree, one_tree, two_trees, need_holds, two_hold, need_none, need_some}

abbrev pub needs : List ℕ
needs =
    1 ∷ 0 ∷ 2 ∷ 0 ∷ 8 ∷ 9 ∷ 8 ∷ 0 ∷ 8 ∷ 3 ∷ 0 ∷ 0 ∷ 8 ∷ 0 ∷ 8 ∷ 0 ∷ 8 ∷ 0 ∷ 8 ∷ 0 ∷ 8 ∷ 0 ∷ 8 ∷ 0 ∷ 8 ∷ 0 ∷ 8 ∷ 0 ∷ 104 ∷ 0 ∷ []

abbrev pub adds : List ℕ
adds =
    0 ∷ 0 ∷ 0 ∷ 0 ∷ 0 ∷ 0 ∷ 0 ∷ 0 ∷ 0 ∷ 0 ∷ 0 ∷ 0 ∷ 0 ∷ 0 ∷ 0 ∷ 0 ∷ 0 ∷ 0 ∷ 0 ∷ 0 ∷  -- 32 to 36
    8 ∷ 0 ∷ 9 ∷ 0 ∷  -- 37
    18 ∷ 0 ∷ 0 ∷ 0 ∷  -- 38
    16 ∷ 24 ∷ 0 ∷ 0 ∷  -- 39
    18 ∷ 21 ∷ 0 ∷ 0 ∷  -- 40
    17 ∷ 0 ∷ 24 ∷ 0 ∷  -- 41
    19 ∷ 0 ∷ 21 ∷ 0 ∷  -- 42
    73 ∷ 0 ∷ 0 ∷ 0 ∷  -- 43
    72 ∷ 0 ∷ 0 ∷ 0 ∷  -- 44
    40 ∷ 0 ∷ 0 ∷ 0 ∷  -- 45
    4 ∷ 0 ∷ 136 ∷ 0 ∷ []  -- 46

-- need w of rule k
unfoldable pub need_form : ℕ → ℕ → ℕ
need_form k w = rule_entry needs k (2 * (k - 32) + w)

-- member w that premise b of rule k adds
unfoldable pub add_form : ℕ → ℕ → ℕ → ℕ
add_form k b w = if_lt b 2 (rule_entry adds k (4 * (k - 32) + 2 * b + w)) 0

-- the rows say what the tables say
needs_are : (ps : List Tree) (k : ℕ) → (row k ps).needs ≡ two_trees (need_tree ps) (need_form k 0) (need_form k 1)
unfolding row if_eq if_lt need_form rule_entry two_trees one_tree need_tree form_tree left_path right_path path_tree step_tree
needs_are ps =
    by_rule (λ k. (row k ps).needs ≡ two_trees (need_tree ps) (need_form k 0) (need_form k 1))
    refl refl refl refl refl refl refl refl refl refl refl refl refl refl refl
    (λ k other. rw (row_none k ps other, entry_none needs k (2 * (k - 32) + 0) other, entry_none needs k (2 * (k - 32) + 1) other) refl)

-- what two premises add, and that there are no more
record TwoPremises (ps : List Tree) (k : ℕ) : Type 0 where
  first : get_or (row k ps).adds 0 [] ≡ two_trees (form_tree ps) (add_form k 0 0) (add_form k 0 1)
  second : get_or (row k ps).adds 1 [] ≡ two_trees (form_tree ps) (add_form k 1 0) (add_form k 1 1)
  most : length (row k ps).adds ≤ 2

two_premises : (ps : List Tree) (k : ℕ) → TwoPremises ps k
unfolding row if_eq if_lt add_form rule_entry two_trees one_tree form_tree left_path right_path path_tree step_tree
two_premises ps =
    by_rule (TwoPremises ps)
    (record { first = refl; second = refl; most = omega arith })
    (record { first = refl; second = refl; most = omega arith })
    (record { first = refl; second = refl; most = omega arith })
    (record { first = refl; second = refl; most = omega arith })
    (record { first = refl; second = refl; most = omega arith })
    (record { first = refl; second = refl; most = omega arith })
    (record { first = refl; second = refl; most = omega arith })
    (record { first = refl; second = refl; most = omega arith })
    (record { first = refl; second = refl; most = omega arith })
    (record { first = refl; second = refl; most = omega arith })
    (record { first = refl; second = refl; most = omega arith })
    (record { first = refl; second = refl; most = omega arith })
    (record { first = refl; second = refl; most = omega arith })
    (record { first = refl; second = refl; most = omega arith })
    (record { first = refl; second = refl; most = omega arith })
    (λ k other. record {
      first = rw (row_none k ps other, entry_none adds k (4 * (k - 32) + 2 * 0 + 0) other, entry_none adds k (4 * (k - 32) + 2 * 0 + 1) other) refl;
      second = rw (row_none k ps other, entry_none adds k (4 * (k - 32) + 2 * 1 + 0) other, entry_none adds k (4 * (k - 32) + 2 * 1 + 1) other) refl;
      most = rw (row_none k ps other) (omega arith);
    })

pub add_past : (k b w : ℕ) → 2 ≤ b → 0 ≡ add_form k b w
unfolding add_form if_lt
add_past k b w h = simp (add_form, if_lt, le-ltb b 2 h)

past_list : {A : Type 0} (l : List A) (b : ℕ) (d : A) → length l ≤ b → get_or l b d ≡ d
past_list [] zero d h = refl
past_list [] (suc b) d h = refl
past_list (x ∷ xs) zero d h = absurd (omega arith)
past_list (x ∷ xs) (suc b) d h = past_list xs b d (omega arith)

adds_are : (ps : List Tree) (k b : ℕ) → get_or (row k ps).adds b [] ≡ two_trees (form_tree ps) (add_form k b 0) (add_form k b 1)
unfolding add_form if_lt two_trees one_tree if_eq
adds_are ps k zero = (two_premises ps k).first
adds_are ps k (suc zero) = (two_premises ps k).second
adds_are ps k (suc (suc b)) =
    let most : length (row k ps).adds ≤ 2 = (two_premises ps k).most in
    past_list (row k ps).adds (suc (suc b)) [] (omega arith) ∙ sym (none (suc (suc b)) (omega arith))
  where
    none : (c : ℕ) → 2 ≤ c → two_trees (form_tree ps) (add_form k c 0) (add_form k c 1) ≡ []
    none c h = rw (← add_past k c 0 h, ← add_past k c 1 h) refl

-- The ways out of the code that has the tables' rows packed in numbers.

-- the first or the last of two
unfoldable pub half : ℕ → ℕ → ℕ
half n w = if_eq w 0 (n / 256) (n % 256)

unfoldable pub pair_in : ℕ → List ℕ
pair_in n = half n 0 ∷ half n 1 ∷ []

unfoldable pub adds_in : ℕ → List ℕ
adds_in n = half (n / 65536) 0 ∷ half (n / 65536) 1 ∷ half (n % 65536) 0 ∷ half (n % 65536) 1 ∷ []

unfoldable pub need_forms : ℕ → List ℕ
need_forms k = need_form k 0 ∷ need_form k 1 ∷ []

unfoldable pub add_forms : ℕ → List ℕ
add_forms k = add_form k 0 0 ∷ add_form k 0 1 ∷ add_form k 1 0 ∷ add_form k 1 1 ∷ []

unfoldable pub add_pair : ℕ → ℕ → List ℕ
add_pair k b = add_form k b 0 ∷ add_form k b 1 ∷ []

-- the two members of premise b
module _ (k n b : ℕ) where
  pub pair_past : 2 ≤ b → pair_in 0 ≡ add_pair k b
  unfolding pair_in add_pair half if_eq
  pair_past h = rw (← add_past k b 0 h, ← add_past k b 1 h) refl

  pub pair_first : adds_in n ≡ add_forms k → b ≡ 0 → pair_in (n / 65536) ≡ add_pair k b
  unfolding pair_in add_pair adds_in add_forms
  pair_first e z = rw z (ap (take 2) e)

  pub pair_last : adds_in n ≡ add_forms k → b < 2 → (b ≡ 0 → ⊥) → pair_in (n % 65536) ≡ add_pair k b
  unfolding pair_in add_pair adds_in add_forms
  pair_last e h z = let one : b ≡ 1 = omega arith in rw one (ap (drop 2) e)

-- the last arm: no rule needs or adds nothing
module _ (k : ℕ) (rest : Rest 32 k 15) where
  pub needs_rest : pair_in 0 ≡ need_forms k
  unfolding pair_in need_forms half need_form if_eq
  needs_rest = rw (← entry_rest needs k (2 * (k - 32) + 0) rest, ← entry_rest needs k (2 * (k - 32) + 1) rest) refl

  pub adds_rest : adds_in 0 ≡ add_forms k
  unfolding adds_in add_forms half add_form if_eq if_lt
  adds_rest =
      rw (
        ← entry_rest adds k (4 * (k - 32) + 2 * 0 + 0) rest,
        ← entry_rest adds k (4 * (k - 32) + 2 * 0 + 1) rest,
        ← entry_rest adds k (4 * (k - 32) + 2 * 1 + 0) rest,
        ← entry_rest adds k (4 * (k - 32) + 2 * 1 + 1) rest,
      ) refl

-- the members that rule k needs with these parts are all there
unfoldable pub needs_hold : List Tree → ℕ → List Tree → Bool
needs_hold s k ps = every (λ t. member t s) (row k ps).needs

-- a rule whose first need asks nothing has no other
second_none : (k : ℕ) → need_form k 0 ≡ 0 → need_form k 1 ≡ 0
unfolding need_form rule_entry if_lt
second_none =
    by_rule (λ k. need_form k 0 ≡ 0 → need_form k 1 ≡ 0)
    (λ h. refl) (λ h. refl) (λ h. absurd (omega (arith, h))) (λ h. refl) (λ h. absurd (omega (arith, h)))
    (λ h. refl) (λ h. refl) (λ h. refl) (λ h. refl) (λ h. refl)
    (λ h. refl) (λ h. refl) (λ h. refl) (λ h. refl) (λ h. refl)
    (λ k other h. entry_none needs k (2 * (k - 32) + 1) other)

-- The ways out of `needs_hold`.
module _ (s ps : List Tree) (k n first last : ℕ) (en : pair_in n ≡ need_forms k) (ef : first ≡ half n 0) (el : last ≡ half n 1) where
  first_is : first ≡ need_form k 0
  unfolding pair_in need_forms
  first_is = ef ∙ ap (λ (l : List ℕ). get_or l 0 0) en

  last_is : last ≡ need_form k 1
  unfolding pair_in need_forms
  last_is = el ∙ ap (λ (l : List ℕ). get_or l 1 0) en

  needs_both : needs_hold s k ps ≡ both (need_holds s ps first) (need_holds s ps last)
  unfolding needs_hold
  needs_both = rw (needs_are ps k, ← first_is, ← last_is) (two_hold s ps first last)

  pub needs_none : first ≡ 0 → true ≡ needs_hold s k ps
  unfolding both
  needs_none h =
      let none : last ≡ 0 = last_is ∙ second_none k (sym first_is ∙ h) in
      rw (needs_both, need_none s ps first h, need_none s ps last none) refl

  module _ (some : first ≡ 0 → ⊥) (r : Bool) (er : r ≡ member (need_tree ps first) s) where
    pub needs_missing : not r ≡ true → false ≡ needs_hold s k ps
    unfolding both
    needs_missing h = rw (needs_both, need_some s ps first some, ← er, not-true r h) refl

    module _ (held : not r ≡ false) where
      pub needs_one : last ≡ 0 → true ≡ needs_hold s k ps
      unfolding both
      needs_one h = rw (needs_both, need_some s ps first some, ← er, not-false r held, need_none s ps last h) refl

      pub needs_two : (last ≡ 0 → ⊥) → (q : Bool) → q ≡ member (need_tree ps last) s → q ≡ needs_hold s k ps
      unfolding both
      needs_two h q e = rw (needs_both, need_some s ps first some, ← er, not-false r held, need_some s ps last h) e

-- the members that premise b of node n adds
module _ (rd : Reader) (n b : ℕ) (node : References) (is : ReferencesAre rd n node) (pair first last : ℕ) (ep : pair_in pair ≡ add_pair node.kind b) (ef : first ≡ half pair 0)
    (el : last ≡ half pair 1) where
  pub adds_of : get_or (row_of rd n).adds b [] ≡ two_trees (form_tree (item_trees rd node.first)) first last
  unfolding row_of parts item_trees pair_in add_pair
  adds_of =
      let f : first ≡ add_form node.kind b 0 = ef ∙ ap (λ (l : List ℕ). get_or l 0 0) ep in
      let l : last ≡ add_form node.kind b 1 = el ∙ ap (λ (l : List ℕ). get_or l 1 0) ep in
      rw (← is.kind_is, ← is.first_is, f, l) (adds_are (item_trees rd node.first) node.kind b)
