-- The numbers of records, from the slots that have each record that is the least with its tree.
use Rattle.std.specs.Prelude.{ℕ, ◌+◌, ◌<◌, ◌≡◌, List}
use Rattle.std.proofs.Common.{sym, ◌∙◌, arith}
use Rattle.std.proofs.Math.Bool.{true}
use Rattle.reader_equality.specs.Least.{least, least_least, least_positive, Numbered}
use Rattle.reader_equality.specs.Keys.{key_from, key_numbers, key_tree, tree_key}
use Rattle.reader_slots.specs.Slots.{Put, Entered, put_number, put_entered}
use Rattle.reader.specs.Words.{Reader}
use Rattle.reader.specs.Trees.{tree}

-- record x is the least with its tree
unfoldable pub IsLeast : Reader → ℕ → Type 0
IsLeast rd x = least rd x ≡ x

module _ (rd : Reader) (table before after : List ℕ) (i r : ℕ) (p : 0 < i) (numbered : Numbered rd table i) (entered : Entered (IsLeast rd) before i)
    (put : Put (key_from rd true table) before i r after) where
  key_f : (x : ℕ) → 0 < x → x < i → IsLeast rd x → key_from rd true table x ≡ key_from rd true table i → tree rd x ≡ tree rd i
  key_f x q h own e =
      key_tree rd x i q p (sym (key_numbers rd table x i q (omega arith) numbered) ∙ e ∙ key_numbers rd table i i p (omega arith) numbered)

  f_key : (x : ℕ) → 0 < x → x < i → IsLeast rd x → tree rd x ≡ tree rd i → key_from rd true table x ≡ key_from rd true table i
  f_key x q h own e =
      key_numbers rd table x i q (omega arith) numbered ∙ tree_key rd x i q p e ∙ sym (key_numbers rd table i i p (omega arith) numbered)

  pub number_put : r ≡ least rd i
  unfolding least IsLeast
  number_put = put_number (key_from rd true table) (IsLeast rd) (tree rd) i r before after key_f f_key (λ x h. h) (least_least rd i) (least_positive rd i p) entered put

  pub number_entered : Entered (IsLeast rd) after (i + 1)
  unfolding least IsLeast
  number_entered = put_entered (key_from rd true table) (IsLeast rd) (tree rd) i r before after key_f f_key (λ x h. h) (least_least rd i) (least_positive rd i p) entered put
