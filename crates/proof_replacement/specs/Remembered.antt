-- What the code remembers of a record: that another one fits it at the depth of its last index, one less than its reach.
use Rattle.std.specs.Prelude.{ℕ, ◌-◌, ◌<◌, ◌≡◌, List, Bool, false, not, get_or, set}
use Rattle.std.proofs.Common.{sym, ◌∙◌, arith}
use Rattle.std.proofs.Math.Bool.{true}
use Rattle.std.proofs.lemmas.Bool.{not-true, not-false}
use Rattle.reader.specs.Words.{Reader}
use Rattle.reader.specs.Trees.{tree, same}
use Rattle.reader.specs.Variables.{replaced}
use Rattle.reader.specs.TreeLaws.{same_equal}
use Rattle.reader_closedness.specs.Reach.{reach}
use Rattle.reader_equality.specs.Tables.{Zeros, stored}
use Rattle.proof_replacement.specs.Fits.{fits}

-- the last index of record j that is not bound in it
unfoldable pub last_index : Reader → ℕ → ℕ
last_index rd j = reach false (tree rd j) - 1

-- entry j of a table, where it is not 0, is a record that fits record j with record t in place of its last index
pub record Remembered (rd : Reader) (t : ℕ) (seen : List ℕ) : Type 0 where
  pub fitting : (j : ℕ) → 0 < get_or seen j 0 → fits rd (get_or seen j 0) j t (last_index rd j) ≡ true

-- what was not found is not remembered
pub nothing_more : (b s : Bool) (R : Type 0) → (s ≡ b) × R → not s ≡ true → (false ≡ b) × R
nothing_more b s R f h = (sym (not-true s h) ∙ f.0, f.1)

-- the depth at which the code looks a record up
module _ (rd : Reader) (j d r : ℕ) (er : r ≡ reach false (tree rd j)) (last : r - 1 ≡ d) where
  pub depth_is : d ≡ last_index rd j
  unfolding last_index
  depth_is = rw (← er) (sym last)

  pub remembered_more : (i t : ℕ) (seen after : List ℕ) (s : Bool) → (s ≡ fits rd i j t d) × Remembered rd t seen → not s ≡ false → after ≡ set seen j i →
      (true ≡ fits rd i j t d) × Remembered rd t after
  remembered_more i t seen after s f h q =
      let e : true ≡ fits rd i j t d = sym (not-false s h) ∙ f.0 in
      let fit : fits rd i j t (last_index rd j) ≡ true = rw (← depth_is) (sym e) in
      (e, rw q (record { fitting = stored (λ k x. fits rd x k t (last_index rd k) ≡ true) seen j i f.1.fitting fit }))

  -- what fits record j is equal to a record that does
  pub remembered_is : (i t x : ℕ) (seen : List ℕ) (s : Bool) → Remembered rd t seen → x ≡ get_or seen j 0 → (x ≡ 0 → ⊥) → s ≡ same (tree rd i) (tree rd x) → s ≡ fits rd i j t d
  unfolding fits
  remembered_is i t x seen s memory e some h =
      let fit : fits rd x j t d ≡ true = rw (e, depth_is) (memory.fitting j (omega arith)) in
      let one : tree rd x ≡ replaced d (tree rd t) (tree rd j) = same_equal (tree rd x) (replaced d (tree rd t) (tree rd j)) fit in
      rw (← one) h

pub remembered_none : (rd : Reader) (t : ℕ) (seen : List ℕ) → Zeros seen → Remembered rd t seen
remembered_none rd t seen z = record { fitting = λ j h. absurd (omega (arith, z.zeros j)) }
