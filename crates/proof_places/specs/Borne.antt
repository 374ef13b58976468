-- What the code remembers of a record: that the places of its last index bear a type.
use Rattle.std.specs.Prelude.{ℕ, ◌-◌, ◌<◌, ◌≡◌, List, Bool, true, false, not, get_or, set}
use Rattle.std.proofs.Common.{sym, ◌∙◌, arith}
use Rattle.std.proofs.lemmas.Bool.{not-false}
use Rattle.reader.specs.Words.{Reader}
use Rattle.reader.specs.Trees.{tree}
use Rattle.reader_closedness.specs.Reach.{reach}
use Rattle.reader_equality.specs.Tables.{Zeros, stored}
use Rattle.proof_replacement.specs.Remembered.{last_index, depth_is}
use Rattle.proof_places.specs.Places.{bears_at}

-- every occurrence of the last index of record i, where its entry is not 0, bears the type of record t
pub record Borne (rd : Reader) (t : ℕ) (seen : List ℕ) : Type 0 where
  pub bearing : (i : ℕ) → 0 < get_or seen i 0 → bears_at rd i t (last_index rd i) ≡ true

-- the depth at which the code looks a record up
module _ (rd : Reader) (j d r : ℕ) (er : r ≡ reach false (tree rd j)) (last : r - 1 ≡ d) where
  pub borne_more : (t v : ℕ) (seen after : List ℕ) (s : Bool) → (s ≡ bears_at rd j t d) × Borne rd t seen → not s ≡ false → after ≡ set seen j v →
      (true ≡ bears_at rd j t d) × Borne rd t after
  borne_more t v seen after s f h q =
      let e : true ≡ bears_at rd j t d = sym (not-false s h) ∙ f.0 in
      let bear : bears_at rd j t (last_index rd j) ≡ true = rw (← depth_is rd j d r er last) (sym e) in
      (e, rw q (record { bearing = stored (λ k x. bears_at rd k t (last_index rd k) ≡ true) seen j v f.1.bearing bear }))

  pub borne_is : (t x : ℕ) (seen : List ℕ) → Borne rd t seen → x ≡ get_or seen j 0 → (x ≡ 0 → ⊥) → true ≡ bears_at rd j t d
  borne_is t x seen memory e some = rw (depth_is rd j d r er last) (sym (memory.bearing j (omega arith)))

pub borne_none : (rd : Reader) (t : ℕ) (seen : List ℕ) → Zeros seen → Borne rd t seen
borne_none rd t seen z = record { bearing = λ i h. absurd (omega (arith, z.zeros i)) }
