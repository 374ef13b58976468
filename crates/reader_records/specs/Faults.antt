-- What a record without a refusal is known to have.
use Rattle.std.specs.Prelude.{ℕ, ◌≡◌, refl, Bool, true, false}
use Rattle.std.proofs.Common.{sym, ◌∙◌, arith}
use Rattle.reader.specs.Words.{Reader}
use Rattle.reader.specs.Tests.{demand}
use Rattle.reader.specs.Records.{kind_fits, ranges_fit, references_fit, name_length_fits, chains_fit, item_chains_fit, words_fault}
use Rattle.reader_names.specs.Room.{both_first}

-- no refusal: the test holds, and the rest has none
demand_in : (a : Bool) (n rest : ℕ) → demand a n rest ≡ 0 → (n ≡ 0 → ⊥) → (a ≡ true) × (rest ≡ 0)
unfolding demand
demand_in true n rest h p = (refl, h)
demand_in false n rest h p = absurd (p h)

-- a record without refusals 3 to 6 has a name of at most 4 records
pub words_name : (mode : ℕ) (rd : Reader) (i w : ℕ) → w ≡ words_fault mode rd i → w ≡ 0 → name_length_fits rd i ≡ true
unfolding words_fault chains_fit
words_name mode rd i w e z =
    let a = demand_in (kind_fits mode rd i) 3 _ (sym e ∙ z) (omega arith) in
    let b = demand_in (ranges_fit rd i) 4 _ a.1 (omega arith) in
    let c = demand_in (references_fit rd i) 5 _ b.1 (omega arith) in
    let d = demand_in (chains_fit rd i) 6 _ c.1 (omega arith) in
    both_first (name_length_fits rd i) (item_chains_fit rd i) d.0
