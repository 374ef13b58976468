-- The parts of a record that are no types, which the code takes from its words; those of ⊤ and of kind 22, by which these come out as what they read as.
use Rattle.std.specs.Prelude.{ℕ, ◌<◌, ◌≤◌, ◌≡◌, false}
use Rattle.std.proofs.Math.Path.{refl}
use Rattle.std.proofs.Common.{◌∙◌, lit<, arith}
use Rattle.reader.specs.Words.{Reader}
use Rattle.reader.specs.Tests.{if_eq, if_lt, if_true}
use Rattle.reader.specs.Kinds.{role, role_at}
use Rattle.reader.specs.Trees.{child}
use Rattle.reader.specs.declared.Record.{Record}
use Rattle.reader.specs.Fetched.{RecordIs}
use Rattle.reader_equality.specs.declared.Parts.{Parts}
use Rattle.reader_equality.specs.Keys.{is_part, part_at, part_below, part_in_lem}
use Rattle.reader_equality.specs.Shapes.{PartsAre}

module _ (rd : Reader) (i : ℕ) (x : Record) (parts : Parts) (e : RecordIs rd i x) (are : PartsAre false i x parts) where
  pub first_part : parts.first ≡ part_at rd false i 1
  first_part = are.first_is ∙ part_in_lem rd i x e false 1 (lit< tt)

  pub second_part : parts.second ≡ part_at rd false i 2
  second_part = are.second_is ∙ part_in_lem rd i x e false 2 (lit< tt)

  pub third_part : parts.third ≡ part_at rd false i 3
  third_part = are.third_is ∙ part_in_lem rd i x e false 3 (lit< tt)

  -- they are smaller records
  module _ (p : 0 < i) (n : ℕ) (h : i ≤ n) where
    pub first_low : parts.first < n
    first_low = omega (arith, first_part, part_below rd false i 1 p)

    pub second_low : parts.second < n
    second_low = omega (arith, second_part, part_below rd false i 2 p)

    pub third_low : parts.third < n
    third_low = omega (arith, third_part, part_below rd false i 3 p)

-- ⊤ has no parts
module _ (rd : Reader) (i : ℕ) (h : rd i 0 ≡ 15) where
  pub true_first : part_at rd false i 1 ≡ 0
  unfolding part_at is_part role_at role if_eq if_lt if_true
  true_first = rw h refl

  pub true_second : part_at rd false i 2 ≡ 0
  unfolding part_at is_part role_at role if_eq if_lt if_true
  true_second = rw h refl

  pub true_third : part_at rd false i 3 ≡ 0
  unfolding part_at is_part role_at role if_eq if_lt if_true
  true_third = rw h refl

-- kind 22 has one, its formula
module _ (rd : Reader) (i : ℕ) (h : rd i 0 ≡ 22) where
  pub all_first : part_at rd false i 1 ≡ 0
  unfolding part_at is_part role_at role if_eq if_lt if_true
  all_first = rw h refl

  pub all_second : part_at rd false i 2 ≡ child rd i 2
  unfolding part_at is_part child role_at role if_eq if_lt if_true
  all_second = rw h refl

  pub all_third : part_at rd false i 3 ≡ 0
  unfolding part_at is_part role_at role if_eq if_lt if_true
  all_third = rw h refl
