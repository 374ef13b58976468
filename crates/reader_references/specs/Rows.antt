-- The roles of a record's words, by the row of its kind.
use Rattle.std.specs.Prelude.{ℕ, ◌≡◌}
use Rattle.reader.specs.Words.{Reader}
use Rattle.reader.specs.Tests.{if_eq}
use Rattle.reader.specs.Kinds.{layout, role, class_at, role_at}
use Rattle.reader.specs.KindLaws.{unpacked, class_in, first_in, second_in, third_in}
use Rattle.reader.specs.declared.Record.{Record}
use Rattle.reader.specs.Fetched.{RecordIs}

-- record i has the words x, and its kind this row
module _ (rd : Reader) (i : ℕ) (x : Record) (e : RecordIs rd i x) (row q : ℕ) (er : unpacked row ≡ layout x.kind) where
  pub class_is : q ≡ (unpacked row).class → q ≡ class_at rd i
  unfolding class_at
  class_is h = rw (← e.kind_is) (class_in x.kind row q er h)

  pub role_first : q ≡ (unpacked row).first → q ≡ role_at rd i 1
  unfolding role_at role if_eq
  role_first h = rw (← e.kind_is) (first_in x.kind row q er h)

  pub role_second : q ≡ (unpacked row).second → q ≡ role_at rd i 2
  unfolding role_at role if_eq
  role_second h = rw (← e.kind_is) (second_in x.kind row q er h)

  pub role_third : q ≡ (unpacked row).third → q ≡ role_at rd i 3
  unfolding role_at role if_eq
  role_third h = rw (← e.kind_is) (third_in x.kind row q er h)

pub ruleset roles = (role_first, role_second, role_third)
