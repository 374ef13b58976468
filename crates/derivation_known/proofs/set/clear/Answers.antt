use borrow.Author.Rules.{rules}
use native.Mathlib.Omega.{arith}
use Rattle.std.proofs.Common.{ℕ, ◌-◌, ◌<◌, ◌≤◌, ◌≡◌, List, length, get_or}
use Rattle.std.proofs.lemmas.List.{places}
use Rattle.derivation_known.specs.Held.{SameRows}
use borrow.Rule.Slice.PartMut.{put_mid}
use Rattle.derivation_known.proofs.set.clear.Goals as goal

-- what is written from a on leaves what stands below
rows_below : (xs ys : List ℕ) (a k : ℕ) → 16384 ≤ a → a ≤ length xs → SameRows xs (put_mid a k xs ys)
rows_below xs ys a k h room = record { same = λ i low. go i (omega arith) }
  where
    go : (i : ℕ) → i < a → get_or (put_mid a k xs ys) i 0 ≡ get_or xs i 0
    go i below = search (rules, places)

pub returns-then-known-gt16384 : goal.returns-then-known-gt16384
returns-then-known-gt16384 c = rows_below c.args.known.now c.fill.new.self 16384 (length c.args.known.now - 16384) (omega arith) (omega arith)
