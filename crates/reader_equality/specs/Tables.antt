-- Tables of numbers that code lends out: entries, zeros, and stores past the end, which do nothing.
use Rattle.std.specs.Prelude.{ℕ, zero, suc, ◌+◌, ◌<◌, ◌≤◌, ◌≡◌, refl, List, [], ◌∷◌, ◌++◌, Bool, true, false, eqb, ltb, length, get_or, set, take, drop, replicate}
use Rattle.std.proofs.Common.{sym, ◌∙◌, length-take, get_or-set_same, get_or-set_other, get_or-take, get_or-drop, arith, eqb-true, ltb-true, ltb-false}
use Rattle.std.proofs.Math.ListN.{get_or-eq_default}
use Rattle.std.proofs.Math.Seq.{set_out}
use Rattle.std.proofs.lemmas.Bool.{eqb-false}

-- a table of zeros
pub record Zeros (table : List ℕ) : Type 0 where
  pub zeros : (k : ℕ) → get_or table k 0 ≡ 0

-- a table made of zeros, and parts of such tables
pub zeros_made : (n : ℕ) → Zeros (replicate n 0)
zeros_made n = record { zeros = go n }
  where
    go : (n k : ℕ) → ◌≡◌ {A = ℕ} (get_or (replicate n 0) k 0) 0
    go zero k = refl
    go (suc n) zero = refl
    go (suc n) (suc k) = go n k

-- a table that was filled with zeros
pub zeros_filled : (n : ℕ) (table : List ℕ) → table ≡ replicate n 0 → Zeros table
zeros_filled n table e = rw e (zeros_made n)

pub zeros_take : (n : ℕ) (table : List ℕ) → Zeros table → Zeros (take n table)
zeros_take n table z = record { zeros = λ k. go k (ltb k n) refl }
  where
    go : (k : ℕ) (b : Bool) → ltb k n ≡ b → get_or (take n table) k 0 ≡ 0
    go k true t = get_or-take n table k 0 (ltb-true k n t) ∙ z.zeros k
    go k false t = get_or-eq_default (take n table) 0 (omega (arith, length-take n table, ltb-false k n t))

pub zeros_drop : (n : ℕ) (table : List ℕ) → Zeros table → Zeros (drop n table)
zeros_drop n table z = record { zeros = λ k. get_or-drop n table k 0 ∙ z.zeros (n + k) }

pub zeros_join : (first second : List ℕ) → Zeros first → Zeros second → Zeros (first ++ second)
zeros_join first second z y = record { zeros = go first z.zeros }
  where
    go : (l : List ℕ) → ((k : ℕ) → get_or l k 0 ≡ 0) → (k : ℕ) → get_or (l ++ second) k 0 ≡ 0
    go [] f k = y.zeros k
    go (x ∷ xs) f zero = f zero
    go (x ∷ xs) f (suc k) = go xs (λ q. f (suc q)) k

-- the way out of `store` past the end
pub store_past : (table : List ℕ) (k v : ℕ) → length table ≤ k → table ≡ set table k v
store_past table k v h = sym (set_out table k v h)

-- what every entry that is not 0 says holds after a store of what says it
pub stored : (P : ℕ → ℕ → Type 0) (table : List ℕ) (k v : ℕ) → ((q : ℕ) → 0 < get_or table q 0 → P q (get_or table q 0)) → P k v →
    (q : ℕ) → 0 < get_or (set table k v) q 0 → P q (get_or (set table k v) q 0)
stored P table k v before new q = go (eqb q k) refl (ltb k (length table)) refl
  where
    go : (b : Bool) → eqb q k ≡ b → (t : Bool) → ltb k (length table) ≡ t → 0 < get_or (set table k v) q 0 → P q (get_or (set table k v) q 0)
    go true e true h = let one : q ≡ k = eqb-true q k e in rw (one, get_or-set_same table k v 0 (ltb-true k (length table) h)) (λ p. new)
    go true e false h = rw (set_out table k v (ltb-false k (length table) h)) (before q)
    go false e t h = rw (get_or-set_other table k q v 0 (eqb-false q k e)) (before q)
