-- Before the walk no node is entered: places 1 to 12 count none.
use Rattle.std.specs.Prelude.{ℕ, zero, suc, ◌+◌, ◌≡◌, refl, List, Bool, true, false, eqb}
use Rattle.reader.specs.declared.Answer.{Answer}
use Rattle.reader.specs.Answers.{answer, accepted, placed, or_answer, first_fault}
use Rattle.reader.specs.Places.{obligation_reading, second_reading, reading}

-- an answer that counts no node
abbrev pub NoNodes : Answer → Type 0
NoNodes a = a.nodes ≡ 0

placed_none : (r f i : ℕ) → NoNodes (placed r f i)
unfolding placed
placed_none r f i = go (eqb r 0)
  where
    go : (t : Bool) → NoNodes (elim t as (λ x. Answer) [ true ↦ accepted 0 | false ↦ answer r f i 0 ])
    go true = refl
    go false = refl

pub or_none : (a b : Answer) → NoNodes a → NoNodes b → NoNodes (or_answer a b)
unfolding or_answer
or_none a b p q = go (eqb a.refusal 0)
  where
    go : (t : Bool) → NoNodes (elim t as (λ x. Answer) [ true ↦ b | false ↦ a ])
    go true = q
    go false = p

first_none : (fault : ℕ → ℕ) (f k i : ℕ) → NoNodes (first_fault fault f k i)
unfolding first_fault
first_none fault f zero i = refl
first_none fault f (suc k) i = go (eqb (fault i) 0) (first_none fault f k (i + 1))
  where
    go : (t : Bool) → NoNodes (first_fault fault f k (i + 1)) →
        NoNodes (elim t as (λ x. Answer) [ true ↦ first_fault fault f k (i + 1) | false ↦ answer (fault i) f i 0 ])
    go true h = h
    go false h = refl

pub obligation_none : (ob : List ℕ) → NoNodes (obligation_reading ob)
unfolding obligation_reading
obligation_none ob =
    or_none _ _ (placed_none _ 1 0) (or_none _ _ (placed_none _ 1 0) (or_none _ _ (first_none _ 1 _ 1) (placed_none _ 1 0)))

second_none : (mode : ℕ) (ob s : List ℕ) → NoNodes (second_reading mode ob s)
unfolding second_reading
second_none mode ob s =
    or_none _ _ (placed_none _ 2 0)
    (or_none _ _ (placed_none _ 2 0) (or_none _ _ (first_none _ 2 _ _) (or_none _ _ (placed_none _ 2 0) (first_none _ 2 _ _))))

-- places 1 to 12 of both files
pub reading_none : (mode : ℕ) (ob s : List ℕ) → NoNodes (reading mode ob s)
unfolding reading
reading_none mode ob s = or_none _ _ (obligation_none ob) (second_none mode ob s)
