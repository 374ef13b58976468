-- Where a walk over rule nodes stops, in any calculus: at the first node whose tests do not all hold, with the first test that fails.
use Rattle.std.specs.Prelude.{ℕ, ◌+◌, ◌≡◌, List, ◌∷◌, ◌++◌, Bool, true, false, length}
use Rattle.reader.specs.declared.Answer.{Answer}
use Rattle.reader.specs.Words.{Reader}
use Rattle.reader.specs.Chains.{premises}
use Rattle.reader.specs.Answers.{answer}
use Rattle.reader.specs.Notions.{Every}
use Rattle.reader.specs.WalkLaws.{Each}
use Rattle.reader_meaning.specs.Table.{RuleKind}

-- a test, and the refusal where it fails
pub record Test : Type 0 where
  pub holds : Bool
  pub number : ℕ

abbrev pub test : Bool → ℕ → Test
test b n = record { holds = b; number = n }

-- "the lower number wins": r is the number of the first test that fails, and all tests before it hold
pub data First : List Test → ℕ → Type 0 where
  fails : {b : Bool} {n : ℕ} {ts : List Test} → b ≡ false → First (test b n ∷ ts) n
  later : {b : Bool} {n r : ℕ} {ts : List Test} → b ≡ true → First ts r → First (test b n ∷ ts) r

-- every test holds
abbrev pub AllHold : List Test → Type 0
AllHold ts = Every (λ t. t.holds ≡ true) ts

-- "node, then premises in chain order": the walk of node n in the state st, after `count` nodes, stops with an answer. It stops at the node itself, or in one
-- of its premises, all those before it being done, with k nodes in all. `tests` are a node's tests in the order of their numbers, `next` gives the state of
-- each premise, and `Done st n k` says that node n does what st asks, with k nodes: it proves its sequent, or derives it.
pub data Stops {S : Type 0} (mode : ℕ) (rd : Reader) (tests : S → ℕ → List Test) (next : S → ℕ → ℕ → S) (Done : S → ℕ → ℕ → Type 0) :
    S → ℕ → ℕ → Answer → Type 0 where
  here : {st : S} {n count r : ℕ} → RuleKind mode (rd n 0) → First (tests st n) r → Stops mode rd tests next Done st n count (answer r 2 n (count + 1))
  in_premise : {st : S} {n count : ℕ} {a : Answer} (before after : List ℕ) (x k : ℕ) → RuleKind mode (rd n 0) → AllHold (tests st n) →
      premises rd n ≡ before ++ (x ∷ after) → Each Done next st n 0 before k →
      Stops mode rd tests next Done (next st n (length before)) x (count + 1 + k) a → Stops mode rd tests next Done st n count a
