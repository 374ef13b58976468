-- The way out of `put_listing`, and the room for it.
use Rattle.std.specs.Prelude.{ℕ, ◌≤◌, ◌≡◌, List}
use Rattle.std.proofs.Common.{ap, arith}
use Rattle.reader.specs.declared.Answer.{Answer}
use Rattle.reader.specs.Words.{word_of, word}
use Rattle.proof_rules.specs.Check.{proof_answer}
use Rattle.programs_text.specs.Text.{Appended}
use Rattle.programs_text.specs.TextLaws.{appended_more}
use Rattle.tree_rules.specs.Order.{order}
use Rattle.tree_rules.specs.Listing.{heading, entered, ending, listing}
use Rattle.tree_meaning.proofs.Theorems.{few_nodes}
use Rattle.tree_listing.specs.Lists.{Lists}

module _ (ob pf : List ℕ) (a : Answer) (ea : a ≡ proof_answer ob pf) where
  -- "over .. 3,073 (proof), header counted": no more nodes than records after the header
  pub answer_few : a.nodes ≤ 3072
  answer_few = omega (arith, few_nodes ob pf, ap (λ (x : Answer). x.nodes) ea)

  -- the first line, the nodes' lines, and the last line of a refusal
  pub listing_filled : (m root : ℕ) (before one two after : List ℕ) (first end rest last : ℕ) → m ≡ word_of ob 0 1 → root ≡ word_of pf 0 2 →
      Appended before 0 heading one first → Lists (word ob pf m) (order (word ob pf m) root 0) one first a.nodes two end rest →
      Appended two end (ending a) after last → Appended before 0 (listing ob pf) after last
  unfolding listing entered
  listing_filled m root before one two after first end rest last em er head nodes tail =
      rw (← em, ← er, ← ea)
      (appended_more before heading one _ after 0 first last head (appended_more one _ two _ after first end last nodes.appended tail))
