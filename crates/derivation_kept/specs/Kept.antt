-- What one run along the parts of BR2 finds, and the ways out of the code that makes it.
use Rattle.std.specs.Prelude.{ℕ, ◌-◌, ◌<◌, ◌≡◌, refl, Bool, true, false, not, leb, length}
use Rattle.std.proofs.Common.{sym, ◌∙◌}
use Rattle.std.proofs.lemmas.Bool.{false≢true, not-false}
use Rattle.reader.specs.Words.{Reader}
use Rattle.reader.specs.Tests.{every}
use Rattle.reader.specs.Trees.{lower}
use Rattle.reader.specs.Chains.{linked}
use Rattle.reader.specs.Variables.{indices_below}
use Rattle.reader.specs.ChainLaws.{most_end, most_more}
use Rattle.derivation_rules.specs.Erase.{bare_tree}
use Rattle.derivation_trees.specs.Keys.{decoded}
use Rattle.derivation_trees.specs.Table.{KeyOf}
use Rattle.derivation_frames.specs.Frames.{chain_trees}
use Rattle.derivation_forms.specs.Formed.{is_formula, key_formula, rest_in, chain_end, chain_more}
use Rattle.derivation_members.specs.Needs.{held}
use Rattle.derivation_fits.specs.Fits.{is_closed, closed_key}
use Rattle.derivation_kept.specs.Order.{Behind, Found, behind_self, found_item}

-- r says that the tree of the key is a closed formula
pub record ClosedFormula (rd : Reader) (key : ℕ) (r : Bool) : Type 0 where
  pub formula : r ≡ true → true ≡ is_formula (decoded rd key)
  pub closed : r ≡ true → true ≡ indices_below 0 (decoded rd key)

-- r says that the items of chain c are at most 2,048, closed formulas and items of chain b
pub record AllKept (rd : Reader) (b c : ℕ) (r : Bool) : Type 0 where
  pub formulas : r ≡ true → true ≡ every is_formula (chain_trees rd c)
  pub closed : r ≡ true → true ≡ every is_closed (chain_trees rd c)
  pub found : r ≡ true → true ≡ every (held (chain_trees rd b)) (chain_trees rd c)
  pub few : r ≡ true → true ≡ leb (length (linked rd c)) 2048

-- chain l is left of chain c, and `left` of 2,048 items; p is a link of chain b
pub record Run (rd : Reader) (size b c l p left : ℕ) : Type 0 where
  pub inside : l < size
  pub place : p < size
  pub behind : Behind rd b p
  pub formulas : every is_formula (chain_trees rd c) ≡ every is_formula (chain_trees rd l)
  pub closed : every is_closed (chain_trees rd c) ≡ every is_closed (chain_trees rd l)
  pub found : every (held (chain_trees rd b)) (chain_trees rd c) ≡ every (held (chain_trees rd b)) (chain_trees rd l)
  pub few : leb (length (linked rd c)) 2048 ≡ leb (length (linked rd l)) left

-- The ways out of `is_closed_formula`.
pub formula_no : (rd : Reader) (key : ℕ) → ClosedFormula rd key false
formula_no rd key = record { formula = λ e. absurd (false≢true e); closed = λ e. absurd (false≢true e) }

pub formula_closed : (rd : Reader) (key : ℕ) (s : Bool) → s ≡ is_formula (decoded rd key) → not s ≡ false → (r : Bool) → r ≡ indices_below 0 (decoded rd key) → ClosedFormula rd key r
formula_closed rd key s es h r er = record { formula = λ e. sym (not-false s h) ∙ es; closed = λ e. sym e ∙ er }

-- The ways out of `all_kept`.
pub kept_no : (rd : Reader) (b c : ℕ) → AllKept rd b c false
kept_no rd b c = record { formulas = λ e. absurd (false≢true e); closed = λ e. absurd (false≢true e); found = λ e. absurd (false≢true e); few = λ e. absurd (false≢true e) }

pub run_start : (rd : Reader) (size b c : ℕ) → b < size → c < size → Run rd size b c c b 2048
run_start rd size b c hb hc = record { inside = hc; place = hb; behind = behind_self rd b; formulas = refl; closed = refl; found = refl; few = refl }

pub run_more : (rd : Reader) (size b c l p left : ℕ) → Run rd size b c l p left → (l ≡ 0 → ⊥) → (left ≡ 0 → ⊥) → (item next x : ℕ) → item ≡ lower rd l 1 → next ≡ lower rd l 3 →
    KeyOf rd size x (bare_tree rd item) → (s : Bool) → ClosedFormula rd x s → not s ≡ false → (q : ℕ) → Found rd size b x q → (q ≡ 0 → ⊥) → Run rd size b c next q (left - 1)
run_more rd size b c l p left run some more item next x ei en key s tested h q found there =
    let yes = not-false s h in
    record {
      inside = rest_in rd l next size some en run.inside;
      place = found.inside;
      behind = found.behind;
      formulas = chain_more rd is_formula c l run.formulas some item ei true (key_formula rd size x item true key (tested.formula yes)) refl next en;
      closed = chain_more rd is_closed c l run.closed some item ei true (closed_key rd size x item true key (tested.closed yes)) refl next en;
      found = chain_more rd (held (chain_trees rd b)) c l run.found some item ei true (found_item rd size b x q item found there key) refl next en;
      few = most_more rd c 2048 left l run.few some more next en;
    }

pub kept_end : (rd : Reader) (size b c l p left : ℕ) → Run rd size b c l p left → l ≡ 0 → AllKept rd b c true
kept_end rd size b c l p left run none = record {
  formulas = λ e. chain_end rd is_formula c l run.formulas none;
  closed = λ e. chain_end rd is_closed c l run.closed none;
  found = λ e. chain_end rd (held (chain_trees rd b)) c l run.found none;
  few = λ e. most_end rd c 2048 left l run.few none;
}
