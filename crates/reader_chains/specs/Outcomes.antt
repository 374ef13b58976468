-- `if !r { return false; }` before `true`: what was tested, by its outcome.
use Rattle.std.specs.Prelude.{◌≡◌, Bool, true, false, not}
use Rattle.std.proofs.Common.{sym, ◌∙◌}
use Rattle.std.proofs.lemmas.Bool.{not-true, not-false}

module _ (b r : Bool) (e : r ≡ b) where
  pub found_false : not r ≡ true → false ≡ b
  found_false h = sym (not-true r h) ∙ e

  pub found_true : not r ≡ false → true ≡ b
  found_true h = sym (not-false r h) ∙ e
