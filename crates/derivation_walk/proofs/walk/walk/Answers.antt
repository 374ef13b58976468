use mathlib.Core.Path.{refl, ◌∙◌}
use Rattle.reader.specs.RefusalLaws.{number_some}
use Rattle.derivation_walk.specs.Turns.{entered_stop, entered_following, entered_go, entered_kept, ready_same}
use Rattle.derivation_walk.proofs.walk.walk.Goals as goal

pub enter-requires : goal.enter-requires
enter-requires c = (c.requires.0.here, c.requires.1, c.requires.2)

pub returns-in-Err : goal.returns-in-Err
returns-in-Err c =
    (entered_stop _ _ _ _ _ _ c.requires.0 _ c.in-Err.ensures.0 _ c.in-Err.ensures.1 c.in-Err.ensures.4 (number_some _), c.in-Err.ensures.1.kept, c.in-Err.ensures.2, c.in-Err.ensures.3)

pub walk_links-requires : goal.walk_links-requires
walk_links-requires c =
    (entered_following _ _ _ _ _ _ c.requires.0 _ c.in-Ok.ensures.0 _ c.in-Ok.ensures.1 c.in-Ok.ensures.4 refl, ready_same _ _ _ _ c.requires.1 c.in-Ok.ensures.2, c.in-Ok.ensures.3)

pub returns-in-Ok : goal.returns-in-Ok
returns-in-Ok c =
    (entered_go _ _ _ _ _ _ c.requires.0 _ c.in-Ok.ensures.0 _ c.in-Ok.ensures.1 c.in-Ok.ensures.4 refl _ c.walk_links.ensures.0, entered_kept _ _ _ _ _ _ c.requires.0 _ c.in-Ok.ensures.0 _ c.in-Ok.ensures.1 c.in-Ok.ensures.4 refl _ c.walk_links.ensures.1, c.walk_links.ensures.2 ∙ c.in-Ok.ensures.2, c.walk_links.ensures.3)
