use Rattle.reader_headers.specs.Roots.{goal_kind, goal_closed}
use Rattle.reader_headers.proofs.roots.goal_fits.Goals as goal

pub returns-then-word_at : goal.returns-then-word_at
returns-then-word_at c = search goal_kind

pub returns : goal.returns
returns c = search goal_closed
