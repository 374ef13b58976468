use Rattle.reader_naming.specs.Totals.{cleared_fill}
use Rattle.reader_naming.proofs.first_unnamed.Goals as goal

pub returns : goal.returns
returns c = (c.first_by_counts-r.ensures, cleared_fill _ _ (c.fill.ensures.after (λ y e. e)), cleared_fill _ _ (c.fill-2.ensures.after (λ y e. e)))
