use Rattle.reader_headers.specs.Roots.{hypotheses_none, hypotheses_kind, hypotheses_each, hypotheses_count}
use Rattle.reader_headers.proofs.roots.hypotheses_fit.Goals as goal

pub returns-then-c-eq0 : goal.returns-then-c-eq0
returns-then-c-eq0 c = search hypotheses_none

pub returns-then-word_at : goal.returns-then-word_at
returns-then-word_at c = search hypotheses_kind

pub returns-then-not-every_hypothesis : goal.returns-then-not-every_hypothesis
returns-then-not-every_hypothesis c = search hypotheses_each

pub returns : goal.returns
returns c = search hypotheses_count
