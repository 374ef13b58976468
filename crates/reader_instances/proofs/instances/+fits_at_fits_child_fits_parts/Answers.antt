use native.Mathlib.Omega.{arith}
use Rattle.reader.specs.TestLaws.{boths}
use Rattle.reader_chains.specs.Outcomes.{found_false, found_true}
use Rattle.reader_instances.specs.Instances.{fits_parts, fits_none, fits_variable_lem, fits_first_none, fits_more, fits_child_is, child_falls, remembered_is, remembered_more}
use Rattle.std.proofs.Common.{ap, not}
use Rattle.reader_instances.proofs.instances.+fits_at_fits_child_fits_parts.Goals as goal

pub fits_at-returns-then-j-eq0 : goal.fits_at-returns-then-j-eq0
unfolding fits_parts
fits_at-returns-then-j-eq0 t c = (search fits_none, c.requires.1)

pub fits_at-returns-then-x-ne0 : goal.fits_at-returns-then-x-ne0
unfolding fits_parts
fits_at-returns-then-x-ne0 t c =
    let p = c.requires.1 in (remembered_is _ _ _ _ _ _ _ p c.entry_at-x.ensures c.if-x-ne0.true c.same_at.ensures, p)

pub fits_at-returns-then-word_at : goal.fits_at-returns-then-word_at
unfolding fits_parts
fits_at-returns-then-word_at t c = let p = c.requires.1 in (search fits_variable_lem, p)

pub fits_at-returns-then-i-eq0 : goal.fits_at-returns-then-i-eq0
unfolding fits_parts
fits_at-returns-then-i-eq0 t c = let p = c.requires.1 in (search fits_first_none, p)

pub fits_at-fits_parts-requires : goal.fits_at-fits_parts-requires
unfolding fits_parts
fits_at-fits_parts-requires t c = (omega arith, (omega arith, c.requires.0, c.requires.1))

pub fits_at-returns-then-not-fits_parts : goal.fits_at-returns-then-not-fits_parts
unfolding fits_parts
fits_at-returns-then-not-fits_parts t c =
    let f = c.fits_parts.ensures in (
      fits_more _ _ _ _ c.if-j-eq0.false _
          c.word_at.ensures c.if-word_at.false
          c.if-i-eq0.false _ (found_false _ _ f.0 (ap not c.if-not-fits_parts.true)),
      f.1,
    )

pub fits_at-returns : goal.fits_at-returns
unfolding fits_parts
fits_at-returns t c =
    let f = c.fits_parts.ensures in let e = fits_more _ _ _ _
    c.if-j-eq0.false _
    c.word_at.ensures
    c.if-word_at.false c.if-i-eq0.false _
    (found_true _ _ f.0 (ap not c.if-not-fits_parts.false)) in (e, remembered_more _ _ _ _ _ _ f.1 e c.store.ensures)

pub fits_child-fits_at-requires : goal.fits_child-fits_at-requires
unfolding fits_parts
fits_child-fits_at-requires t c = (child_falls _ _ _ _ t c.decreases c.requires.0 c.child_at-y.ensures, (c.requires.1, c.requires.2))

pub fits_child-returns : goal.fits_child-returns
unfolding fits_parts
fits_child-returns t c =
    let f = c.fits_at.ensures in (fits_child_is _ _ _ _ _ _ _ _ c.child_at-x.ensures c.child_at-y.ensures f.0, f.1)

pub fits_parts-returns-then-not-same_head : goal.fits_parts-returns-then-not-same_head
unfolding fits_parts
fits_parts-returns-then-not-same_head t c = (search boths, c.requires.2)

pub fits_parts-fits_child-requires : goal.fits_parts-fits_child-requires
unfolding fits_parts
fits_parts-fits_child-requires t c = (omega arith, c.requires)

pub fits_parts-returns-then-not-fits_child : goal.fits_parts-returns-then-not-fits_child
unfolding fits_parts
fits_parts-returns-then-not-fits_child t c = (search boths, c.fits_child.ensures.1)

pub fits_parts-fits_child-requires-2 : goal.fits_parts-fits_child-requires-2
unfolding fits_parts
fits_parts-fits_child-requires-2 t c = (omega arith, (c.requires.0, c.requires.1, c.fits_child.ensures.1))

pub fits_parts-returns-then-not-fits_child-2 : goal.fits_parts-returns-then-not-fits_child-2
unfolding fits_parts
fits_parts-returns-then-not-fits_child-2 t c = (search boths, c.fits_child-2.ensures.1)

pub fits_parts-fits_child-requires-3 : goal.fits_parts-fits_child-requires-3
unfolding fits_parts
fits_parts-fits_child-requires-3 t c = (omega arith, (c.requires.0, c.requires.1, c.fits_child-2.ensures.1))

pub fits_parts-returns : goal.fits_parts-returns
unfolding fits_parts
fits_parts-returns t c = (search boths, c.fits_child-3.ensures.1)
