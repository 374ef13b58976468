use Rattle.reader_typing.proofs.applications.+items_below.Given as goal

abbrev pub decreases-items_below : goal.decreases-items_below
decreases-items_below l = l.c
