use Rattle.reader_equality.specs.Tables.{zeros_filled}
use Rattle.reader_instances.specs.Instances.{remembered_none, same_instance_is}
use Rattle.reader_instances.proofs.instances.same_instance.Goals as goal

pub fits_at-r-requires : goal.fits_at-r-requires
fits_at-r-requires c = let p = c.requires in (p.0, remembered_none _ _ _ p.1)

pub returns : goal.returns
returns c = (same_instance_is _ _ _ _ _ _ c.lower_at-types.ensures c.fits_at-r.ensures.0, zeros_filled _ _ (c.fill.ensures.after (λ y e. e)))
