use Rattle.programs_text.specs.TextLaws.{start_length, start_within}
use Rattle.desk_tree.proofs.print_listing.Goals as goal

pub slice_bounds-area-end : goal.slice_bounds-area-end
slice_bounds-area-end g c = start_within _ _ _ _ c.put_listing-length.ensures

pub slice_bounds-write_listing-end : goal.slice_bounds-write_listing-end
slice_bounds-write_listing-end g c = start_length _ _ _ _ c.put_listing-length.ensures

pub write_listing-requires : goal.write_listing-requires
write_listing-requires g c = c.put_listing-length.ensures.stands
