-- Every listing fits its buffer.
use Rattle.std.proofs.Common.{arith, sym, length-take-le}
use Rattle.scribe.proofs.ListingLaws.{listed-fits}
use Rattle.listing.proofs.main.Goals as goal

pub slice_bounds-text-end : goal.slice_bounds-text-end
slice_bounds-text-end c = listed-fits _ c.list-end.ensures (omega arith)

pub slice_bounds-write_all-end : goal.slice_bounds-write_all-end
slice_bounds-write_all-end c = sym (length-take-le _ _ (listed-fits _ c.list-end.ensures (omega arith)))
