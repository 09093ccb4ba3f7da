-- `scribe::put_listing` meets its contract: the search says where the walk begins, or why there is none.
use mathlib.Core.Path.{sym, ◌∙◌}
use native.Mathlib.Omega.{arith}
use Rattle.text.specs.Words.{text_of}
use Rattle.text.proofs.OverLaws.{written_bound}
use Rattle.text.proofs.PageLaws.{wrote_then}
use Rattle.search.proofs.PlaceLaws.{found-fits, found-small}
use Rattle.scribe.specs.Listing.{listing_of}
use Rattle.scribe.proofs.put_listing.Goals as goal

pub put_walk-requires : goal.put_walk-requires
put_walk-requires c =
    let r = c.args.recording.now in
    let e = sym c.search.ensures ∙ c.in-Ok.is in
    (found-small r 0 _ e, omega (arith, (found-fits r 0 _ e).2), written_bound c.put_line.ensures.written)

pub returns-in-Ok : goal.returns-in-Ok
unfolding text_of listing_of
returns-in-Ok c = rw (← c.search.ensures, c.in-Ok.is) (wrote_then c.put_line.ensures c.put_walk.ensures)
