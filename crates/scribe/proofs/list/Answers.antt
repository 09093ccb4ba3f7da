-- `scribe::list` meets its contract: the listing stands on a page of the buffer.
use borrow.Author.Rules.{rules}
use mathlib.Core.Path.{sym, ◌∙◌}
use Rattle.text.proofs.PageLaws.{wrote_back}
use Rattle.scribe.proofs.list.Goals as goal

pub returns : goal.returns
returns c =
    let same = sym (c.put_listing.ensures.same_buffer ∙ c.new-page.ensures.same_buffer) in
    wrote_back c.new-page.ensures.begun c.put_listing.ensures c.end.ensures.place (search (rules, same, c.end.ensures.octets))
