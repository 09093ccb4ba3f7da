-- `search::search` meets its contract: the test of the lengths, and then the first place of those that are left.
use mathlib.Core.Path.{◌∙◌}
use Rattle.search.specs.Finding.{bad_length, search_of}
use Rattle.search.proofs.search.Goals as goal

pub returns-then-all-saturating_sub : goal.returns-then-all-saturating_sub
unfolding search_of bad_length
returns-then-all-saturating_sub c = rw (← c.saturating_sub.ensures, c.if-all-saturating_sub.true)

pub returns : goal.returns
unfolding search_of bad_length
returns c =
    let n = c.saturating_sub.ensures in
    rw (← n, c.if-all-saturating_sub.false, n) (c.first_from.ensures ∙ c.after_all_groups.ensures)
