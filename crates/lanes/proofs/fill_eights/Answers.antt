-- `lanes::fill_eights` meets its contract: the rule gives the number at each place.
use borrow.Author.Rules.{rules}
use Rattle.lanes.proofs.fill_eights.Goals as goal

pub returns : goal.returns
returns c = (c.set_eights.ensures.before, λ k f t. search (rules, c.set_eights.ensures.within k f t))
