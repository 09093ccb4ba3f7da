-- `lanes::load_eights` meets its contract: the rule gives each eight as it is loaded.
use borrow.Author.Rules.{rules}
use Rattle.lanes.proofs.load_eights.Goals as goal

pub returns : goal.returns
returns c = (c.set_eights.ensures.before, λ k f t. search (rules, c.set_eights.ensures.within k f t))
