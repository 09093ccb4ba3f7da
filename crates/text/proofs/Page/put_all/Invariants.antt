-- `Page::put_all` meets its contract: the loop's invariant: the first octets are written.
use lib.ListN.{take}
use Rattle.text.specs.Pages.{Wrote}
use Rattle.text.proofs.Page.put_all.Given as goal

abbrev pub invariant-loop-x : goal.invariant-loop-x
invariant-loop-x l = Wrote l.fn.self (take l.x-index l.xs) l.self
