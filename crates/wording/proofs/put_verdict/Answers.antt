-- `wording::put_verdict` meets its contract: a word for each verdict.
use Rattle.text.specs.Words.{text_of}
use Rattle.wording.proofs.put_verdict.Goals as goal

pub returns-in-None : goal.returns-in-None
unfolding text_of
returns-in-None c = rw c.in-None.is c.put_all.ensures

pub returns-in-Good : goal.returns-in-Good
unfolding text_of
returns-in-Good c = rw c.in-Good.is c.put_all-in-Good.ensures

pub returns-in-Bad : goal.returns-in-Bad
unfolding text_of
returns-in-Bad c = rw c.in-Bad.is c.put_all-in-Bad.ensures
