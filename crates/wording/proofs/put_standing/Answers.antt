-- `wording::put_standing` meets its contract: a word for each standing.
use Rattle.text.specs.Words.{text_of}
use Rattle.wording.proofs.put_standing.Goals as goal

pub returns-in-Waiting : goal.returns-in-Waiting
unfolding text_of
returns-in-Waiting c = rw c.in-Waiting.is c.put_all.ensures

pub returns-in-Read : goal.returns-in-Read
unfolding text_of
returns-in-Read c = rw c.in-Read.is c.put_all-in-Read.ensures

pub returns-in-Lost : goal.returns-in-Lost
unfolding text_of
returns-in-Lost c = rw c.in-Lost.is c.put_all-in-Lost.ensures
