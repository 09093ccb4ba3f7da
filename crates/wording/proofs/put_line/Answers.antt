-- `wording::put_line` meets its contract: three pieces.
use Rattle.text.specs.Words.{text_of}
use Rattle.text.proofs.PageLaws.{wrote_then}
use Rattle.wording.proofs.put_line.Goals as goal

pub returns : goal.returns
unfolding text_of
returns c = wrote_then (wrote_then c.put_all.ensures c.put_decimal.ensures) c.put.ensures
