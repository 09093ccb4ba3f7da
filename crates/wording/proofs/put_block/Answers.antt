-- `wording::put_block` meets its contract: eight pieces.
use Rattle.text.specs.Words.{text_of}
use Rattle.text.proofs.PageLaws.{wrote_then}
use Rattle.wording.specs.Lines.{block_line}
use Rattle.wording.proofs.put_block.Goals as goal

pub returns : goal.returns
unfolding text_of block_line
returns c =
    wrote_then (wrote_then (wrote_then (wrote_then (wrote_then (wrote_then (wrote_then c.put_decimal.ensures c.put.ensures) c.put_standing.ensures) c.put-2.ensures) c.put_verdict.ensures) c.put-3.ensures) c.put_code.ensures)
    c.put-4.ensures
