-- `service::bas_word` meets its contract: the law of the word, at what its callees ensure.
use mathlib.Core.Path.{◌∙◌}
use Rattle.service.proofs.ChannelLaws.{word_is}
use Rattle.service.proofs.bas_word.Goals as goal

pub returns : goal.returns
returns c = c.line_order.ensures ∙ rw c.from_be_bytes.ensures (word_is _ _ _ c.row_at-even.ensures c.row_at-odd.ensures)
