-- `service::odd_first` meets its contract: one SC bit.
use Rattle.bits.proofs.BoolLaws.{bit-back}
use Rattle.service.specs.Channel.{odd_first}
use Rattle.service.proofs.odd_first.Goals as goal

pub returns : goal.returns
unfolding odd_first
returns c = rw c.sc_bit.ensures.0 (bit-back _)
