-- `digits::put_hex` meets its contract: two digits one after the other.
use Rattle.digits.specs.Digits.{hex_of}
use Rattle.text.proofs.PageLaws.{wrote_then}
use Rattle.digits.proofs.put_hex.Goals as goal

pub returns : goal.returns
unfolding hex_of
returns c =
    rw (← c.digit.ensures, ← c.digit-2.ensures) (wrote_then c.put.ensures c.put-2.ensures)
