-- `service::service_rows` meets its contract: both sides are one literal, row by row.
use native.Mathlib.Nat.{div-one}
use Rattle.bits.specs.Bits.{odd, low_bits}
use Rattle.service.proofs.service_rows.Goals as goal

pub returns : goal.returns
unfolding low_bits odd
returns c = simp div-one
