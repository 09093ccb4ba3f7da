-- `service::c_bits` meets its contract: they are the last four bits of the odd frame's row.
use mathlib.Core.Path.{ap, ◌∙◌}
use Prim.Native.Nat.{ℕ, ◌%◌}
use Rattle.service.specs.Channel.{c_bits}
use Rattle.service.proofs.ChannelLaws.{last_of}
use Rattle.service.proofs.c_bits.Goals as goal

pub returns : goal.returns
unfolding c_bits
returns c = ap (λ (x : ℕ). x % 16) c.row_at.ensures ∙ last_of 4 4 80 c.args.line.now
