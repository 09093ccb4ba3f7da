-- `recording::look` meets its contract: the reader looks at a block, or none is met.
use mathlib.Core.Path.{sym, ◌∙◌}
use Prim.Native.Nat.{◌+◌, ◌-◌}
use native.Mathlib.Omega.{arith}
use Rattle.buffers.specs.Lengths.{line_octets}
use Rattle.recording.specs.Walk.{look_at}
use Rattle.recording.proofs.StepLaws.{lent-block, met, block_looked}
use Rattle.recording.proofs.look.Goals as goal

pub returns-then-off_block : goal.returns-then-off_block
unfolding look_at
returns-then-off_block c = c.off_by_ruling.ensures

pub returns : goal.returns
returns c =
    let r = c.args.recording.now in
    let stand = c.args.stand.now in
    let meets = met r stand.place stand.lost (sym c.off_block.ensures ∙ c.if-off_block.false) in
    block_looked r stand.place stand.lost c.args.reader.now meets _ _ _
    (lent-block (stand.place + line_octets - stand.place) stand.place r (omega arith)) c.look-heard.ensures (c.moved_on.ensures _)
