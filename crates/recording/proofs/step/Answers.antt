-- `recording::step` meets its contract: the reader reads a block, or none is met.
use mathlib.Core.Path.{sym, ◌∙◌}
use Prim.Native.Nat.{◌+◌, ◌-◌}
use native.Mathlib.Omega.{arith}
use Rattle.buffers.specs.Buffers.{each}
use Rattle.buffers.specs.Lengths.{line_octets}
use Rattle.recording.proofs.StepLaws.{lent-block, met, block-stepped, off-stepped}
use Rattle.recording.proofs.step.Goals as goal

pub returns-then-off_block : goal.returns-then-off_block
returns-then-off_block c =
    let a = c.args in
    let stand = a.stand.now in
    off-stepped a.recording.now stand.place stand.lost a.reader.now (each a.voice.now a.lsd.now)
    (sym c.off_block.ensures ∙ c.if-off_block.true) _ c.off_by_ruling.ensures

pub returns : goal.returns
returns c =
    let a = c.args in
    let r = a.recording.now in
    let stand = a.stand.now in
    let meets = met r stand.place stand.lost (sym c.off_block.ensures ∙ c.if-off_block.false) in
    block-stepped r stand.place stand.lost a.reader.now meets _ (each a.voice.now a.lsd.now) _ _ _
    (lent-block (stand.place + line_octets - stand.place) stand.place r (omega arith)) c.read-heard.ensures (c.moved_on.ensures _)
