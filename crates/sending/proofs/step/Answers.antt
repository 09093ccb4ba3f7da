-- `sending::step` meets its contract: by what is decided.
use mathlib.Core.Path.{sym, ◌∙◌}
use Rattle.std.proofs.Common.{rules}
use Rattle.buffers.specs.Buffers.{each}
use Rattle.frame.proofs.BlockLaws.{written-block}
use Rattle.control.proofs.GoesLaws.{goes-fitting}
use Rattle.sending.specs.Step.{block_for}
use Rattle.sending.proofs.OutcomeLaws.{told_refused, told_went, decided-accepts}
use Rattle.sending.proofs.step.Goals as goal

pub returns-in-Err : goal.returns-in-Err
returns-in-Err c =
    let a = c.args in
    let told = told_refused a.state a.call (each a.voice.now a.lsd.now) a.line.now _ (sym c.decide.ensures ∙ c.in-Err.is) in
    search (rules, told)

pub returns : goal.returns
unfolding block_for
returns c =
    let a = c.args in
    let decided = sym c.decide.ensures ∙ c.in-Ok.is in
    let fits = goes-fitting a.state a.call _ _ (decided-accepts a.state a.call (each a.voice.now a.lsd.now) a.line.now _ decided) in
    rw c.block_crc-remainder.ensures
    (told_went a.state a.call (each a.voice.now a.lsd.now) a.line.now _ _ decided
    (c.write_block.ensures.1 ∙ written-block _ _ _ (each a.voice.now a.lsd.now) a.line.now fits))
