-- `frame::service_of` meets its contract: the law of service bits, at what its callees ensure.
use mathlib.Core.Path.{ap, ◌∙◌}
use Prim.Native.Nat.{ℕ}
use native.Mathlib.Omega.{arith}
use Rattle.bits.specs.Bits.{low_bits, number}
use Rattle.bas.specs.Words.{line_order}
use Rattle.numbers.specs.declared.FrameNumber.{FrameNumber}
use Rattle.numbers.specs.Numbers.{even_frame, odd_frame}
use Rattle.frame.proofs.BlockLaws.{service_is}
use Rattle.frame.proofs.service_of.Goals as goal

pub bounds-rows-i : goal.bounds-rows-i
unfolding even_frame
bounds-rows-i c = rw c.even_frame-i.ensures (omega arith)

pub bounds-rows-j : goal.bounds-rows-j
unfolding odd_frame
bounds-rows-j c = rw c.odd_frame-j.ensures (omega arith)

pub returns : goal.returns
returns c =
    let h = c.args.header in
    service_is h c.service_rows-rows.result c.even_frame-i.result.0 c.odd_frame-j.result.0 c.line_order-word.result
    c.service_word.result c.service_word-2.result
    c.service_rows-rows.ensures
    (ap (λ (x : FrameNumber). x.0) c.even_frame-i.ensures)
    (ap (λ (x : FrameNumber). x.0) c.odd_frame-j.ensures)
    (c.line_order-word.ensures ∙ ap (λ (w : ℕ). number (line_order (low_bits 16 w))) c.word_of.ensures)
    c.service_word.ensures
    c.service_word-2.ensures
