-- `eights::octets_at` meets its contract: of eight octets the shift leaves the first n.
use mathlib.Core.Path.{ap, ◌∙◌}
use Prim.Native.Nat.{ℕ, ◌+◌, ◌-◌, ◌*◌, ◌/◌, ◌^◌}
use native.Mathlib.Omega.{arith}
use lib.ListN.{length}
use borrow.Author.Tests.{le-leb}
use Rattle.eights.proofs.EightLaws.{octets_first}
use Rattle.eights.proofs.octets_at.Goals as goal

pub returns-then-buffer-i-ge8 : goal.returns-then-buffer-i-ge8
returns-then-buffer-i-ge8 c =
    let a = c.args in
    let b = a.buffer.now in
    ap (λ (x : ℕ). x / 2 ^ (8 * (8 - a.n))) (rw (le-leb (a.i + 8) (length b) (omega arith)) at c.whole_eight_at.ensures)
    ∙ octets_first b a.i a.n (omega arith) (omega arith)

pub returns : goal.returns
returns c =
    let a = c.args in
    ap (λ (x : ℕ). x / 2 ^ (8 * (8 - a.n))) c.eight_at.ensures ∙ octets_first a.buffer.now a.i a.n (omega arith) (omega arith)
