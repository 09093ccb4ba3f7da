-- `lanes::own_bit` meets its contract: by whether the octet is one of `first` to `last`.
use mathlib.Core.Path.{sym, ap, ◌∙◌}
use mathlib.Core.Bool.{true}
use Prim.Native.Nat.{ℕ, ◌+◌, ◌-◌}
use native.Mathlib.Nat.{add-zero}
use native.Mathlib.Omega.{arith}
use borrow.Author.Tests.{le-leb, lt-leb}
use lib.ListN.{get_or}
use lib.Seq.{get_or-drop}
use Rattle.bits.specs.Bits.{bits_of, digit}
use Rattle.eights.specs.Eight.{own_at}
use Rattle.lanes.proofs.own_bit.Goals as goal

pub returns-then-o-first : goal.returns-then-o-first
unfolding own_at
returns-then-o-first c = let a = c.args in rw (lt-leb a.first (a.o + 1) (omega arith))

pub returns-then-last-o : goal.returns-then-last-o
unfolding own_at
returns-then-last-o c =
    let a = c.args in
    rw (le-leb a.first (a.o + 1) (omega arith), lt-leb (a.o + 1) a.last (omega arith))

pub returns : goal.returns
unfolding own_at
returns c =
    let a = c.args in
    let bits = bits_of a.buffer.now in
    let x = a.o + 1 - a.first in
    rw (le-leb a.first (a.o + 1) (omega arith), le-leb (a.o + 1) a.last (omega arith))
    (c.bit_at.ensures
    ∙ ap digit (get_or-drop (a.d + x) bits 0 true ∙ ap (λ (i : ℕ). get_or bits i true) (add-zero (a.d + x)) ∙ sym (get_or-drop a.d bits x true)))
