-- `search::wrong_at` meets its contract: the or of the two words' tests and the one bit's, in each bit.
use mathlib.Core.Path.{◌≡◌}
use mathlib.Core.Bool.{true, xor}
use Prim.Native.Nat.{ℕ, ◌+◌, ◌/◌, ◌^◌}
use native.Mathlib.Omega.{arith}
use lib.Bits.{bit_xor}
use Rattle.bits.specs.Bits.{odd}
use Rattle.bits.proofs.BitLaws.{bit-or, sc_is}
use Rattle.search.specs.Groups.{plane}
use Rattle.search.proofs.PlaneLaws.{bit-turned, length-plane, plane_at}
use Rattle.search.proofs.WrongLaws.{not_aligned}
use Rattle.search.proofs.wrong_at.Goals as goal

pub returns : goal.returns
returns c = λ k h.
    let a = c.args in
    let part = a.part.now in
    let turned : (x : ℕ) → odd (bit_xor x 255 / 2 ^ k) ≡ xor (odd (x / 2 ^ k)) true = λ x. bit-turned x k h in
    simp (bit-or, turned)
    (rw (c.wrong_word.ensures k h, c.wrong_word-2.ensures k h)
    (rw (plane_at k part (a.at + 81), sc_is) at (not_aligned a.at (plane k part) (omega (arith, length-plane k part)))))
