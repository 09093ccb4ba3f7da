-- `search::wrong_word` meets its contract: the machine's operations are those of each bit.
use mathlib.Core.Path.{◌≡◌}
use mathlib.Core.Bool.{true, xor}
use Prim.Native.Nat.{ℕ, ◌/◌, ◌^◌}
use lib.Bits.{bit_xor}
use Rattle.bits.specs.Bits.{odd}
use Rattle.bits.proofs.BitLaws.{bit-or, bit-and, sc_is}
use Rattle.search.specs.Groups.{plane}
use Rattle.search.proofs.PlaneLaws.{bit-turned, plane_at}
use Rattle.search.proofs.WrongLaws.{not_spelled}
use Rattle.search.proofs.wrong_word.Goals as goal

pub returns : goal.returns
returns c = λ k h.
    let a = c.args in
    let turned : (x : ℕ) → odd (bit_xor x 255 / 2 ^ k) ≡ xor (odd (x / 2 ^ k)) true = λ x. bit-turned x k h in
    simp (bit-or, bit-and, turned) (simp (plane_at, sc_is) at (not_spelled a.at (plane k a.part.now)))
