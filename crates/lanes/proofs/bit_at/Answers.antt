-- `lanes::bit_at` meets its contract: a bit lies within one octet.
use mathlib.Core.Path.{◌≡◌, sym, ap, ◌∙◌}
use Prim.Native.Nat.{◌+◌, ◌-◌, ◌/◌, ◌%◌, ◌≤◌, ◌<◌}
use native.Mathlib.Omega.{arith}
use lib.ListN.{length, get_or, drop, length-drop}
use Rattle.bits.specs.Bits.{bits_of, number}
use Rattle.bits.proofs.BitLaws.{length-bits_of}
use Rattle.bits.proofs.RunLaws.{run-within}
use Rattle.bits.proofs.NextLaws.{nexts-take}
use Rattle.eights.proofs.EightLaws.{number_one}
use Rattle.lanes.proofs.bit_at.Goals as goal

pub overflow_cast-result : goal.overflow_cast-result
overflow_cast-result c = omega (arith, c.type_inv.buffer (c.args.at / 8))

pub returns : goal.returns
returns c =
    let a = c.args in
    let xs = a.buffer.now in
    let bits = drop a.at (bits_of xs) in
    let enough : 1 ≤ length bits = rw (length-drop a.at (bits_of xs), length-bits_of xs) (omega arith) in
    let small : get_or xs (a.at / 8) 0 < 256 = omega (arith, c.type_inv.buffer (a.at / 8)) in
    let up : 8 - (a.at % 8 + 1) ≡ 7 - a.at % 8 = omega arith in
    sym (sym (number_one bits) ∙ ap number (nexts-take 1 bits enough) ∙ rw up at (run-within xs a.at 1 (omega arith) (omega arith) small))
