-- `digits::put_digits` meets its contract. The loop's invariant: the digits that are left, written next, make the digits whole.
use native.Mathlib.Omega.{arith}
use native.Mathlib.Nat.{one-le-pow, sub-zero}
use mathlib.Core.Path.{◌≡◌, ap, ◌∙◌}
use Prim.Native.Nat.{ℕ, ◌+◌, ◌-◌, ◌/◌, ◌^◌, ◌<◌}
use lib.Dec.{lit<}
use Rattle.text.proofs.PageLaws.{wrote_then}
use Rattle.digits.proofs.DigitLaws.{digits_last, digits_more, power_below}
use Rattle.digits.proofs.put_digits.Goals as goal

pub loop-i-init : goal.loop-i-init
loop-i-init c = record { within = omega arith; power = rw (sub-zero c.args.first) c.requires; left = λ end w. rw (sub-zero c.args.first) at w }

pub put_digit_at-requires : goal.put_digit_at-requires
put_digit_at-requires c =
    let l = c.loop-i in
    rw l.invariant.power (one-le-pow (c.args.first - l.i) 10 (lit< tt))

pub loop-i-preserved : goal.loop-i-preserved
loop-i-preserved c =
    let l = c.loop-i in
    let n = c.args.n in
    let k = c.args.first - l.i in
    let some : 0 < k = omega arith in
    let next : k - 1 ≡ c.args.first - (l.i + 1) = omega arith in
    record {
      within = omega arith;
      power = ap (λ (p : ℕ). p / 10) l.invariant.power ∙ power_below k some ∙ ap (λ (j : ℕ). 10 ^ j) next;
      left = λ end w. l.invariant.left end (rw (digits_more k n some, ← l.invariant.power, next) (wrote_then c.put_digit_at.ensures w));
    }

pub returns : goal.returns
returns c =
    let l = c.loop-i in
    let n = c.args.n in
    let last : c.args.first - l.i ≡ 0 = omega arith in
    l.invariant.left _ (rw (last, digits_last n, ← c.digit.ensures) c.put.ensures)
