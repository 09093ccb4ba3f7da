-- `digits::put_decimal` meets its contract: a small number has no digit above that of 10 ^ 4.
use native.Mathlib.Omega.{arith}
use Rattle.digits.specs.Digits.{decimal_of}
use Rattle.digits.proofs.DigitLaws.{digits_below}
use Rattle.digits.proofs.put_decimal.Goals as goal

pub returns-then-n-lt100000 : goal.returns-then-n-lt100000
unfolding decimal_of
returns-then-n-lt100000 c =
    let n = c.args.n in
    rw (digits_below 15 4 n (omega arith)) c.put_digits.ensures

pub returns : goal.returns
unfolding decimal_of
returns c = c.put_digits-2.ensures
