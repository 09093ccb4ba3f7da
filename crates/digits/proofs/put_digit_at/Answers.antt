-- `digits::put_digit_at` meets its contract: a digit where the power is not larger than the number, and nothing where it is.
use borrow.Author.Tests.{le-leb, lt-leb}
use native.Mathlib.Omega.{arith}
use Rattle.digits.specs.Digits.{digit_at}
use Rattle.digits.proofs.put_digit_at.Goals as goal

pub returns-then-power-n : goal.returns-then-power-n
unfolding digit_at
returns-then-power-n c =
    let a = c.args in
    rw (le-leb a.power a.n (omega arith), ← c.digit.ensures) c.put.ensures

pub returns : goal.returns
unfolding digit_at
returns c =
    let a = c.args in
    rw (lt-leb a.power a.n (omega arith)) c.put_all.ensures
