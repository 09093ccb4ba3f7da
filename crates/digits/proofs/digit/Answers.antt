-- `digits::digit` meets its contract: each test of the code is that of the definition.
use borrow.Author.Tests.{lt-ltb, le-ltb}
use Rattle.digits.specs.Digits.{digit_of}
use Rattle.digits.proofs.digit.Goals as goal

pub returns-then-d-lt10 : goal.returns-then-d-lt10
unfolding digit_of
returns-then-d-lt10 c = rw (lt-ltb _ _ c.if-d-lt10.true)

pub returns : goal.returns
unfolding digit_of
returns c = rw (le-ltb _ _ c.if-d-lt10.false)
