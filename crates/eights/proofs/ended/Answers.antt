-- `eights::ended` meets its contract: both eights are what its callees ensure.
use native.Mathlib.Omega.{arith}
use Rattle.eights.specs.Eight.{ended_by}
use Rattle.eights.proofs.ended.Goals as goal

pub returns : goal.returns
unfolding ended_by
returns c = rw (c.alike.ensures, c.spread.ensures)

pub overflow_add-result : goal.overflow_add-result
overflow_add-result c = omega (arith, returns c)
