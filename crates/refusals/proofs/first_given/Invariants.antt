-- none of the rows before this one is given
use Rattle.std.proofs.Common.{◌≡◌}
use Rattle.std.specs.Prelude.{drop}
use Rattle.refusals.specs.Rows.{first_given}
use Rattle.refusals.proofs.first_given.Given as goal

abbrev pub invariant-loop-row : goal.invariant-loop-row
invariant-loop-row l = first_given l.rows ≡ first_given (drop l.row-index l.rows)
