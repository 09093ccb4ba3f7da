-- `service::row_at` meets its contract: where all eight are there, by the law of the bits that are gathered.
use native.Mathlib.Omega.{arith}
use Rattle.service.proofs.RowLaws.{row_is, eight_there}
use Rattle.service.proofs.row_at.Goals as goal

pub returns-in-Some : goal.returns-in-Some
returns-in-Some c =
    let line = c.args.line.now in
    let at = c.args.at in
    let eight = c.in-Some.eight.now in
    let cut = c.in-Some.ensures.cases in
    rw c.from_le_bytes-ones.ensures
    (row_is eight line at (eight_there line eight at c.min.result c.min.ensures cut.enough cut.same) (λ i. omega (arith, c.type_inv.line i)))
