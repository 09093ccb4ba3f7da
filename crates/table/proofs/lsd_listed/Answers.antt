-- `table::lsd_listed` meets its contract: the source's table is that of the definition's entries, which antt computes.
use mathlib.Core.Path.{sym, ap, ◌∙◌}
use native.Mathlib.Omega.{arith}
use Rattle.std.proofs.Common.{◌<◌}
use Rattle.std.specs.Prelude.{Some}
use Rattle.table.specs.Table.{lsd_table, beside, lsd_places, lsd_listed}
use Rattle.table.proofs.TableLaws.{lsd_past, lsd_entry, lsd-said}
use Rattle.table.proofs.lsd_listed.Goals as goal

pub returns-then-v-ge15 : goal.returns-then-v-ge15
returns-then-v-ge15 c = sym (lsd_past c.args.v c.if-v-ge15.true)

pub returns : goal.returns
unfolding lsd_entry lsd_places lsd_listed lsd_table beside
returns c =
    let v = c.args.v in
    let inside : v < 15 = omega (arith, c.if-v-ge15.false) in
    ap Some c.bits_and_sc.ensures ∙ lsd-said v inside
