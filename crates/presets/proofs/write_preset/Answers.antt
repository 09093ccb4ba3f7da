-- `presets::write_preset` meets its contract: what is not refused holds small values.
use mathlib.Core.Path.{sym, ◌∙◌}
use native.Mathlib.Omega.{arith}
use Rattle.presets.proofs.PresetLaws.{written-small}
use Rattle.presets.proofs.write_preset.Goals as goal

pub overflow_mul-result : goal.overflow_mul-result
overflow_mul-result c =
    let ruled = rw (c.row.ensures, c.is_in_range.ensures) at (sym c.first_given.ensures ∙ c.in_ok-first_given.was) in
    omega (arith, (written-small c.args.s ruled).0, c.from.ensures)

pub overflow_add-result : goal.overflow_add-result
overflow_add-result c =
    let ruled = rw (c.row.ensures, c.is_in_range.ensures) at (sym c.first_given.ensures ∙ c.in_ok-first_given.was) in
    omega (arith, (written-small c.args.s ruled).0, (written-small c.args.s ruled).1, c.from.ensures, c.from-2.ensures)
