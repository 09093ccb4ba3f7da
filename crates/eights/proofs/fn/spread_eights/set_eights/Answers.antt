-- The rule of `eights::spread_eights` meets its contract: no bit of the fields leaves the 64.
use mathlib.Core.Path.{◌≡◌}
use Prim.Native.Nat.{ℕ, ◌+◌, ◌*◌, ◌%◌, ◌^◌, ◌≤◌, ◌<◌}
use native.Mathlib.Nat.{mod-eq_of_lt}
use native.Mathlib.Omega.{arith}
use Rattle.eights.specs.Eight.{eights, field_of, spread_by}
use Rattle.eights.proofs.WordLaws.{below-small, spread-up, spread-lt}
use Rattle.eights.proofs.fn.spread_eights.set_eights.Goals as goal

whole : (n up below x : ℕ) → n + up ≤ 8 → below < 2 ^ up
    → (eights (field_of x n) * 2 ^ up % 2 ^ 64 + eights (λ k. below) ≡ spread_by n up below x) × (spread_by n up below x < 2 ^ 64)
whole n up below x h hb =
    let small = spread-lt n up below x h hb in
    let sum = spread-up n up below x in
    let up : eights (field_of x n) * 2 ^ up < 2 ^ 64 = omega (arith, sum, small) in
    (rw (mod-eq_of_lt up) sum, small)

pub alike-requires : goal.alike-requires
alike-requires g c = below-small c.captures.fields-up c.captures.fields-below (omega arith) c.requires.1

pub returns : goal.returns
returns g c =
    rw (c.spread.ensures, c.alike.ensures) (whole g.row.N c.captures.fields-up c.captures.fields-below c.args.x c.requires.0 c.requires.1).0

pub overflow_add-result : goal.overflow_add-result
overflow_add-result g c =
    omega (arith, returns g c, (whole g.row.N c.captures.fields-up c.captures.fields-below c.args.x c.requires.0 c.requires.1).1)
