-- `packing::gathered` meets its contract: each joining leaves what is picked, and at the end that is all that there is.
use native.Mathlib.Omega.{arith}
use mathlib.Core.Path.{refl, sym, ap, ◌∙◌}
use Prim.Native.Nat.{ℕ, ◌+◌, ◌-◌, ◌/◌, ◌^◌, ◌≤◌, ◌<◌}
use lib.Dec.{lit<}
use lib.Pow.{pow_mono, pow_pos}
use Rattle.packing.specs.Lanes.{picked, units}
use Rattle.packing.proofs.LaneLaws.{picked_one, picked-runs}
use Rattle.packing.proofs.gathered.Goals as goal

pub joined-twos-requires : goal.joined-twos-requires
joined-twos-requires c =
    let n = c.args.run.bits in
    let most : 2 ^ (n + n) ≤ 2 ^ 16 = pow_mono {i = n + n} {j = 16} (omega arith) in
    (lit< tt, omega arith, omega (arith, most))

pub joined-fours-requires : goal.joined-fours-requires
joined-fours-requires c =
    let n = c.args.run.bits in
    let most : 2 ^ (n + n + (n + n)) ≤ 2 ^ 32 = pow_mono {i = n + n + (n + n)} {j = 32} (omega arith) in
    (lit< tt, omega arith, omega (arith, most))

pub joined-requires : goal.joined-requires
joined-requires c =
    let n = c.args.run.bits in
    let four = n + n + (n + n) in
    let most : 2 ^ (four + four) ≤ 2 ^ 64 = pow_mono {i = four + four} {j = 64} (omega arith) in
    (lit< tt, omega arith, omega (arith, most))

pub returns : goal.returns
unfolding units
returns c line o is =
    let a = c.args in
    let n = a.run.bits in
    let s = a.run.start in
    let two = n + n in
    let four = two + two in
    let r = c.joined.result in
    let small : r < 2 ^ (four + four) = omega (arith, c.joined.ensures.0, pow_pos (four + four)) in
    sym (picked_one 64 (four + four) r small)
    ∙ c.joined.ensures.1 1 refl
    ∙ c.joined-fours.ensures.1 2 refl
    ∙ c.joined-twos.ensures.1 4 refl
    ∙ ap (λ (x : ℕ). picked 8 n 8 (x / 2 ^ (8 - (s + n)))) is
    ∙ picked-runs s n line o 8 (omega arith)
