-- `lanes::lay_top` meets its contract: it is a run from the first eight on, and what is below alone where there are no fields.
use mathlib.Core.Path.{◌≡◌, ap, ap₂, ◌∙◌}
use Prim.Native.Nat.{ℕ, ◌+◌, ◌-◌, ◌*◌, ◌^◌, ◌≤◌, ◌<◌}
use native.Mathlib.Nat.{lt_of_lt_of_le}
use native.Mathlib.Omega.{arith}
use lib.ListN.{drop}
use lib.Pow.{ones_lt, pow_mono, shl_lt}
use Rattle.bits.specs.Bits.{bits_of}
use Rattle.eights.specs.Eight.{raised_by}
use Rattle.eights.proofs.WordLaws.{below-small, raised_none}
use Rattle.lanes.proofs.lay_top.Goals as goal

-- n ones above `up` bits stay below all of them
above : (n up all : ℕ) → n + up ≤ all → (2 ^ n - 1) * 2 ^ up < 2 ^ all
above n up all h = lt_of_lt_of_le (shl_lt n up (ones_lt n)) (pow_mono h)

pub alike-requires : goal.alike-requires
alike-requires c =
    let is-ones-fit : c.ones_above-below.result < 2 ^ (8 - c.args.w) =
    let a = c.args in
    rw c.ones_above-below.ensures (above (7 - (a.w + a.c)) (a.c + 1) (8 - a.w) (omega arith)) in
    below-small (8 - c.args.w) c.ones_above-below.result (omega arith) is-ones-fit

pub returns-then-w-eq0 : goal.returns-then-w-eq0
returns-then-w-eq0 c =
    let a = c.args in
    λ k h.
    let bits = drop (8 * (k * a.w)) (bits_of a.octets.now) in
    c.fill_eights.ensures.1 k (omega arith) h ∙ c.alike.ensures
    ∙ raised_none a.w (8 - a.w) c.ones_above-below.result bits (omega arith)
    ∙ ap (λ (x : ℕ). raised_by a.w (8 - a.w) x bits) c.ones_above-below.ensures

pub invariant_of-lay_fields : goal.invariant_of-lay_fields
invariant_of-lay_fields c =
    let a = c.args in
    record { in_octet = omega arith; below_it = rw c.ones_above-below.ensures (above (7 - (a.w + a.c)) (a.c + 1) (8 - a.w) (omega arith)) }

pub returns : goal.returns
returns c =
    let a = c.args in
    let bits = bits_of a.octets.now in
    λ k h.
    let same : k - 0 ≡ k = omega arith in
    c.lay_fields.ensures.1 k (omega arith) h
    ∙ ap₂ (λ (x j : ℕ). raised_by a.w (8 - a.w) x (drop (8 * (j * a.w)) bits)) c.ones_above-below.ensures same
