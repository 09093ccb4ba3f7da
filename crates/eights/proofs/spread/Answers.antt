-- `eights::spread` meets its contract: the laws of the three steps.
use mathlib.Core.Path.{◌≡◌, ◌∙◌}
use Prim.Native.Nat.{◌*◌, ◌^◌, ◌≤◌}
use native.Mathlib.Omega.{arith}
use lib.Pow.{pow_pos, pow_mono}
use Rattle.bits.proofs.ShiftLaws.{one_shl}
use Rattle.eights.proofs.SpreadLaws.{two_of, four_of, two_is, two_lt, four_is, four_lt, eight_is}
use Rattle.eights.proofs.WordLaws.{fields_lt}
use Rattle.eights.proofs.spread.Goals as goal

pub overflow_sub-n : goal.overflow_sub-n
overflow_sub-n c = rw (one_shl (4 * c.args.n) (omega arith)) (pow_pos (4 * c.args.n))

pub parted-two-requires : goal.parted-two-requires
parted-two-requires c =
    let a = c.args in
    (omega arith, rw (one_shl (4 * a.n) (omega arith), two_is a.x a.n (omega arith)) (two_lt a.x a.n (omega arith) c.requires.1))

pub overflow_sub-n-3 : goal.overflow_sub-n-3
overflow_sub-n-3 c = let n = c.args.n in rw (one_shl (2 * n) (omega arith)) (pow_pos (2 * n))

pub overflow_mul-n-4 : goal.overflow_mul-n-4
overflow_mul-n-4 c =
    let n = c.args.n in
    let small : 2 ^ (2 * n) ≤ 2 ^ 16 = pow_mono {i = 2 * n} {j = 16} (omega arith) in
    omega (arith, one_shl (2 * n) (omega arith), small)

pub parted-four-requires : goal.parted-four-requires
parted-four-requires c =
    let is-two : c.parted-two.result ≡ two_of c.args.x c.args.n =
    let a = c.args in
    c.parted-two.ensures ∙ rw (one_shl (4 * a.n) (omega arith)) (two_is a.x a.n (omega arith)) in
    let a = c.args in
    (omega arith, rw (is-two, one_shl (2 * a.n) (omega arith), four_is a.x a.n (omega arith)) (four_lt a.x a.n (omega arith) c.requires.1))

pub overflow_sub-n-5 : goal.overflow_sub-n-5
overflow_sub-n-5 c = let n = c.args.n in rw (one_shl n (omega arith)) (pow_pos n)

pub overflow_mul-n-6 : goal.overflow_mul-n-6
overflow_mul-n-6 c =
    let n = c.args.n in
    let small : 2 ^ n ≤ 2 ^ 8 = pow_mono {i = n} {j = 8} (omega arith) in
    omega (arith, one_shl n (omega arith), small)

pub parted-requires : goal.parted-requires
parted-requires c =
    let is-two : c.parted-two.result ≡ two_of c.args.x c.args.n =
    let a = c.args in
    c.parted-two.ensures ∙ rw (one_shl (4 * a.n) (omega arith)) (two_is a.x a.n (omega arith)) in
    let is-four : c.parted-four.result ≡ four_of c.args.x c.args.n =
    let a = c.args in
    c.parted-four.ensures ∙ rw (is-two, one_shl (2 * a.n) (omega arith)) (four_is a.x a.n (omega arith)) in
    let a = c.args in
    (omega arith, rw (is-four, one_shl a.n (omega arith), eight_is a.x a.n (omega arith) c.requires.1) (fields_lt a.x a.n (omega arith)))

pub returns : goal.returns
returns c =
    let is-two : c.parted-two.result ≡ two_of c.args.x c.args.n =
    let a = c.args in
    c.parted-two.ensures ∙ rw (one_shl (4 * a.n) (omega arith)) (two_is a.x a.n (omega arith)) in
    let is-four : c.parted-four.result ≡ four_of c.args.x c.args.n =
    let a = c.args in
    c.parted-four.ensures ∙ rw (is-two, one_shl (2 * a.n) (omega arith)) (four_is a.x a.n (omega arith)) in
    let a = c.args in
    c.parted.ensures ∙ rw (is-four, one_shl a.n (omega arith)) (eight_is a.x a.n (omega arith) c.requires.1)
