-- `search::folded` meets its contract. The loop's invariant: the first part's entries, and those that follow so far, are as they shall be.
use mathlib.Core.Path.{refl}
use Prim.Native.Nat.{ℕ, ◌+◌, ◌*◌}
use native.Mathlib.Omega.{arith}
use lib.ListN.{get_or, length-set}
use Rattle.bits.specs.Bits.{sc_bit}
use Rattle.search.specs.Groups.{EachBit}
use Rattle.search.proofs.GroupLaws.{one_part_further, one_more_entry}
use Rattle.search.proofs.folded.Goals as goal

pub loop-i-preserved : goal.loop-i-preserved
loop-i-preserved c =
    let l = c.loop-i in
    let part = c.args.part.now in
    let P : ℕ → ℕ → Type 0 = λ j x. EachBit x (λ k. sc_bit (get_or part (256 * k + j) 0)) in
    let o = c.one_part_on in
    let here : P (l.i + 256) o.result =
    one_part_further (get_or l.bits l.i 0) o.result (get_or part (l.i + 2048) 0) l.i part refl
    (l.invariant.2 l.i (omega arith)) o.ensures.0 o.ensures.1 in
    let all = one_more_entry P l.bits (l.i + 256) o.result (omega arith) l.invariant.2 here in
    (omega arith, simp length-set l.invariant.1, λ j h. all j (omega arith))
