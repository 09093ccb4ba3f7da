-- `lanes::write_sums` meets its contract: the loop's invariant: the octets of the first k sums are written.
use mathlib.Core.Path.{◌≡◌, refl, ap, ◌∙◌}
use mathlib.Core.List.{List, ◌++◌, append-nil}
use Prim.Native.Nat.{ℕ, ◌*◌, ◌≤◌}
use native.Mathlib.Omega.{arith}
use lib.ListN.{length, drop, drop_of_length-le}
use lib.Seq.{paste}
use Rattle.eights.specs.Eight.{octets_in, all_octets}
use Rattle.eights.proofs.RunLaws.{word_over}
use Rattle.lanes.proofs.write_sums.Invariants.{sum_at}
use Rattle.lanes.proofs.write_sums.Goals as goal

pub loop-k-init : goal.loop-k-init
unfolding all_octets
loop-k-init c = record { within = omega arith; long = c.told-frame; written = refl }

pub overflow_add-tops : goal.overflow_add-tops
overflow_add-tops c = omega (arith, c.requires c.loop-k.k (omega arith))

pub loop-k-preserved : goal.loop-k-preserved
loop-k-preserved c =
    let a = c.args in
    let l = c.loop-k in
    let call = c.write_word in
    let f : ℕ → ℕ = sum_at a.tops.now a.ends.now in
    record {
      within = omega arith;
      long = call.array_long;
      written = call.ensures ∙ ap (λ (d : List ℕ). paste d (8 * l.k) (octets_in (f l.k)) 8) l.invariant.written ∙ word_over f a.frame.now l.k;
    }

pub returns : goal.returns
returns c =
    let a = c.args in
    let l = c.loop-k in
    let e : l.k ≡ 10 = omega arith in
    let n : length a.frame.now ≤ 80 = omega (arith, c.told-frame) in
    let f : ℕ → ℕ = sum_at a.tops.now a.ends.now in
    l.invariant.written
    ∙ ap (λ (k : ℕ). all_octets f k ++ drop (8 * k) a.frame.now) e
    ∙ ap (λ (r : List ℕ). all_octets f 10 ++ r) (drop_of_length-le a.frame.now n)
    ∙ append-nil (all_octets f 10)
