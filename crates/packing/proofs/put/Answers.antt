-- `packing::put` meets its contract. The loop's invariant: of the number's octets the first k are in the buffer.
use borrow.Author.Rules.{rules}
use native.Mathlib.Omega.{arith}
use mathlib.Core.Path.{◌≡◌, sym, subst, ap, ◌∙◌}
use mathlib.Core.List.{List, ◌++◌, append-nil}
use Prim.Native.Nat.{ℕ, ◌+◌, ◌-◌, ◌*◌, ◌/◌, ◌%◌, ◌^◌, ◌≤◌, ◌<◌, min}
use lib.ListN.{length, take, set}
use Rattle.bits.specs.Bits.{octets}
use Rattle.packing.proofs.FillLaws.{eight-more}
use Rattle.packing.proofs.put.Invariants.{Put}
use Rattle.packing.proofs.put.Goals.{then-k-n, else-k-n}
use Rattle.packing.proofs.put.Goals as goal

-- one octet more, or all are written
put-more : (out₀ out : List ℕ) (at n x k : ℕ) → at + n ≤ length out₀ → n ≤ 8 → k < n → Put out₀ out at x (min k n)
    → Put out₀ (set out (at + k) (x / 2 ^ (8 * (7 - k)) % 256)) at x (min (k + 1) n)
unfolding Put
put-more out₀ out at n x k room hn hk before bs xs hx hv h =
    let here : min k n ≡ k = omega arith in
    let next : min (k + 1) n ≡ k + 1 = omega arith in
    rw (next, ← hv) (eight-more bs xs out at k (length out₀) h.ends hx (omega arith) (omega arith) (rw here at (before bs xs hx hv h)))

put_all : (out₀ out : List ℕ) (at n x k : ℕ) → n ≤ k → Put out₀ out at x (min k n) → Put out₀ out at x (min (k + 1) n)
put_all out₀ out at n x k hk before =
    let e : min k n ≡ min (k + 1) n = omega arith in
    subst (Put out₀ out at x) e before

pub loop-k-init : goal.loop-k-init
unfolding Put
loop-k-init c =
    let e : min 0 c.args.n ≡ 0 = omega arith in
    (omega arith, search rules, λ bs xs hx hv h. rw (e, append-nil bs) h.held)

pub loop-k-preserved : goal.loop-k-preserved
loop-k-preserved c =
    let l = c.loop-k in
    let a = c.args in
    let first = a.out.now in
    let goal : List ℕ → Type 0 = λ (f : List ℕ). Put first f a.at a.x (min (l.k + 1) a.n) in (
      omega arith,
      c.if-k-n.auto.out ∙ l.invariant.1,
      elim c.if-k-n.branch [
        | then-k-n w ↦ subst goal (sym w.out-is) (put-more first l.out a.at a.n a.x l.k (omega arith) (omega arith) w.if-k-n.true l.invariant.2)
        | else-k-n w ↦ subst goal (sym w.out-is) (put_all first l.out a.at a.n a.x l.k w.if-k-n.false l.invariant.2)
      ],
    )

pub returns : goal.returns
unfolding Put
returns c =
    let l = c.loop-k in
    let a = c.args in
    let e : min l.k a.n ≡ a.n = omega arith in
    λ bs xs hx hv h.
    l.invariant.2 bs xs hx hv h ∙ ap (λ (k : ℕ). octets (length a.out.now) (bs ++ take (8 * k) xs)) e
