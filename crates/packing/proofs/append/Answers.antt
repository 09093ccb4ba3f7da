-- `packing::append` meets its contract: at each of its three ends as many octets are written as there is room for.
use native.Mathlib.Omega.{arith}
use mathlib.Core.Path.{refl}
use mathlib.Core.Logic.{inl, inr}
use mathlib.Core.List.{append-nil}
use Prim.Native.Nat.{◌-◌}
use lib.ListN.{length}
use Rattle.packing.proofs.FillLaws.{appended}
use Rattle.packing.proofs.append.Goals as goal

pub returns-then-at-out : goal.returns-then-at-out
returns-then-at-out c =
    let a = c.args in
    let p = c.put in
    λ bs xs hx hv h.
    appended bs xs a.out.now p.new.out a.at a.n 8 (omega arith) hx h p.auto.out (inl refl) (λ ys l e. p.ensures bs ys l (rw hv at e) h)

pub returns-then-at-out-2 : goal.returns-then-at-out-2
returns-then-at-out-2 c =
    let a = c.args in
    let p = c.put-then-at-out-2 in
    let N = length a.out.now in
    λ bs xs hx hv h.
    appended bs xs a.out.now p.new.out a.at a.n (N - a.at) (omega arith) hx h p.auto.out (inr (omega arith, omega arith))
    (λ ys l e. p.ensures bs ys l (rw hv at e) h)

pub returns-else-at-out-2 : goal.returns-else-at-out-2
returns-else-at-out-2 c =
    let a = c.args in
    λ bs xs hx hv h.
    appended bs xs a.out.now a.out.now a.at a.n 0 (omega arith) hx h refl (inr (omega arith, omega arith)) (λ ys l e. rw (append-nil bs) h.held)
