-- `packing::append_bit` meets its contract: the octet in which the bits end is as the law of one bit more says.
use native.Mathlib.Omega.{arith}
use mathlib.Core.Path.{refl}
use Rattle.packing.proofs.FillLaws.{bit-appended}
use Rattle.packing.proofs.append_bit.Goals as goal

pub returns : goal.returns
returns c =
    let a = c.args in
    λ bs xs hx hv h. bit-appended bs xs a.out.now a.done a.bit _ hx hv (omega arith) (omega arith) refl h
