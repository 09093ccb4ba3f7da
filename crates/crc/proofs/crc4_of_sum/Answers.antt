-- `crc::crc4_of_sum` meets its contract: it is the law of what a sum leaves, at the answers of the two calls.
use mathlib.Core.Path.{◌≡◌, ap, ap₂, ◌∙◌}
use mathlib.Core.List.{[], ◌∷◌}
use Prim.Native.Nat.{ℕ, ◌/◌, ◌%◌, ◌^◌}
use lib.ListN.{get_or}
use native.Mathlib.Omega.{arith}
use borrow.Author.Rules.{rules}
use Rattle.crc.specs.Crc.{crc4_from}
use Rattle.crc.proofs.SumLaws.{down, sum_leaves}
use Rattle.crc.proofs.crc4_of_sum.Goals as goal

pub returns : goal.returns
returns c =
    let sum = c.args.sum in
    let fifteen = down 15 (down 30 (down 60 sum)) % 2 ^ 15 in
    let first : get_or c.to_be_bytes.result 0 0 ≡ fifteen / 256 = rw c.to_be_bytes.ensures (omega arith) in
    let second : get_or c.to_be_bytes.result 1 0 ≡ fifteen % 256 = rw c.to_be_bytes.ensures (omega arith) in
    c.crc4_octet-2.ensures
    ∙ ap₂ (λ (r x : ℕ). crc4_from r (x ∷ [])) (c.crc4_octet.ensures ∙ ap (λ (x : ℕ). crc4_from 0 (x ∷ [])) first) second
    ∙ sum_leaves sum (search rules)
