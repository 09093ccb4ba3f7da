-- `frame::service_word` meets its contract: two octets, one above the other.
use mathlib.Core.Path.{◌≡◌, ap, ◌∙◌}
use mathlib.Core.Bool.{Bool}
use mathlib.Core.List.{List, ◌++◌}
use Prim.Native.Nat.{◌<◌}
use lib.ListN.{length}
use Rattle.bits.specs.Bits.{octet_bits}
use Rattle.bits.proofs.BitLaws.{low_bits_two, low_bits-back}
use borrow.Author.Rules.{rules}
use Rattle.frame.proofs.service_word.Goals as goal

pub returns : goal.returns
returns c =
    let a = c.args in
    let small : a.half < 256 = search rules in
    let eight : length a.row ≡ 8 = search rules in
    low_bits_two c.octet-first.result a.half small
    ∙ ap (λ (l : List Bool). l ++ octet_bits a.half) (ap octet_bits c.octet-first.ensures ∙ low_bits-back 8 a.row eight)
