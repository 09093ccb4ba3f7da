-- `bas::read_word` meets its contract: what it does by the table is what the definition says, by `unharmed`, `mended` and `unmended`.
use mathlib.Core.Path.{◌≡◌, sym, ap, ap₂, ◌∙◌}
use mathlib.Core.List.{List}
use Prim.Native.Nat.{ℕ, ◌/◌, ◌%◌, ◌<◌}
use native.Mathlib.Omega.{arith}
use lib.Bits.{bit_xor}
use lib.ListN.{get_or}
use borrow.Author.Rules.{rules}
use Rattle.std.specs.Prelude.{Some}
use Rattle.std.specs.Int.{w16, to_be_bytes}
use Rattle.bits.specs.Bits.{low_bits, number}
use Rattle.bas.specs.Flips.{flips_at, syndrome}
use Rattle.bas.proofs.ReadingLaws.{index_is_syndrome, mended, unharmed, unmended}
use Rattle.bas.specs.Words.{check_of}
use Rattle.bas.proofs.read_word.Goals as goal

-- the octets of a word, high and low
high : (w : ℕ) (octets : List ℕ) → octets ≡ to_be_bytes w16 w → get_or octets 0 0 ≡ w / 256 % 256
high w octets e = rw e (omega arith)

low : (w : ℕ) (octets : List ℕ) → octets ≡ to_be_bytes w16 w → get_or octets 1 0 ≡ w % 256
low w octets e = rw e

-- the remainder that the code finds is the number at which the definition looks into the table
remains : (w check : ℕ) (octets : List ℕ) → w < 65536 → octets ≡ to_be_bytes w16 w → check ≡ check_of (get_or octets 0 0)
    → bit_xor check (get_or octets 1 0) ≡ number (syndrome (low_bits 16 w))
remains w check octets h e is =
    let first : get_or octets 0 0 ≡ w / 256 = high w octets e ∙ omega arith in
    ap₂ bit_xor (is ∙ ap check_of first) (low w octets e) ∙ index_is_syndrome w

pub returns-then-remainder-eq0 : goal.returns-then-remainder-eq0
returns-then-remainder-eq0 c =
    let w = c.args.word in
    let h : w < 65536 = search rules in
    let first : get_or c.to_be_bytes.result 0 0 ≡ w / 256 = high w _ c.to_be_bytes.ensures ∙ omega arith in
    let none = sym (remains w _ _ h c.to_be_bytes.ensures c.check_octet.ensures) ∙ c.if-remainder-eq0.true in
    ap Some first ∙ sym (unharmed w h none)

pub returns-in_err-flip : goal.returns-in_err-flip
returns-in_err-flip c =
    let w = c.args.word in
    let h : w < 65536 = search rules in
    let is = remains w _ _ h c.to_be_bytes.ensures c.check_octet.ensures in
    c.from_residual.ensures ∙ sym (unmended w (sym (c.in_err-flip.ensures ∙ ap flips_at is)))

pub returns : goal.returns
returns c =
    let w = c.args.word in
    let h : w < 65536 = search rules in
    let is = remains w _ _ h c.to_be_bytes.ensures c.check_octet.ensures in
    let first : get_or c.to_be_bytes.result 0 0 ≡ w / 256 = high w _ c.to_be_bytes.ensures ∙ omega arith in
    ap₂ (λ (a b : ℕ). Some (bit_xor a b)) first (high _ _ c.to_be_bytes-2.ensures)
    ∙ sym (mended w _ h (sym (c.in_ok-flip.ensures ∙ ap flips_at is)))
