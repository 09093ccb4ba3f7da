-- `sorter::sort_with_sc` meets its contract: frame by frame, what has come so far is in the buffer.
use native.Mathlib.Omega.{arith}
use mathlib.Core.Path.{◌≡◌, refl, sym, subst, ap, ◌∙◌}
use mathlib.Core.Bool.{Bool}
use mathlib.Core.List.{List}
use Prim.Native.Nat.{ℕ, ◌+◌, ◌-◌}
use borrow.Author.Rules.{rules}
use lib.ListN.{length, replicate}
use Rattle.bits.specs.Bits.{bits_of}
use Rattle.modes.specs.declared.Owner.{Owner}
use Rattle.modes.specs.declared.Owner.TheVariants.{Lsd}
use Rattle.places.specs.Streams.{sort}
use Rattle.places.specs.declared.Layout.{Layout}
use Rattle.packing.specs.Filled.{Filled}
use Rattle.packing.proofs.FillLaws.{cleared, filled_with}
use Rattle.buffers.specs.Lengths.{line_octets}
use Rattle.sorter.specs.Sofar.{sofar}
use Rattle.sorter.proofs.SortLaws.{none_yet, bits_alone, lsd-bits, block_all}
use Rattle.sorter.proofs.sort_with_sc.Goals as goal

begun : (p : Layout) (line buf : List ℕ) (n : ℕ) → buf ≡ replicate n 0 → Filled (sofar p Lsd line 0) 0 buf
begun p line buf n e = subst (λ (bs : List Bool). Filled bs 0 buf) (none_yet p Lsd line) (cleared n buf e)

pub returns-then-in_eights : goal.returns-then-in_eights
returns-then-in_eights c =
    let a = c.args in
    let line = a.line.now in
    let blank = c.fill in
    let even = c.sort_frame-half in
    let odd = c.sort_frame in
    filled_with (sofar a.p Lsd line line_octets) _ _ (length a.lsd.now) _ (odd.ensures.1 (even.ensures.1 (begun a.p line _ (length a.lsd.now) (blank.ensures.after (λ y e. e)))))
    (odd.auto.out ∙ even.auto.out ∙ blank.auto.self)
    (ap (λ (ps : List Owner). sort Lsd ps (bits_of line)) (block_all a.p))

pub returns : goal.returns
returns c =
    let a = c.args in
    let p = a.p in
    let h = c.requires.apart in
    let after = h.after in
    let line = a.line.now in
    let whole : length line ≡ line_octets = search rules in
    let none = bits_alone p h (sym c.in_eights.ensures ∙ c.if-in_eights.false) in
    let blank = c.fill in
    let even = c.sort_bits-half in
    let odd = c.sort_bits in
    filled_with (sofar p Lsd line line_octets) _ odd.result (length a.lsd.now) odd.new.out
    (rw (lsd-bits p line 80 (p.first + 79) (p.last + 80) h none whole refl (omega arith) (omega arith) (omega arith))
    (odd.ensures.1 (sofar p Lsd line 80)
    (rw (lsd-bits p line 0 (p.first - 1) p.last h none whole refl (omega arith) (omega arith) (omega arith))
    (even.ensures.1 (sofar p Lsd line 0) (begun p line _ (length a.lsd.now) (blank.ensures.after (λ y e. e)))))))
    (odd.auto.out ∙ even.auto.out ∙ blank.auto.self)
    (ap (λ (ps : List Owner). sort Lsd ps (bits_of line)) (block_all p))
