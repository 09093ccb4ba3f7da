-- `sorter::hand_out` meets its contract: where a length is wrong nothing was touched, and else each buffer holds its stream.
use native.Mathlib.Omega.{arith}
use mathlib.Core.Path.{◌≡◌, ap, sym, subst, ◌∙◌}
use mathlib.Core.Bool.{true, false}
use mathlib.Core.List.{List, ◌++◌}
use Prim.Native.Nat.{ℕ}
use lib.ListN.{length}
use Rattle.bits.specs.Bits.{bits_of, octets}
use Rattle.modes.specs.declared.Mode.{Mode}
use Rattle.modes.specs.declared.Owner.{Owner}
use Rattle.modes.specs.declared.Owner.TheVariants.{Voice, Lsd}
use Rattle.places.specs.Streams.{sort}
use Rattle.places.specs.Places.{places}
use Rattle.buffers.specs.Buffers.{Each, each, lengths}
use Rattle.buffers.specs.Lengths.{stream_octets, fitting}
use Rattle.places.specs.Layout.{Apart, layout_of, rows_by}
use Rattle.places.specs.declared.Layout.{Layout}
use Rattle.places.proofs.LayoutLaws.{rows_are, apart_of}
use Rattle.buffers.proofs.LengthLaws.{same_each, fit-lengths}
use Rattle.sorter.specs.Sorting.{sorted_of, streams_of}
use Rattle.sorter.proofs.HandLaws.{told}
use Rattle.sorter.proofs.hand_out.Goals as goal

-- sorting by the layout is sorting by the rule of owners
by-owner : (m : Mode) (p : Layout) (o : Owner) (n k : ℕ) (line buf : List ℕ) → p ≡ layout_of m → n ≡ k
    → buf ≡ octets n (sort o (rows_by p 80 ++ rows_by p 80) (bits_of line)) → buf ≡ sorted_of m o k line
unfolding sorted_of places
by-owner m p o n k line buf e f h = h ∙ rw (f, e, ← (rows_are m 80))

apart_by : (m : Mode) (p : Layout) → p ≡ layout_of m → Apart p
apart_by m p e = subst Apart (sym e) (apart_of m)

pub returns-then-not-lengths_fit : goal.returns-then-not-lengths_fit
returns-then-not-lengths_fit c =
    let a = c.args in
    told a.mode a.line.now (each a.voice.now a.lsd.now) false (sym c.lengths_fit.ensures ∙ c.if-not-lengths_fit.true)

pub unwrap-block-requires : goal.unwrap-block-requires
unwrap-block-requires c = c.as_array.ensures.variant.1 (fit-lengths _ _ (sym c.lengths_fit.ensures ∙ c.if-not-lengths_fit.false)).0

pub sort_voice-requires : goal.sort_voice-requires
sort_voice-requires c =
    let a = c.args in
    let l = c.layout_of-p in
    record { apart = apart_by a.mode l.result l.ensures }

pub sort_lsd-requires : goal.sort_lsd-requires
sort_lsd-requires c =
    let a = c.args in
    let fit = fit-lengths _ _ (sym c.lengths_fit.ensures ∙ c.if-not-lengths_fit.false) in
    let l = c.layout_of-p in
    let apart = apart_by a.mode l.result l.ensures in
    record { apart = apart; out_len = omega (arith, ap (λ (n : Each ℕ). n.lsd) fit.1) }

pub returns : goal.returns
unfolding streams_of
returns c =
    let a = c.args in
    let l = c.layout_of-p in
    let yes : fitting (length a.line.now) (lengths (each a.voice.now a.lsd.now)) ≡ true =
    sym c.lengths_fit.ensures ∙ c.if-not-lengths_fit.false in
    let fit = fit-lengths _ _ yes in
    let whole = rw c.unwrap-block.ensures at c.as_array.ensures.cases in
    let said = told a.mode a.line.now (each a.voice.now a.lsd.now) true yes in (
      said.0,
      same_each
          (by-owner a.mode l.result Voice _ stream_octets.voice a.line.now _ l.ensures (ap (λ (n : Each ℕ). n.voice) fit.1) (rw whole.same at c.sort_voice.ensures))
          (by-owner a.mode l.result Lsd _ stream_octets.lsd a.line.now _ l.ensures (ap (λ (n : Each ℕ). n.lsd) fit.1) (rw whole.same at c.sort_lsd.ensures))
          ∙ said.1,
    )
