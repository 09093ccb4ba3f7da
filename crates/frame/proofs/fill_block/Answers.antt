-- `frame::fill_block` meets its contract: the law of two frames, at what the two calls leave in the two halves.
use mathlib.Core.Path.{◌≡◌, sym, ap, ap₂, ◌∙◌}
use mathlib.Core.List.{◌++◌}
use Prim.Native.Nat.{ℕ, ◌+◌, ◌-◌, ◌*◌}
use native.Mathlib.Omega.{arith}
use lib.ListN.{drop}
use Rattle.bits.specs.Bits.{low_bits, bits_of}
use Rattle.bits.proofs.BitLaws.{length-low_bits}
use Rattle.halves.specs.Sources.{heard, by_owner}
use Rattle.halves.specs.Frame.{frame_by}
use Rattle.places.specs.Layout.{sc}
use Rattle.places.proofs.LayoutLaws.{eights_through}
use Rattle.halves.proofs.WrittenLaws.{two_frames, even-half, odd-half}
use Rattle.frame.proofs.fill_block.Goals as goal

pub write_frame-requires-2 : goal.write_frame-requires-2
write_frame-requires-2 c =
    let p = c.args.p in
    let ready = c.requires.ready in
    record {
      apart = ready.apart;
      spoken = ready.spoken;
      given = ready.given;
      from = omega (arith, ready.apart.within);
      whole = omega arith;
      on = omega (arith, ready.apart.within, ready.apart.after, ready.apart.until);
      begun = λ e. omega (arith, eights_through p ready.apart e, ready.apart.until);
    }

pub returns : goal.returns
returns c =
    let a = c.args in
    let es = low_bits 16 a.service.even in
    let os = low_bits 16 a.service.odd in
    let vs = heard a.mute (bits_of a.voice.now) in
    let ds = bits_of a.lsd.now in
    let sc_is : a.p.last + 1 - a.p.first ≡ sc a.p 80 = omega (arith, c.requires.ready.apart.until) in
    ap₂ ◌++◌ (c.write_frame.ensures ∙ sym (even-half a.p es os vs ds (length-low_bits 16 a.service.even)))
    (c.write_frame-2.ensures
    ∙ ap (λ (k : ℕ). frame_by a.p (by_owner os (drop (80 * a.p.width) vs) (drop (80 * a.p.columns + k) ds))) sc_is
    ∙ ap (frame_by a.p) (sym (odd-half a.p es os vs ds c.requires.ready.apart (length-low_bits 16 a.service.even))))
    ∙ sym (two_frames a.p (by_owner (es ++ os) vs ds) (omega arith))
