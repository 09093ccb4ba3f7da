-- How many places a block has, and of them voice and data: twice as many as the bits that each holds in a frame.
use mathlib.Core.Path.{◌≡◌, ap, sym, ◌∙◌}
use mathlib.Core.Bool.{false}
use mathlib.Core.List.{List, ◌++◌}
use Prim.Native.Nat.{ℕ, ◌+◌, ◌-◌, ◌*◌, ◌≤◌, ◌<◌, min}
use native.Mathlib.Nat.{mul_comm}
use native.Mathlib.Omega.{arith}
use lib.ListN.{length, length-append}
use Rattle.table.specs.Table.{audio_places, lsd_places}
use Rattle.modes.specs.Owners.{held_by, overlaps, bits_per_frame}
use Rattle.modes.specs.declared.Mode.{Mode}
use Rattle.modes.specs.declared.Owner.{Owner}
use Rattle.modes.specs.declared.Owner.TheVariants.{Voice, Lsd}
use Rattle.table.proofs.TableLaws.{audio-fit, lsd-fit, audio_shape, lsd_shape}
use Rattle.modes.proofs.OwnerLaws.{voice-ends_first, bits_per_frame_is}
use Rattle.places.specs.Streams.{count}
use Rattle.places.specs.Places.{places}
use Rattle.places.specs.Layout.{layout_of, rows_by}
use Rattle.places.proofs.StreamLaws.{count-append}
use Rattle.places.proofs.LayoutLaws.{rows_are, apart_of, count-voice, count-lsd, length-rows}

places_by : (m : Mode) → places m ≡ rows_by (layout_of m) 80
unfolding places
places_by m = rows_are m 80

pub length_both : (m : Mode) → length (places m ++ places m) ≡ 160 * 8
length_both m = rw (length-append, places_by m, length-rows (layout_of m) 80 (apart_of m).within)

count-both : (o : Owner) (m : Mode) → count o (places m ++ places m) ≡ 2 * count o (rows_by (layout_of m) 80)
count-both o m =
    count-append o (places m) (places m)
    ∙ ap (λ (ps : List Owner). count o ps + count o ps) (places_by m)
    ∙ omega arith

-- ---- by the four numbers
pub voice-places : (m : Mode) → count Voice (places m ++ places m) ≡ 160 * (layout_of m).width
voice-places m = count-both Voice m ∙ omega (arith, count-voice (layout_of m) 80)

pub lsd-places : (m : Mode) → count Lsd (places m ++ places m) ≤ 1248
lsd-places m =
    let a = apart_of m in
    omega (arith, count-both Lsd m, count-lsd (layout_of m) 80 a, a.within, a.after, a.until)

-- ---- by the table. 'Codes and bit places': of a buffer twice the bits per frame count, for voice 20w octets.
-- Voice has its places in every mode m, and data all of its own where m's streams do not overlap
pub voice_twice : (m : Mode) → count Voice (places m ++ places m) ≡ 2 * bits_per_frame (held_by m Voice)
unfolding layout_of held_by
voice_twice m =
    let shape = audio_shape m.audio in
    let held = bits_per_frame_is (audio_places m.audio) (audio-fit m.audio) in
    omega (arith, voice-places m, held, shape.0, shape.1, shape.2)

-- data's columns and SC octets, where voice's octet bits 1 to w end before data's begin
all_held : (w from first last : ℕ) → w < from → last ≤ 80
    → 80 * min (8 - from) (7 - w) + (min 80 last + 1 - first) ≡ (8 - from) * 80 + (last + 1 - first)
all_held w from first last h l =
    let c : min (8 - from) (7 - w) ≡ 8 - from = omega arith in
    let k : min 80 last ≡ last = omega arith in
    rw (c, k, mul_comm 80 (8 - from))

pub lsd_twice : (m : Mode) → overlaps m ≡ false → count Lsd (places m ++ places m) ≡ 2 * bits_per_frame (held_by m Lsd)
unfolding layout_of held_by
lsd_twice m apart =
    let d = lsd_places m.lsd in
    let fit = lsd-fit m.lsd in
    let frame = count-lsd (layout_of m) 80 (apart_of m) ∙ all_held _ d.from d.first.0 d.last.0 (voice-ends_first m apart) fit.closes in
    let held = bits_per_frame_is d fit ∙ ap (λ (n : ℕ). (n + 1 - d.from) * 80 + (d.last.0 + 1 - d.first.0)) (lsd_shape m.lsd).0 in
    count-both Lsd m ∙ ap (λ (n : ℕ). 2 * n) (frame ∙ sym held)
