-- The round trip of a block: what is sorted out of a block is what the block was filled from.
use mathlib.Core.Path.{◌≡◌, refl, ap, sym, ◌∙◌}
use mathlib.Core.Bool.{Bool, true, false, cond}
use mathlib.Core.List.{List, [], ◌∷◌, ◌++◌}
use Prim.Native.Nat.{ℕ, zero, suc, ◌+◌, ◌-◌, ◌*◌, ◌≤◌, ◌<◌}
use native.Mathlib.Omega.{arith}
use lib.ListN.{length, get_or, take, replicate}
use lib.Seq.{length-take-le}
use Rattle.bits.proofs.PackLaws.{bits-octets, octets-zeros, take-bits_of, octets-bits, below-take}
use Rattle.bits.specs.Bits.{bits_of, octets, nexts}
use Rattle.bits.proofs.BitLaws.{length-bits_of}
use Rattle.modes.specs.declared.Mode.{Mode}
use Rattle.modes.specs.declared.Owner.{Owner}
use Rattle.modes.specs.declared.Owner.TheVariants.{Voice, Lsd}
use Rattle.places.specs.Streams.{Streams, count, fill, sort}
use Rattle.places.specs.Places.{places}
use Rattle.buffers.specs.Buffers.{Buffers}
use Rattle.buffers.specs.Lengths.{line_octets, stream_octets}
use Rattle.frame.specs.Block.{sources, block_of}
use Rattle.halves.specs.Sources.{heard}
use Rattle.places.specs.Layout.{layout_of}
use Rattle.frame.specs.declared.Header.{Header}
use Rattle.places.proofs.StreamLaws.{sorted, length-fill}
use Rattle.bits.proofs.NextLaws.{nexts-take}
use Rattle.places.proofs.LayoutLaws.{apart_of}
use Rattle.places.proofs.CountLaws.{length_both, voice-places, lsd-places}
use Rattle.sorter.specs.Sorting.{sorted_of}

abbrev voice_size : ℕ
voice_size = stream_octets.voice

abbrev lsd_size : ℕ
lsd_size = stream_octets.lsd

-- ---- the bits at an owner's places are the next bits of its stream, ones where it has none
pub round_trip : (o : Owner) (m : Mode) (h : Header) (mute : Bool) (b : Buffers)
    → sort o (places m ++ places m) (bits_of (block_of m h mute b)) ≡ nexts (count o (places m ++ places m)) (sources h mute b o)
unfolding block_of
round_trip o m h mute b =
    let ps : List Owner = places m ++ places m in
    let s : Streams = sources h mute b in
    let l : length (fill ps s) ≡ line_octets * 8 = length-fill ps s ∙ length_both m in
    ap (sort o ps) (bits-octets line_octets (fill ps s) l) ∙ sorted o ps s

-- what is handed out of a block
pub handed : (o : Owner) (n : ℕ) (m : Mode) (h : Header) (mute : Bool) (b : Buffers)
    → sorted_of m o n (block_of m h mute b) ≡ octets n (nexts (count o (places m ++ places m)) (sources h mute b o))
unfolding sorted_of
handed o n m h mute b = ap (octets n) (round_trip o m h mute b)

-- ---- voice comes back octet by octet, and zeros after it
pub voice-back : (m : Mode) (h : Header) (b : Buffers) → length b.voice ≡ voice_size → ((k : ℕ) → get_or b.voice k 0 < 256)
    → sorted_of m Voice voice_size (block_of m h false b)
    ≡ take (20 * (layout_of m).width) b.voice ++ replicate (voice_size - 20 * (layout_of m).width) 0
voice-back m h b hl hv =
    let k : ℕ = 20 * (layout_of m).width in
    let xs : List ℕ = take k b.voice in
    let within : k ≤ voice_size = omega (arith, (apart_of m).within) in
    let n : count Voice (places m ++ places m) ≡ 8 * k = voice-places m ∙ omega arith in
    let e : nexts (8 * k) (bits_of b.voice) ≡ bits_of xs = nexts-take (8 * k) (bits_of b.voice) (rw length-bits_of (omega arith)) ∙ take-bits_of k b.voice in
    let lx : length xs ≡ k = length-take-le k b.voice (omega arith) in
    let all : k + (voice_size - k) ≡ voice_size = omega arith in
    let short : length (bits_of xs) ≤ k * 8 = rw (length-bits_of, lx) (omega arith) in
    handed Voice voice_size m h false b
    ∙ ap (λ (j : ℕ). octets voice_size (nexts j (bits_of b.voice))) n
    ∙ ap (octets voice_size) e
    ∙ ap (λ (j : ℕ). octets j (bits_of xs)) (sym all)
    ∙ octets-zeros k (voice_size - k) (bits_of xs) short
    ∙ ap (λ (j : ℕ). octets j (bits_of xs) ++ replicate (voice_size - k) 0) (sym lx)
    ∙ ap (λ (l : List ℕ). l ++ replicate (voice_size - k) 0) (octets-bits xs (λ i. below-take k b.voice i hv))

-- ---- a muted voice comes back as ones
nexts_none : (n : ℕ) → nexts n [] ≡ replicate n true
unfolding nexts
nexts_none zero = refl
nexts_none (suc n) = ap (λ (l : List Bool). true ∷ l) (nexts_none n)

pub muted-back : (m : Mode) (h : Header) (b : Buffers)
    → sorted_of m Voice voice_size (block_of m h true b) ≡ octets voice_size (replicate (line_octets * (layout_of m).width) true)
muted-back m h b =
    handed Voice voice_size m h true b
    ∙ ap (λ (j : ℕ). octets voice_size (nexts j [])) (voice-places m)
    ∙ ap (octets voice_size) (nexts_none (line_octets * (layout_of m).width))

-- ---- voice bit by bit: the sender's, or ones where it is muted
pub voice-bits-back : (m : Mode) (h : Header) (mute : Bool) (b : Buffers) → length b.voice ≡ voice_size
    → (let n = count Voice (places m ++ places m) in
    sorted_of m Voice voice_size (block_of m h mute b) ≡ octets voice_size (cond mute (replicate n true) (take n (bits_of b.voice))))
voice-bits-back m h mute b hl = handed Voice voice_size m h mute b ∙ ap (octets voice_size) (by_mute mute)
  where
    n : ℕ
    n = count Voice (places m ++ places m)

    by_mute : (t : Bool) → nexts n (heard t (bits_of b.voice)) ≡ cond t (replicate n true) (take n (bits_of b.voice))
    by_mute true = nexts_none n
    by_mute false = nexts-take n (bits_of b.voice) (rw length-bits_of (omega (arith, voice-places m, (apart_of m).within)))

-- ---- data comes back bit by bit: it can end within an octet
pub lsd-back : (m : Mode) (h : Header) (mute : Bool) (b : Buffers) → length b.lsd ≡ lsd_size
    → sorted_of m Lsd lsd_size (block_of m h mute b) ≡ octets lsd_size (take (count Lsd (places m ++ places m)) (bits_of b.lsd))
lsd-back m h mute b hl =
    let n : ℕ = count Lsd (places m ++ places m) in
    let enough : n ≤ length (bits_of b.lsd) = rw length-bits_of (omega (arith, lsd-places m)) in
    handed Lsd lsd_size m h mute b ∙ ap (octets lsd_size) (nexts-take n (bits_of b.lsd) enough)
