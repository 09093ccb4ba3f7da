-- The service bits of a block that was written are read back from its service channel.
use mathlib.Core.Path.{◌≡◌, refl, ap, ap₂, sym, ◌∙◌}
use mathlib.Core.Bool.{Bool, true}
use mathlib.Core.List.{List, [], ◌∷◌, ◌++◌}
use Prim.Native.Nat.{ℕ, zero, suc, ◌+◌, ◌-◌, ◌*◌, ◌%◌, ◌<◌}
use native.Mathlib.Nat.{add-zero, zero-add, suc_inj, suc-ne-zero}
use native.Mathlib.Omega.{arith}
use lib.Dec.{eqb}
use borrow.Author.Tests.{eqb-true}
use lib.ListN.{length, get_or, take, drop, length-append, length-drop, get_or-append}
use lib.Seq.{get_or-drop, get_or-take, get_or-append-add, length-take-le}
use Rattle.bits.specs.Bits.{odd, low_bits, sc_bit, digit, bits_of}
use Rattle.bits.proofs.BitLaws.{odd-above, odd-digit, sc_is}
use Rattle.bits.proofs.PackLaws.{length-octets}
use Rattle.bits.proofs.BoolLaws.{below}
use Rattle.bas.specs.Words.{word_bits, line_order}
use Rattle.bas.proofs.WordLaws.{length-line}
use Rattle.numbers.specs.Numbers.{even_frame, odd_frame}
use Rattle.modes.specs.declared.Mode.{Mode}
use Rattle.places.specs.Streams.{Streams, rest}
use Rattle.service.specs.Service.{service_rows}
use Rattle.buffers.specs.Buffers.{Buffers}
use Rattle.frame.specs.Block.{service_bits, sources, block_of}
use Rattle.halves.specs.Sources.{heard, by_owner}
use Rattle.service.specs.Channel.{channel_bits}
use Rattle.places.specs.Layout.{layout_of, channel_by, columns_by, rows_by, sc, Apart}
use Rattle.halves.specs.Frame.{frame_by}
use Rattle.places.specs.declared.Layout.{Layout}
use Rattle.frame.specs.declared.Header.{Header}
use Rattle.places.proofs.LayoutLaws.{apart_of, channel_service}
use Rattle.halves.proofs.OctetLaws.{octet-at, channel_next}
use Rattle.halves.proofs.WrittenLaws.{octet-done, two_frames, rest_frame}
use Rattle.frame.proofs.BlockLaws.{block_is}

-- ---- a row is eight bits, and a block has thirty-two service bits
row-length : (a e t : Bool) (r i : ℕ) → i < 16 → length (get_or (service_rows a e t r) i []) ≡ 8
unfolding low_bits
row-length a e t r i h =
    eqb-true (length (get_or (service_rows a e t r) i [])) 8 (below 16 (λ (k : ℕ). eqb (length (get_or (service_rows a e t r) k [])) 8) refl i h)

pub length_service : (h : Header) → length (service_bits h) ≡ 32
unfolding service_bits even_frame odd_frame
length_service h =
    let word = line_order (word_bits h.code) in
    let l : length word ≡ 16 = length-line (word_bits h.code) in
    let i = (h.block.0 - 1) % 8 * 2 in
    simp (length-append, row-length h.a h.e h.t h.remainder i (omega arith), row-length h.a h.e h.t h.remainder (i + 1) (omega arith), length-take-le 8 word (omega arith), length-drop) (omega arith)

-- ---- bits of the channel, one by one
channel_ext : (n at : ℕ) (line : List ℕ) (bs : List Bool) → length bs ≡ n
    → ((k : ℕ) → k < n → sc_bit (get_or line (at + k) 0) ≡ get_or bs k true) → channel_bits n at line ≡ bs
unfolding channel_bits
channel_ext zero at line [] h f = refl
channel_ext zero at line (b ∷ bs) h f = absurd (suc-ne-zero _ h)
channel_ext (suc n) at line [] h f = absurd (suc-ne-zero _ (sym h))
channel_ext (suc n) at line (b ∷ bs) h f =
    ap₂ ◌∷◌ (ap (λ (k : ℕ). sc_bit (get_or line k 0)) (sym (add-zero at)) ∙ f 0 (omega arith))
    (channel_ext n (at + 1) line bs (suc_inj h) (λ k l.
    let e : at + 1 + k ≡ at + suc k = omega arith in
    ap (λ (j : ℕ). sc_bit (get_or line j 0)) e ∙ f (suc k) (omega arith)))

-- the SC bit of octet o + 1 of a frame, among the first sixteen
frame_sc : (p : Layout) (bs vs ds : List Bool) (o : ℕ) → Apart p → o < 16 → sc_bit (get_or (frame_by p (by_owner bs vs ds)) o 0) ≡ get_or bs o true
unfolding frame_by
frame_sc p bs vs ds o h l =
    let s : Streams = by_owner bs vs ds in
    let b : Bool = get_or (rest (rows_by p o ++ columns_by p) s (channel_by p (o + 1))) 0 true in
    sc_is _ ∙ ap odd (octet-done p s 80 o h.within (omega arith) ∙ octet-at p o s refl h)
    ∙ odd-above _ (digit b) ∙ odd-digit b
    ∙ channel_next p o bs vs ds h
    ∙ rw (channel_service p (o + 1) (omega arith), get_or-drop o bs 0 true, add-zero o)

-- ---- both halves
module _ (m : Mode) (h : Header) (mute : Bool) (b : Buffers) where
  abbrev p : Layout
  p = layout_of m

  abbrev vs : List Bool
  vs = heard mute (bits_of b.voice)

  abbrev ds : List Bool
  ds = bits_of b.lsd

  abbrev even : List ℕ
  even = frame_by p (by_owner (service_bits h) vs ds)

  abbrev odds : List ℕ
  odds = frame_by p (by_owner (drop 16 (service_bits h)) (drop (80 * p.width) vs) (drop (80 * p.columns + sc p 80) ds))

  pub halves : block_of m h mute b ≡ even ++ odds
  halves =
      sym (block_is m h mute b) ∙ two_frames (layout_of m) (sources h mute b) (apart_of m).within
      ∙ ap (λ (s : Streams). frame_by (layout_of m) (sources h mute b) ++ frame_by (layout_of m) s)
      (rest_frame (layout_of m) (service_bits h) (heard mute (bits_of b.voice)) (bits_of b.lsd) (apart_of m))

  pub length-even : length even ≡ 80
  unfolding frame_by
  length-even = length-octets 80 _

  pub even-back : channel_bits 16 0 (block_of m h mute b) ≡ take 16 (service_bits h)
  even-back =
      channel_ext 16 0 (block_of m h mute b) (take 16 (service_bits h)) (length-take-le 16 (service_bits h) (omega (arith, length_service h)))
      (λ k l.
      ap (λ (b : List ℕ). sc_bit (get_or b (0 + k) 0)) halves
      ∙ ap (λ (j : ℕ). sc_bit (get_or (even ++ odds) j 0)) (zero-add k)
      ∙ ap sc_bit (get_or-append even odds 0 k (omega (arith, length-even)))
      ∙ frame_sc p (service_bits h) vs ds k (apart_of m) l
      ∙ sym (get_or-take 16 (service_bits h) k true l))

  pub odd-back : channel_bits 16 80 (block_of m h mute b) ≡ drop 16 (service_bits h)
  odd-back =
      channel_ext 16 80 (block_of m h mute b) (drop 16 (service_bits h)) (rw (length-drop, length_service h))
      (λ k l.
      ap (λ (b : List ℕ). sc_bit (get_or b (80 + k) 0)) halves
      ∙ ap (λ (n : ℕ). sc_bit (get_or (even ++ odds) (n + k) 0)) (sym length-even)
      ∙ ap sc_bit (get_or-append-add even odds k 0)
      ∙ frame_sc p (drop 16 (service_bits h)) (drop (80 * p.width) vs) (drop (80 * p.columns + sc p 80) ds) k (apart_of m) l)
