-- The remainder of a block that was written does not depend on the one that it carries: the bits that the CRC-4 takes as 0 are those that the
-- service rows say C1 to C4 in, and that they are read from.
use mathlib.Core.Path.{◌≡◌, refl, ap, ap₂, sym, ◌∙◌}
use mathlib.Core.Bool.{Bool, true, false}
use mathlib.Core.List.{List, [], ◌++◌}
use Prim.Native.Nat.{ℕ, zero, suc, ◌+◌, ◌-◌, ◌*◌, ◌/◌, ◌%◌, ◌^◌, ◌<◌}
use native.Mathlib.Nat.{add-zero}
use native.Mathlib.Omega.{arith}
use lib.Dec.{ltb}
use borrow.Author.Tests.{ltb-true, ltb-false}
use lib.ListN.{length, get_or, drop, length-append, get_or-append}
use lib.Seq.{get_or-drop, get_or-take, get_or-append-add}
use Rattle.bits.specs.Bits.{low_bits, number, digit, bits_of, nexts}
use Rattle.crc.specs.Crc.{summed, block_crc_of}
use Rattle.crc.proofs.CrcLaws.{crc-agree}
use Rattle.bits.proofs.BitLaws.{same_without}
use Rattle.bits.proofs.PackLaws.{length-octets}
use Rattle.bas.specs.Words.{word_bits, line_order}
use Rattle.modes.specs.declared.Mode.{Mode}
use Rattle.places.specs.Streams.{Streams}
use Rattle.places.specs.Layout.{layout_of, channel_by, sc, Apart}
use Rattle.places.specs.declared.Layout.{Layout}
use Rattle.places.proofs.LayoutLaws.{apart_of, channel_service}
use Rattle.service.specs.Service.{odd_row}
use Rattle.service.specs.Channel.{c_bits}
use Rattle.buffers.specs.Buffers.{Buffers}
use Rattle.frame.specs.Block.{service_bits, block_of}
use Rattle.halves.specs.Sources.{heard, by_owner}
use Rattle.halves.specs.Frame.{frame_by}
use Rattle.frame.specs.declared.Header.{Header}
use Rattle.halves.proofs.OctetLaws.{octet-at, channel_next, channel_unserved}
use Rattle.halves.proofs.WrittenLaws.{octet-done}
use Rattle.round.proofs.BackLaws.{halves, length-even}
use Rattle.round.proofs.HeaderLaws.{odd_bit, even_service, odd_service, remainder-back}

-- ---- octet k + 1 of a frame, by the service bits that the frame is filled from
module _ (p : Layout) (h : Apart p) (vs ds : List Bool) where
  abbrev octet_of : List Bool → ℕ → ℕ
  octet_of bs k = get_or (frame_by p (by_owner bs vs ds)) k 0

  -- its SC bit, and the number of the bits above
  sc_sent : List Bool → ℕ → Bool
  sc_sent bs k = get_or (by_owner (drop k bs) [] (drop (k * p.columns + sc p k + p.columns) ds) (channel_by p (k + 1))) 0 true

  above : ℕ → ℕ
  above k =
      let ones = 2 ^ (7 - (p.width + p.columns)) in
      (number (nexts p.width (drop (k * p.width) vs)) * ones + (ones - 1)) * 2 ^ p.columns
      + number (nexts p.columns (drop (k * p.columns + sc p k) ds))

  octet_is : (bs : List Bool) (k : ℕ) → k < 80 → octet_of bs k ≡ above k * 2 + digit (sc_sent bs k)
  unfolding frame_by above sc_sent
  octet_is bs k l =
      let s : Streams = by_owner bs vs ds in
      octet-done p s 80 k h.within l ∙ octet-at p k s refl h ∙ ap (λ (b : Bool). above k * 2 + digit b) (channel_next p k bs vs ds h)

  -- the service bits count no further than to the sixteenth
  same_bit : (bs cs : List Bool) (k : ℕ) → (k < 16 → get_or bs k true ≡ get_or cs k true) → sc_sent bs k ≡ sc_sent cs k
  unfolding sc_sent
  same_bit bs cs k e = go (ltb k 16) refl
    where
      go : (t : Bool) → ltb k 16 ≡ t → sc_sent bs k ≡ sc_sent cs k
      go true i =
          let l = ltb-true k 16 i in
          rw (channel_service p (k + 1) (omega arith), get_or-drop k bs 0 true, get_or-drop k cs 0 true, add-zero k) (e l)
      go false i =
          let l = ltb-false k 16 i in
          channel_unserved p k (drop k cs) (drop k bs) (drop (k * p.columns + sc p k + p.columns) ds) l

  same_octet : (bs cs : List Bool) (k : ℕ) → k < 80 → (k < 16 → get_or bs k true ≡ get_or cs k true) → octet_of bs k ≡ octet_of cs k
  same_octet bs cs k l e = octet_is bs k l ∙ ap (λ (b : Bool). above k * 2 + digit b) (same_bit bs cs k e) ∙ sym (octet_is cs k l)

  half : (x : ℕ) (b : Bool) → (x * 2 + digit b) / 2 ≡ x
  half x true = omega arith
  half x false = omega arith

  same_above : (bs cs : List Bool) (k : ℕ) → k < 80 → octet_of bs k / 2 ≡ octet_of cs k / 2
  same_above bs cs k l =
      let whole : (xs : List Bool) → octet_of xs k / 2 ≡ above k = λ xs. ap (λ (n : ℕ). n / 2) (octet_is xs k l) ∙ half (above k) (sc_sent xs k) in
      whole bs ∙ sym (whole cs)

  -- an odd frame as it is summed, with one remainder and with another: the octets that differ carry C1 to C4
  module _ (a e first : Bool) (word : List Bool) (r other : ℕ) where
    abbrev bs : List Bool
    bs = odd_row a e r first ++ word

    abbrev cs : List Bool
    cs = odd_row a e other first ++ word

    same_odd : (k : ℕ) → k < 80 → summed (80 + k) (octet_of bs k) ≡ summed (80 + k) (octet_of cs k)
    unfolding summed low_bits
    same_odd zero l = same_octet bs cs 0 l (λ i. refl)
    same_odd (suc zero) l = same_octet bs cs 1 l (λ i. refl)
    same_odd (suc (suc zero)) l = same_octet bs cs 2 l (λ i. refl)
    same_odd (suc (suc (suc zero))) l = same_octet bs cs 3 l (λ i. refl)
    same_odd (suc (suc (suc (suc zero)))) l = same_without _ _ (same_above bs cs 4 l)
    same_odd (suc (suc (suc (suc (suc zero))))) l = same_without _ _ (same_above bs cs 5 l)
    same_odd (suc (suc (suc (suc (suc (suc zero)))))) l = same_without _ _ (same_above bs cs 6 l)
    same_odd (suc (suc (suc (suc (suc (suc (suc zero))))))) l = same_without _ _ (same_above bs cs 7 l)
    same_odd (suc (suc (suc (suc (suc (suc (suc (suc k)))))))) l =
        let at = suc (suc (suc (suc (suc (suc (suc (suc k))))))) in
        ap (summed (80 + at)) (same_octet bs cs at l (λ i. refl))

-- ---- of a block, with the remainder that its header h says and with another, r
abbrev pub carrying : ℕ → Header → Header
carrying r h = record { a = h.a; e = h.e; t = h.t; block = h.block; remainder = r; code = h.code }

module _ (m : Mode) (h : Header) (r : ℕ) (mute : Bool) (b : Buffers) where
  abbrev p : Layout
  p = layout_of m

  -- the other header
  abbrev g : Header
  g = carrying r h

  -- what is left of voice and of data for the odd frame
  abbrev odd_voice : List Bool
  odd_voice = drop (80 * p.width) (heard mute (bits_of b.voice))

  abbrev odd_lsd : List Bool
  odd_lsd = drop (80 * p.columns + sc p 80) (bits_of b.lsd)

  -- the two halves of the block whose header is x
  abbrev even_half : Header → List ℕ
  even_half x = frame_by p (by_owner (service_bits x) (heard mute (bits_of b.voice)) (bits_of b.lsd))

  abbrev odd_half : Header → List ℕ
  odd_half x = frame_by p (by_owner (drop 16 (service_bits x)) odd_voice odd_lsd)

  length-odd : (x : Header) → length (odd_half x) ≡ 80
  unfolding frame_by
  length-odd x = length-octets 80 _

  even_same : (k : ℕ) → k < 80 → get_or (even_half h) k 0 ≡ get_or (even_half g) k 0
  even_same k l =
      same_octet p (apart_of m) (heard mute (bits_of b.voice)) (bits_of b.lsd) (service_bits h) (service_bits g) k l (λ i.
      sym (get_or-take 16 (service_bits h) k true i)
      ∙ ap (λ (bs : List Bool). get_or bs k true) (even_service m h mute b ∙ sym (even_service m g mute b))
      ∙ get_or-take 16 (service_bits g) k true i)

  odd_same : (k : ℕ) → k < 80 → summed (80 + k) (get_or (odd_half h) k 0) ≡ summed (80 + k) (get_or (odd_half g) k 0)
  odd_same k l =
      let shown : List Bool → ℕ = λ (bs : List Bool). summed (80 + k) (get_or (frame_by p (by_owner bs odd_voice odd_lsd)) k 0) in
      let word = drop 8 (line_order (word_bits h.code)) in
      ap shown (odd_service m h mute b)
      ∙ same_odd p (apart_of m) odd_voice odd_lsd h.a h.e (odd_bit ((h.block.0 - 1) % 8)) word h.remainder r k l
      ∙ sym (ap shown (odd_service m g mute b))

  -- octet k + 1 of the odd frame, in the block
  odd_at : (x : Header) (k : ℕ) → get_or (even_half x ++ odd_half x) (80 + k) 0 ≡ get_or (odd_half x) k 0
  odd_at x k =
      ap (λ (n : ℕ). get_or (even_half x ++ odd_half x) (n + k) 0) (sym (length-even m x mute b))
      ∙ get_or-append-add (even_half x) (odd_half x) k 0

  same_length : length (even_half h ++ odd_half h) ≡ length (even_half g ++ odd_half g)
  same_length =
      length-append (even_half h) (odd_half h)
      ∙ ap₂ ◌+◌ (length-even m h mute b ∙ sym (length-even m g mute b)) (length-odd h ∙ sym (length-odd g))
      ∙ sym (length-append (even_half g) (odd_half g))

  each : (i : ℕ) → i < length (even_half h ++ odd_half h)
      → summed i (get_or (even_half h ++ odd_half h) i 0) ≡ summed i (get_or (even_half g ++ odd_half g) i 0)
  each i inside = go (ltb i 80) refl
    where
      go : (t : Bool) → ltb i 80 ≡ t → summed i (get_or (even_half h ++ odd_half h) i 0) ≡ summed i (get_or (even_half g ++ odd_half g) i 0)
      go true e =
          let l = ltb-true i 80 e in
          ap (summed i)
          (get_or-append (even_half h) (odd_half h) 0 i (rw (length-even m h mute b) l)
          ∙ even_same i l
          ∙ sym (get_or-append (even_half g) (odd_half g) 0 i (rw (length-even m g mute b) l)))
      go false e =
          let past = ltb-false i 80 e in
          let k = i - 80 in
          let whole : 80 + k ≡ i = omega arith in
          let short : k < 80 =
          omega (arith, length-append (even_half h) (odd_half h), length-even m h mute b, length-odd h) in
          rw (← whole) (ap (summed (80 + k)) (odd_at h k) ∙ odd_same k short ∙ sym (ap (summed (80 + k)) (odd_at g k)))

  -- 'CRC-4', C1 to C4 taken as 0: whatever remainder r they carry, the block has one remainder of its own
  pub crc-without-c : block_crc_of (block_of m h mute b) ≡ block_crc_of (block_of m g mute b)
  crc-without-c =
      ap block_crc_of (halves m h mute b)
      ∙ crc-agree (even_half h ++ odd_half h) (even_half g ++ odd_half g) same_length each
      ∙ sym (ap block_crc_of (halves m g mute b))

  -- so what the CRC-4 takes as 0, what the rows carry and what the reader reads are one: a block that carries r is read as carrying r, and has
  -- the remainder that it has with any other
  pub c-joined : r < 16 → (c_bits (block_of m g mute b) ≡ r) × (block_crc_of (block_of m g mute b) ≡ block_crc_of (block_of m h mute b))
  c-joined small = (remainder-back m g mute b small, sym crc-without-c)
