-- What a block that was written shows in its service channel is what its header says: a right alignment word, the odd frame's first bit,
-- the remainder and the code.
use mathlib.Core.Path.{◌≡◌, refl, ap, ap₂, sym, ◌∙◌}
use mathlib.Core.Bool.{Bool, true, false, xor}
use mathlib.Core.List.{List, [], ◌∷◌, ◌++◌, append_assoc}
use Prim.Native.Nat.{ℕ, zero, suc, ◌+◌, ◌-◌, ◌*◌, ◌%◌, ◌<◌, ◌≤◌}
use native.Mathlib.Nat.{add-zero}
use native.Mathlib.Omega.{arith}
use lib.ListN.{length, get_or, take, drop, length-append, length-drop, take-append-drop}
use lib.Seq.{take_at, drop_at, take_all, length-take-le}
use Rattle.bits.specs.Bits.{sc_bit, low_bits, number, xors}
use Rattle.bits.proofs.BitLaws.{number_fits}
use Rattle.bas.specs.Words.{word_bits, word_of, line_order}
use Rattle.bas.specs.Reading.{weight, reading_of}
use Rattle.std.specs.Prelude.{Some}
use Rattle.bas.proofs.WordLaws.{length-line, line-back}
use Rattle.bas.proofs.ReadingLaws.{word_back}
use Rattle.numbers.specs.Numbers.{even_frame, odd_frame}
use Rattle.modes.specs.declared.Mode.{Mode}
use Rattle.service.specs.Service.{even_alignment, first_bits, even_row, odd_row, service_rows}
use Rattle.buffers.specs.Buffers.{Buffers}
use Rattle.frame.specs.Block.{service_bits, block_of}
use Rattle.service.specs.Channel.{channel_bits, alignment_bits, wrong_bits, odd_first, c_bits, bas_word}
use Rattle.frame.specs.declared.Header.{Header}
use Rattle.round.proofs.BackLaws.{even-back, odd-back}
use Rattle.frame.proofs.BlockLaws.{word-bits}

-- ---- a part of the channel is a part of its bits
channel_front : (n m at : ℕ) (line : List ℕ) → n ≤ m → channel_bits n at line ≡ take n (channel_bits m at line)
unfolding channel_bits
channel_front zero m at line h = refl
channel_front (suc n) zero at line h = absurd (omega arith)
channel_front (suc n) (suc m) at line h = ap (λ (l : List Bool). sc_bit (get_or line at 0) ∷ l) (channel_front n m (at + 1) line (omega arith))

channel_part : (k n m at : ℕ) (line : List ℕ) → k + n ≤ m → channel_bits n (at + k) line ≡ take n (drop k (channel_bits m at line))
unfolding channel_bits
channel_part zero n m at line h = ap (λ (i : ℕ). channel_bits n i line) (add-zero at) ∙ channel_front n m at line (omega arith)
channel_part (suc k) n zero at line h = absurd (omega arith)
channel_part (suc k) n (suc m) at line h =
    let e : at + suc k ≡ at + 1 + k = omega arith in
    ap (λ (i : ℕ). channel_bits n i line) e ∙ channel_part k n m (at + 1) line (omega arith)

-- ---- the rows of the eight blocks of a multiframe
pub each8 : (P : ℕ → Type 0) → P 0 → P 1 → P 2 → P 3 → P 4 → P 5 → P 6 → P 7 → (k : ℕ) → k < 8 → P k
each8 P a b c d e f g h zero l = a
each8 P a b c d e f g h (suc zero) l = b
each8 P a b c d e f g h (suc (suc zero)) l = c
each8 P a b c d e f g h (suc (suc (suc zero))) l = d
each8 P a b c d e f g h (suc (suc (suc (suc zero)))) l = e
each8 P a b c d e f g h (suc (suc (suc (suc (suc zero))))) l = f
each8 P a b c d e f g h (suc (suc (suc (suc (suc (suc zero)))))) l = g
each8 P a b c d e f g h (suc (suc (suc (suc (suc (suc (suc zero))))))) l = h
each8 P a b c d e f g h (suc (suc (suc (suc (suc (suc (suc (suc k)))))))) l = absurd (omega arith)

-- the first bit of the odd frame of block k + 1; T is in an even frame
abbrev pub odd_bit : ℕ → Bool
odd_bit k = get_or (first_bits false) (k * 2 + 1) false

even-row : (a e t : Bool) (r k : ℕ) → k < 8 → get_or (service_rows a e t r) (k * 2) [] ≡ even_row (get_or (first_bits t) (k * 2) false)
even-row a e t r =
    each8 (λ (k : ℕ). get_or (service_rows a e t r) (k * 2) [] ≡ even_row (get_or (first_bits t) (k * 2) false)) refl refl refl refl refl refl refl refl

odd-row : (a e t : Bool) (r k : ℕ) → k < 8 → get_or (service_rows a e t r) (k * 2 + 1) [] ≡ odd_row a e r (odd_bit k)
odd-row a e t r =
    each8 (λ (k : ℕ). get_or (service_rows a e t r) (k * 2 + 1) [] ≡ odd_row a e r (odd_bit k)) refl refl refl refl refl refl refl refl

-- ---- the channel of a block
module _ (m : Mode) (h : Header) (mute : Bool) (b : Buffers) where
  abbrev line : List ℕ
  line = block_of m h mute b

  abbrev at : ℕ
  at = (h.block.0 - 1) % 8

  abbrev word : List Bool
  word = line_order (word_bits h.code)

  abbrev even : List Bool
  even = even_row (get_or (first_bits h.t) (at * 2) false)

  abbrev odds : List Bool
  odds = odd_row h.a h.e h.remainder (odd_bit at)

  service-rows : service_bits h ≡ (even ++ take 8 word) ++ (odds ++ drop 8 word)
  unfolding service_bits even_frame odd_frame
  service-rows =
      let low : at < 8 = omega arith in
      ap₂ (λ (x y : List Bool). x ++ take 8 word ++ y ++ drop 8 word)
      (even-row h.a h.e h.t h.remainder at low) (odd-row h.a h.e h.t h.remainder at low)
      ∙ append_assoc (even ++ take 8 word) odds (drop 8 word)

  front_length : length (even ++ take 8 word) ≡ 16
  front_length = rw (length-append, length-take-le 8 word (omega (arith, length-line (word_bits h.code))))

  -- the service bits of each frame
  pub even_service : take 16 (service_bits h) ≡ even ++ take 8 word
  even_service = ap (take 16) service-rows ∙ take_at (even ++ take 8 word) (odds ++ drop 8 word) 16 front_length

  pub odd_service : drop 16 (service_bits h) ≡ odds ++ drop 8 word
  odd_service = ap (drop 16) service-rows ∙ drop_at (even ++ take 8 word) (odds ++ drop 8 word) 16 front_length

  even-bits : channel_bits 16 0 line ≡ even ++ take 8 word
  even-bits = even-back m h mute b ∙ even_service

  odd-bits : channel_bits 16 80 line ≡ odds ++ drop 8 word
  odd-bits = odd-back m h mute b ∙ odd_service

  pub alignment_back : alignment_bits line ≡ even_alignment ++ (true ∷ [])
  unfolding alignment_bits low_bits
  alignment_back =
      ap₂ ◌++◌
      (channel_part 1 7 16 0 line (omega arith) ∙ ap (λ (l : List Bool). take 7 (drop 1 l)) even-bits)
      (channel_part 1 1 16 80 line (omega arith) ∙ ap (λ (l : List Bool). take 1 (drop 1 l)) odd-bits)

  pub right_alignment : wrong_bits line ≡ 0
  unfolding wrong_bits xors xor weight
  right_alignment = ap (λ (l : List Bool). weight (xors l (even_alignment ++ (true ∷ [])))) alignment_back

  pub first_bit_back : odd_first line ≡ odd_bit at
  unfolding odd_first channel_bits
  first_bit_back = ap (λ (l : List Bool). get_or l 0 false) odd-bits

  pub remainder-back : h.remainder < 16 → c_bits line ≡ h.remainder
  unfolding c_bits low_bits
  remainder-back l =
      ap number (channel_part 4 4 16 80 line (omega arith) ∙ ap (λ (b : List Bool). take 4 (drop 4 b)) odd-bits) ∙ number_fits 4 h.remainder l

  word_line : bas_word line ≡ word_of h.code
  unfolding bas_word low_bits word_of
  word_line =
      let whole = length-line (word_bits h.code) in
      ap₂ (λ (x y : List Bool). number (line_order (x ++ y)))
      (channel_part 8 8 16 0 line (omega arith) ∙ ap (λ (b : List Bool). take 8 (drop 8 b)) even-bits ∙ take_all 8 (take 8 word) (omega (arith, length-take-le 8 word (omega (arith, whole)))))
      (channel_part 8 8 16 80 line (omega arith) ∙ ap (λ (b : List Bool). take 8 (drop 8 b)) odd-bits ∙ take_all 8 (drop 8 word) (omega (arith, length-drop 8 word, whole)))
      ∙ ap (λ (l : List Bool). number (line_order l)) (take-append-drop 8 word)
      ∙ ap (λ (l : List Bool). number (line_order (line_order l))) (sym (word-bits h.code))
      ∙ ap number (line-back (word_of h.code) ∙ word-bits h.code)

  pub code-back : h.code < 256 → reading_of (bas_word line) ≡ Some h.code
  code-back l = ap reading_of word_line ∙ word_back h.code l
