-- Document 01, 'Figures to check against': the starred figures, as one table.
use Rattle.std.specs.Prelude.{◌≡◌, false, List, [], ◌∷◌, ◌++◌, map, ℕ, replicate, take, drop}
use Rattle.bits.specs.Bits.{number}
use Rattle.crc.specs.Crc.{block_crc_of}
use Rattle.bas.specs.Words.{check_of, word_bits, line_order}
use Rattle.modes.specs.Modes.{audio_off, mode}
use Rattle.codes.specs.Codes.{written, audio_attribute}
use Rattle.control.specs.Refusals.{number_in}
use Rattle.sending.specs.Step.{outcome_of}
use Rattle.sender.specs.declared.Sender.{Sender}
use Rattle.control.specs.declared.Call.{Call}
use Rattle.buffers.specs.Buffers.{each}
use Rattle.buffers.specs.Lengths.{line_octets, stream_octets}

-- what the definitions give, and what document 01 says
pub record Figure : Type 0 where
  pub computed : ℕ
  pub said : ℕ

infix 4 ◌is◌
abbrev ◌is◌ : ℕ → ℕ → Figure
computed is said = record { computed = computed; said = said }

-- the bits of a code's word that the even frame carries, and those that the odd frame does
abbrev even_sent : ℕ → ℕ
even_sent code = number (take 8 (line_order (word_bits code)))

abbrev odd_sent : ℕ → ℕ
odd_sent code = number (drop 8 (line_order (word_bits code)))

-- octets that are 0
abbrev nulls : ℕ → List ℕ
nulls n = replicate n 0

-- data [5] is in force, audio is off, and no item is due; it is in range, or the numbers below would be 1
abbrev with_data5 : Sender
with_data5 = record { chosen = audio_off; mode = mode audio_off 5; block = record { 0 = 1 }; due = 0; remainder = 0 }

-- this audio value is offered, with mute, A, E and T 0
abbrev offering : ℕ → Call
offering audio = record { mute = false; code = written audio_attribute audio; a = false; e = false; t = false }

-- the refusal number of that call, 0 where it is accepted
abbrev refusal : ℕ → ℕ
refusal audio = number_in (outcome_of with_data5 (offering audio) (each (nulls stream_octets.voice) (nulls stream_octets.lsd)) (nulls line_octets)).answer

unfoldable pub figures : List Figure
figures =
    -- check octets
    (check_of 0x00 is 0x00) ∷ (check_of 0x01 is 0xD7) ∷ (check_of 0x80 is 0x9E) ∷ (check_of 0x12 is 0x1F)
    ∷ (check_of 0x1F is 0x09) ∷ (check_of 0xF0 is 0x7B) ∷ (check_of 0x65 is 0xA6)
    -- 1F is sent
    ∷ (even_sent 0x1F is 0b01001111) ∷ (odd_sent 0x1F is 0b00010001)
    -- CRC of a block all 0; only its last bit 1; last but one; first
    ∷ (block_crc_of (nulls 160) is 0b0000)
    ∷ (block_crc_of (nulls 159 ++ 0b00000001 ∷ []) is 0b0011)
    ∷ (block_crc_of (nulls 159 ++ 0b00000010 ∷ []) is 0b0110)
    ∷ (block_crc_of (0b10000000 ∷ nulls 159) is 0b0101)
    -- audio of w=6 with data [5] accepted; audio of w=7 with [5] refused 8
    ∷ (refusal 20 is 0) ∷ (refusal 21 is 0) ∷ (refusal 25 is 0)
    ∷ (refusal 18 is 8) ∷ (refusal 19 is 8) ∷ (refusal 24 is 8)
    ∷ []

-- every figure comes out as it is said
abbrev pub AllAsSaid : Type 0
AllAsSaid = map (λ (f : Figure). f.computed) figures ≡ map (λ (f : Figure). f.said) figures
