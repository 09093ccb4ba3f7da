-- Document 01, 'Service bits 1 to 8 of each frame', 'CRC-4' and 'Reading a block': the service channel of a block that came.
use Rattle.std.specs.Prelude.{Bool, true, List, [], ◌∷◌, ◌++◌, ℕ, zero, suc, ◌+◌, get_or}
use Rattle.bits.specs.Bits.{sc_bit, number, xors}
use Rattle.crc.specs.Crc.{first_c, how_many_c}
use Rattle.bas.specs.Words.{line_order}
use Rattle.bas.specs.Reading.{weight}
use Rattle.service.specs.Service.{even_alignment}

-- the SC bits of n octets from the one at this place on, counted from 0; 0 past the end
unfoldable pub channel_bits : ℕ → ℕ → List ℕ → List Bool
channel_bits zero at line = []
channel_bits (suc n) at line = sc_bit (get_or line at 0) ∷ channel_bits n (at + 1) line

-- the alignment word: SC bits 2 to 8 of the even frame and SC bit 2 of the odd one
unfoldable pub alignment_bits : List ℕ → List Bool
alignment_bits line = channel_bits 7 1 line ++ channel_bits 1 (80 + 1) line

-- how many of the eight are wrong
unfoldable pub wrong_bits : List ℕ → ℕ
wrong_bits line = weight (xors (alignment_bits line) (even_alignment ++ (true ∷ [])))

-- the odd frame's first bit
unfoldable pub odd_first : List ℕ → Bool
odd_first line = sc_bit (get_or line 80 0)

-- C1 to C4, C1 highest
unfoldable pub c_bits : List ℕ → ℕ
c_bits line = number (channel_bits how_many_c first_c line)

-- the BAS word back in its natural order, as a number
unfoldable pub bas_word : List ℕ → ℕ
bas_word line = number (line_order (channel_bits 8 8 line ++ channel_bits 8 (80 + 8) line))
