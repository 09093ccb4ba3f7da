-- Document 01, 'CRC-4'.
use Rattle.std.specs.Prelude.{Bool, true, false, cond, ◌&&◌, List, [], ◌∷◌, ℕ, ◌+◌, leb, ltb}
use Rattle.bits.specs.Bits.{low_bits, without_sc, bits_of, number}
use Rattle.bits.specs.Remainder.{continued, remainder}

-- X^4 + X + 1
abbrev pub crc4_generator : List Bool
crc4_generator = false ∷ false ∷ true ∷ true ∷ []

-- the remainder of octets in sending order, first bit highest; C1 is the highest bit of what it spells
unfoldable pub crc4_of : List ℕ → ℕ
crc4_of octets = number (remainder crc4_generator (bits_of octets))

-- a remainder, of which the low four bits count, continued over octets; only the contracts of inner functions speak of it
unfoldable pub crc4_from : ℕ → List ℕ → ℕ
crc4_from before octets = number (continued crc4_generator (low_bits 4 before) (bits_of octets))

-- C1 to C4 stand in the SC bit of `how_many_c` octets of a block from `first_c` on, counted from 0: octets 5 to 8 of the odd frame
abbrev pub first_c : ℕ
first_c = 80 + 4

abbrev pub how_many_c : ℕ
how_many_c = 4

-- whether the octet at this place of a block has one of them
abbrev pub carries_c : ℕ → Bool
carries_c at = leb first_c at && ltb at (first_c + how_many_c)

-- an octet at its place in a block, with C1 to C4 taken as 0
unfoldable pub summed : ℕ → ℕ → ℕ
summed at octet = cond (carries_c at) (without_sc octet) octet

-- octets from a place of a block on, as they are summed
unfoldable pub summed_from : ℕ → List ℕ → List ℕ
summed_from at [] = []
summed_from at (x ∷ xs) = summed at x ∷ summed_from (at + 1) xs

-- the remainder of a block
unfoldable pub block_crc_of : List ℕ → ℕ
block_crc_of block = crc4_of (summed_from 0 block)
