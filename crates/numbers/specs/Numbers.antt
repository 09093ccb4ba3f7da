-- Document 01, 'What the unit carries': frame number, block number and octet number are counted apart.
-- Eight blocks (1 to 8) are a multiframe, whose frames are 0 to 15; a frame's octets are 1 to 80.
use Rattle.std.specs.Prelude.{Bool, cond, ◌&&◌, ℕ, ◌+◌, ◌-◌, ◌*◌, ◌%◌, leb, ltb}
use Rattle.numbers.specs.declared.BlockNumber.{BlockNumber}
use Rattle.numbers.specs.declared.FrameNumber.{FrameNumber}
use Rattle.numbers.specs.declared.OctetNumber.{OctetNumber}

-- n is one of a to b
abbrev pub within : ℕ → ℕ → ℕ → Bool
within a b n = leb a n && leb n b

-- octet n of a frame
abbrev pub octet : ℕ → OctetNumber
octet n = record { 0 = n }

-- a block is two frames, even then odd: block 1 is frames 0 and 1, and block 8 is frames 14 and 15
unfoldable pub even_frame : BlockNumber → FrameNumber
even_frame block = record { 0 = (block.0 - 1) % 8 * 2 }

unfoldable pub odd_frame : BlockNumber → FrameNumber
odd_frame block = record { 0 = (block.0 - 1) % 8 * 2 + 1 }

-- block 8 is followed by block 1 of the next multiframe
unfoldable pub following : BlockNumber → BlockNumber
following block = record { 0 = cond (ltb block.0 8) (block.0 + 1) 1 }
