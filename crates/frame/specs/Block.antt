-- Document 01, 'Codes and bit places' and 'Sending a block': what the places of a block carry.
use Rattle.std.specs.Prelude.{Bool, cond, List, [], ◌++◌, ℕ, length, get_or, take, drop}
use Rattle.bits.specs.Bits.{bits_of, octets}
use Rattle.bas.specs.Words.{word_bits, line_order}
use Rattle.numbers.specs.Numbers.{even_frame, odd_frame}
use Rattle.modes.specs.declared.Mode.{Mode}
use Rattle.service.specs.Service.{service_rows}
use Rattle.places.specs.Places.{places}
use Rattle.buffers.specs.Buffers.{Buffers, lengths}
use Rattle.buffers.specs.Lengths.{line_octets, fitting}
use Rattle.places.specs.Streams.{Streams, fill}
use Rattle.halves.specs.Sources.{heard, by_owner}
use Rattle.frame.specs.declared.Header.{Header}

-- service bits 1 to 8 of each frame are its row, 9 to 16 are the BAS word in line order
unfoldable pub service_bits : Header → List Bool
service_bits h =
    let rows = service_rows h.a h.e h.t h.remainder in
    let word = line_order (word_bits h.code) in
    get_or rows (even_frame h.block).0 [] ++ take 8 word ++ get_or rows (odd_frame h.block).0 [] ++ drop 8 word

-- what a block is filled from
abbrev pub sources : Header → Bool → Buffers → Streams
sources h mute b = by_owner (service_bits h) (heard mute (bits_of b.voice)) (bits_of b.lsd)

-- a block's octets: the streams go on from the even frame into the odd one
unfoldable pub block_of : Mode → Header → Bool → Buffers → List ℕ
block_of m h mute b = octets line_octets (fill (places m ++ places m) (sources h mute b))

-- what the line holds after a call: the block, or what it held where a length is wrong
unfoldable pub line_after : Mode → Header → Bool → Buffers → List ℕ → List ℕ
line_after m h mute b line = cond (fitting (length line) (lengths b)) (block_of m h mute b) line
