-- Document 01, 'Codes and bit places' and 'Reading a block': what is sorted out of a block for voice and data.
use Rattle.std.specs.Prelude.{cond, List, ◌++◌, ℕ, length}
use Rattle.bits.specs.Bits.{bits_of, octets}
use Rattle.modes.specs.declared.Mode.{Mode}
use Rattle.modes.specs.declared.Owner.{Owner}
use Rattle.modes.specs.declared.Owner.TheVariants.{Voice, Lsd}
use Rattle.places.specs.Streams.{sort}
use Rattle.places.specs.Places.{places}
use Rattle.buffers.specs.Buffers.{Buffers, each, lengths}
use Rattle.buffers.specs.Lengths.{stream_octets, fitting}

-- an owner's bits out of a block, packed into n octets; past their end the octets are zero to the bit
unfoldable pub sorted_of : Mode → Owner → ℕ → List ℕ → List ℕ
sorted_of m o n line = octets n (sort o (places m ++ places m) (bits_of line))

-- each stream's bits, into a buffer of its length
unfoldable pub streams_of : Mode → List ℕ → Buffers
streams_of m line = each (sorted_of m Voice stream_octets.voice line) (sorted_of m Lsd stream_octets.lsd line)

-- what the lent buffers hold after a call: what was sorted out, or what they held where a length is wrong
unfoldable pub buffers_after : Mode → List ℕ → Buffers → Buffers
buffers_after m line b = cond (fitting (length line) (lengths b)) (streams_of m line) b
