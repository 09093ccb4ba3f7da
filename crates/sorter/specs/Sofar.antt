-- What has been sorted out of a block so far. No public contract speaks of it.
use Rattle.std.specs.Prelude.{Bool, List, [], ◌++◌, ℕ, zero, suc, ◌+◌, ◌%◌}
use Rattle.bits.specs.Bits.{bits_of}
use Rattle.modes.specs.declared.Owner.{Owner}
use Rattle.places.specs.Streams.{sort}
use Rattle.places.specs.Layout.{row_by}
use Rattle.places.specs.declared.Layout.{Layout}

-- the places of a block's first n octets: the odd frame's are those of the even one
abbrev pub block_rows : Layout → ℕ → List Owner
block_rows p zero = []
block_rows p (suc n) = block_rows p n ++ row_by p (n % 80 + 1)

-- what has been sorted out of a block's first n octets
abbrev pub sofar : Layout → Owner → List ℕ → ℕ → List Bool
sofar p w line n = sort w (block_rows p n) (bits_of line)
