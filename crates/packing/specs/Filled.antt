-- Runs of bits in octets, and a buffer that holds bits. No public contract above this crate speaks of them.
use Rattle.std.specs.Prelude.{◌≡◌, Bool, List, [], ◌++◌, ℕ, zero, suc, ◌+◌, length, get_or, take, drop}
use Rattle.bits.specs.Bits.{octet_bits, octets}

-- n bits after the first s of each of k octets from octet o on, one run after the other
unfoldable pub runs : ℕ → ℕ → List ℕ → ℕ → ℕ → List Bool
runs s n line o zero = []
runs s n line o (suc k) = runs s n line o k ++ take n (drop s (octet_bits (get_or line (o + k) 0)))

-- a buffer holds the bits bs, `done` of them, packed from its front, and is zero past their end
pub record Filled (bs : List Bool) (done : ℕ) (buf : List ℕ) : Type 0 where
  pub ends : length bs ≡ done
  pub held : buf ≡ octets (length buf) bs
