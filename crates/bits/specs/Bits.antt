-- Document 01, 'What the unit carries': bit 1 of an octet is its most significant bit and goes first.
-- A bit is a Bool, and bits are a list of them, first bit first. Numbers stand only at the edge.
use Rattle.std.specs.Prelude.{Bool, true, false, List, [], ◌∷◌, ◌++◌, ℕ, zero, suc, ◌+◌, ◌-◌, ◌*◌, ◌/◌, ◌%◌, ◌^◌, eqb, length, get_or, take, drop, replicate}
use Rattle.std.specs.Bool.{xor}

-- the lowest bit of a number
unfoldable pub odd : ℕ → Bool
odd n = eqb (n % 2) 1

-- the k low bits of a number, the highest of them first
unfoldable pub low_bits : ℕ → ℕ → List Bool
low_bits zero n = []
low_bits (suc k) n = odd (n / 2 ^ k) ∷ low_bits k n

-- an octet: bit 1 is its most significant bit and goes first
abbrev pub octet_bits : ℕ → List Bool
octet_bits x = low_bits 8 x

-- the service channel (SC) is bit 8 of an octet
abbrev pub sc_place : ℕ
sc_place = 8

-- that bit: the octet's lowest (proofs/BitLaws, sc_is)
unfoldable pub sc_bit : ℕ → Bool
sc_bit octet = get_or (octet_bits octet) (sc_place - 1) false

-- octets in sending order
unfoldable pub bits_of : List ℕ → List Bool
bits_of [] = []
bits_of (x ∷ xs) = octet_bits x ++ bits_of xs

-- a bit as a digit
abbrev pub digit : Bool → ℕ
digit true = 1
digit false = 0

-- an octet with its SC bit 0
unfoldable pub without_sc : ℕ → ℕ
without_sc octet = octet - digit (sc_bit octet) * 2 ^ (8 - sc_place)

-- the number that bits spell, most significant first
unfoldable pub number : List Bool → ℕ
number [] = 0
number (b ∷ bs) = digit b * 2 ^ length bs + number bs

-- k bits that are 0
abbrev pub zeros : ℕ → List Bool
zeros k = replicate k false

-- the sum without carry of two equally long lists of bits
unfoldable pub xors : List Bool → List Bool → List Bool
xors [] ys = []
xors (x ∷ xs) [] = []
xors (x ∷ xs) (y ∷ ys) = xor x y ∷ xors xs ys

-- the next n bits of a stream, 1 where it has run out
unfoldable pub nexts : ℕ → List Bool → List Bool
nexts zero l = []
nexts (suc n) l = get_or l 0 true ∷ nexts n (drop 1 l)

-- n octets packed from bits, most significant bit first, with zeros where the bits have run out
unfoldable pub octets : ℕ → List Bool → List ℕ
octets zero bs = []
octets (suc n) bs = number (take 8 (bs ++ zeros 8)) ∷ octets n (drop 8 bs)

-- n octets from a place on as one number, the first highest; octets past the end count as 0
unfoldable pub number_at : List ℕ → ℕ → ℕ → ℕ
number_at octets at zero = 0
number_at octets at (suc n) = number_at octets at n * 256 + get_or octets (at + n) 0 % 256

abbrev pub eight_at : List ℕ → ℕ → ℕ
eight_at octets at = number_at octets at 8
