-- Eight octets together, as one number: their fields, and how a number is spread over them. No public contract above this crate speaks of it;
-- proofs/SpreadLaws shows that the three steps of the code give the fields.
use Rattle.std.specs.Prelude.{◌≡◌, Bool, true, cond, ◌&&◌, List, [], ◌∷◌, ◌++◌, ℕ, zero, suc, ◌+◌, ◌-◌, ◌*◌, ◌/◌, ◌%◌, ◌^◌, ◌<◌, ◌≤◌, leb, get_or, drop}
use Rattle.std.specs.Int.Bits.{bit_and}
use Rattle.bits.specs.Bits.{number, digit, nexts}

-- field k of x's eight, the highest first and counted from 0, each of n bits
unfoldable pub field_of : ℕ → ℕ → ℕ → ℕ
field_of x n k = x / 2 ^ ((7 - k) * n) % 2 ^ n

-- eight octets as one number, the first highest
unfoldable pub eights : (ℕ → ℕ) → ℕ
eights f = ((((((f 0 * 256 + f 1) * 256 + f 2) * 256 + f 3) * 256 + f 4) * 256 + f 5) * 256 + f 6) * 256 + f 7

-- those of x, `up` bits up in eight octets, with the bits of `below` below each
unfoldable pub spread_by : ℕ → ℕ → ℕ → ℕ → ℕ
spread_by n up below x = eights (λ (j : ℕ). field_of x n j * 2 ^ up + below)

-- field k of the eight that a stream begins with, each of n bits
unfoldable pub fields_of : ℕ → List Bool → ℕ → ℕ
fields_of n bits k = number (nexts n (drop (k * n) bits))

-- those, `up` bits up in eight octets, with the bits of `below` below each
unfoldable pub raised_by : ℕ → ℕ → ℕ → List Bool → ℕ
raised_by n up below bits = eights (λ (j : ℕ). fields_of n bits j * 2 ^ up + below)

-- octet o + 1 of a frame, of which octets `first` to `last` end in the bits of a stream, one in each, and the others in a 1
unfoldable pub own_at : ℕ → ℕ → List Bool → ℕ → ℕ
own_at first last bits o = digit (cond (leb first (o + 1) && leb (o + 1) last) (get_or bits (o + 1 - first) true) true)

-- eight octets that end in ones, with the bits of an octet in the place of those
unfoldable pub ended_by : ℕ → ℕ → ℕ
ended_by eight octet = eight - eights (λ (k : ℕ). 1) + eights (field_of octet 1)

-- the octets of a number of 64 bits
abbrev pub octet_in : ℕ → ℕ → ℕ
octet_in x k = x / 2 ^ (8 * (7 - k)) % 256

abbrev pub octets_in : ℕ → List ℕ
octets_in x =
    octet_in x 0 ∷ octet_in x 1 ∷ octet_in x 2 ∷ octet_in x 3 ∷ octet_in x 4 ∷ octet_in x 5 ∷ octet_in x 6 ∷ octet_in x 7 ∷ []

-- the octets of the first n of many such numbers
unfoldable pub all_octets : (ℕ → ℕ) → ℕ → List ℕ
all_octets f zero = []
all_octets f (suc n) = all_octets f n ++ octets_in (f n)

-- what a mask covers stays, and the rest moves up by `up` bits
unfoldable pub parted_by : ℕ → ℕ → ℕ → ℕ
parted_by x mask up = (x - bit_and x mask) * 2 ^ up + bit_and x mask

-- eights `from` to `to` of a frame's ten are those of a rule, and those before are as they were
abbrev pub Laid : List ℕ → List ℕ → ℕ → ℕ → (ℕ → ℕ) → Type 0
Laid was is from to rule =
    ((k : ℕ) → k < from → get_or is k 0 ≡ get_or was k 0) × ((k : ℕ) → from ≤ k → k < to → get_or is k 0 ≡ rule k)
