-- Document 01, 'CRC-4' and 'BAS words': the remainder of a message times X^k, divided by a generator of degree k.
-- Polynomials over the field of two elements, as the list of their coefficients, highest power first. A generator of degree k is
-- X^k + g, and is given by g, its k low coefficients; so k is the length of g, and every width is one definition.
use Rattle.std.specs.Prelude.{◌≡◌, Bool, true, false, List, [], ◌∷◌, ◌++◌, length}
use Rattle.std.specs.Bool.{xor}
use Rattle.bits.specs.Bits.{zeros, xors}

-- a polynomial times 0 or 1
unfoldable pub scaled : Bool → List Bool → List Bool
scaled true g = g
scaled false g = zeros (length g)

-- one bit b of the message more: the remainder r goes one power up, and where what it loses at the top and b add up to 1, g is added
unfoldable pub fed : List Bool → List Bool → Bool → List Bool
fed g [] b = []
fed g (r ∷ rs) b = xors (rs ++ (false ∷ [])) (scaled (xor r b) g)

-- the remainder r of what came before, continued over the bits of a message
unfoldable pub continued : List Bool → List Bool → List Bool → List Bool
continued g r [] = r
continued g r (b ∷ bs) = continued g (fed g r b) bs

-- the remainder of the message times X^k, divided by X^k + g. That it is the
-- remainder, and the only one: `is_remainder` and `only_remainder` of proofs/RemainderLaws
unfoldable pub remainder : List Bool → List Bool → List Bool
remainder g message = continued g (zeros (length g)) message

-- (X^k + g) times q, by the school's method
unfoldable pub product : List Bool → List Bool → List Bool
product g [] = zeros (length g)
product g (b ∷ q) = xors (scaled b (true ∷ g) ++ zeros (length q)) (false ∷ product g q)

-- the message times X^k, divided by X^k + g, leaves r: message · X^k = quotient · (X^k + g) + r
abbrev pub Leaves : List Bool → List Bool → List Bool → Type 0
Leaves g message r =
    (quotient : List Bool) × (length quotient ≡ length message)
    × (message ++ zeros (length g) ≡ xors (product g quotient) (zeros (length message) ++ r))
