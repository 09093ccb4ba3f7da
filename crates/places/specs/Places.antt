-- Document 01, 'Codes and bit places': the places of a frame in sending order.
use Rattle.std.specs.Prelude.{List, [], ◌∷◌, ◌++◌, ℕ, zero, suc}
use Rattle.numbers.specs.Numbers.{octet}
use Rattle.modes.specs.Owners.{owner_of}
use Rattle.modes.specs.declared.Mode.{Mode}
use Rattle.numbers.specs.declared.OctetNumber.{OctetNumber}
use Rattle.modes.specs.declared.Owner.{Owner}

-- the eight places of an octet, bit 1 first
unfoldable pub owners_of : Mode → OctetNumber → List Owner
owners_of m o =
    owner_of m o 1 ∷ owner_of m o 2 ∷ owner_of m o 3 ∷ owner_of m o 4
    ∷ owner_of m o 5 ∷ owner_of m o 6 ∷ owner_of m o 7 ∷ owner_of m o 8 ∷ []

-- the places of octets 1 to n, in sending order
unfoldable pub owners_to : Mode → ℕ → List Owner
owners_to m zero = []
owners_to m (suc n) = owners_to m n ++ owners_of m (octet (suc n))

-- the 640 places of a frame
unfoldable pub places : Mode → List Owner
places m = owners_to m 80
