-- Document 01, 'Service bits 1 to 8 of each frame'.
use Rattle.std.specs.Prelude.{Bool, true, false, List, [], ◌∷◌, ℕ}
use Rattle.bits.specs.Bits.{low_bits}

-- bits 2 to 8 of an even frame: 0011011
abbrev pub even_alignment : List Bool
even_alignment = false ∷ false ∷ true ∷ true ∷ false ∷ true ∷ true ∷ []

-- bit 1 of frames 0 to 15: 0,0,0,0,0,1,0,0,0,1,1,1,0,0,T,0
abbrev pub first_bits : Bool → List Bool
first_bits t =
    false ∷ false ∷ false ∷ false ∷ false ∷ true ∷ false ∷ false
    ∷ false ∷ true ∷ true ∷ true ∷ false ∷ false ∷ t ∷ false ∷ []

-- an even frame's row, and an odd one's: bit 2 is 1, bit 3 A, bit 4 E, bits 5 to 8 C1 to C4, C1 highest
abbrev pub even_row : Bool → List Bool
even_row first = first ∷ even_alignment

abbrev pub odd_row : Bool → Bool → ℕ → Bool → List Bool
odd_row a e remainder first = first ∷ true ∷ a ∷ e ∷ low_bits 4 remainder

-- even and odd frames in turn
abbrev pub alternating : Bool → Bool → ℕ → List Bool → List (List Bool)
alternating a e remainder [] = []
alternating a e remainder (first ∷ []) = even_row first ∷ []
alternating a e remainder (first ∷ second ∷ more) = even_row first ∷ odd_row a e remainder second ∷ alternating a e remainder more

-- the sixteen rows of eight service bits, for given A, E, T and remainder
abbrev pub service_rows : Bool → Bool → Bool → ℕ → List (List Bool)
service_rows a e t remainder = alternating a e remainder (first_bits t)
