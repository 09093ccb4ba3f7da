-- Document 01, 'Codes and bit places': the bit places that each audio and data value holds.
use Rattle.std.specs.Prelude.{Bool, true, false, cond, List, [], ◌∷◌, ℕ, eqb, Option, Some, None, is_some, unwrap_or}
use Rattle.numbers.specs.Numbers.{octet}
use Rattle.numbers.specs.declared.OctetNumber.{OctetNumber}
use Rattle.table.specs.declared.Places.{Places}

-- octet bits `from` to `to` of every octet, and the SC bit of octets `first` to `last`; a range that ends before it starts is empty (DECISIONS F4)
abbrev pub bits_and_sc : ℕ → ℕ → OctetNumber → OctetNumber → Places
bits_and_sc from to first last = record { listed = true; from = from; to = to; first = first; last = last }

-- octet bits 1 to w; none where w is 0
abbrev pub octet_bits_to : ℕ → Places
octet_bits_to w = bits_and_sc 1 w (octet 17) (octet 16)

-- octet bits a to 7; none where a is 8
abbrev pub octet_bits_from : ℕ → Places
octet_bits_from a = bits_and_sc a 7 (octet 17) (octet 16)

-- SC octets f to l
abbrev pub sc_octets : OctetNumber → OctetNumber → Places
sc_octets f l = bits_and_sc 8 7 f l

abbrev pub not_listed : Places → Places
not_listed p = record { listed = false; from = p.from; to = p.to; first = p.first; last = p.last }

-- Audio (000), as octet bits 1 to w. [0], neutral, holds nothing
unfoldable pub audio_table : List (ℕ × Places)
audio_table =
    (11, octet_bits_to 1)
    ∷ (29, octet_bits_to 2)
    ∷ (28, octet_bits_to 3)
    ∷ (27, octet_bits_to 4)
    ∷ (20, octet_bits_to 6) ∷ (21, octet_bits_to 6) ∷ (25, octet_bits_to 6)
    ∷ (18, octet_bits_to 7) ∷ (19, octet_bits_to 7) ∷ (24, octet_bits_to 7)
    ∷ (31, octet_bits_to 0)
    ∷ (0, octet_bits_to 0)
    ∷ []

-- Data (011)
unfoldable pub lsd_table : List (ℕ × Places)
lsd_table =
    (0, octet_bits_from 8)
    -- SC octets only
    ∷ (1, sc_octets (octet 38) (octet 40)) ∷ (2, sc_octets (octet 29) (octet 40))
    ∷ (3, sc_octets (octet 33) (octet 80)) ∷ (4, sc_octets (octet 17) (octet 80))
    -- bit 7, alone and with SC octets
    ∷ (5, octet_bits_from 7) ∷ (6, bits_and_sc 7 7 (octet 25) (octet 40)) ∷ (7, bits_and_sc 7 7 (octet 17) (octet 80))
    -- bits 6-7, 5-7, 4-7, 3-7, 2-7, 1-7
    ∷ (8, octet_bits_from 6) ∷ (9, octet_bits_from 5) ∷ (10, octet_bits_from 4)
    ∷ (11, octet_bits_from 3) ∷ (12, octet_bits_from 2) ∷ (13, octet_bits_from 1)
    -- bits 1-7 and SC octets
    ∷ (14, bits_and_sc 1 7 (octet 17) (octet 80))
    ∷ []

-- what stands beside a value; nothing beside every other
unfoldable pub beside : List (ℕ × Places) → ℕ → Option Places
beside [] v = None
beside (row ∷ rows) v = cond (eqb v row.0) (Some row.1) (beside rows v)

unfoldable pub audio_listed : ℕ → Option Places
audio_listed v = beside audio_table v

unfoldable pub lsd_listed : ℕ → Option Places
lsd_listed v = beside lsd_table v

-- a value that its table does not list holds nothing, and is marked
unfoldable pub audio_places : ℕ → Places
audio_places v = unwrap_or (audio_listed v) (not_listed (octet_bits_to 0))

unfoldable pub lsd_places : ℕ → Places
lsd_places v = unwrap_or (lsd_listed v) (not_listed (octet_bits_from 8))

-- the values that the two tables list
abbrev pub listed_audio : ℕ → Bool
listed_audio v = is_some (audio_listed v)

abbrev pub listed_lsd : ℕ → Bool
listed_lsd v = is_some (lsd_listed v)
