-- Document 01, 'Finding alignment', and 'Refusal numbers', rows 9 and 10.
use Rattle.std.specs.Prelude.{Bool, cond, ◌&&◌, ◌||◌, List, ℕ, zero, suc, ◌+◌, ◌-◌, eqb, leb, ltb, length, get_or, drop, Result, Ok, Err}
use Rattle.bits.specs.Bits.{sc_bit, number}
use Rattle.refusals.specs.Numbers.{number_of}
use Rattle.refusals.specs.declared.Refusal.TheVariants.{BadRecording, NoPlace}
use Rattle.service.specs.Service.{even_alignment}
use Rattle.service.specs.Channel.{channel_bits}
use Rattle.refusals.specs.declared.Refusal.{Refusal}

-- what a search answers: a place, or a refusal
abbrev pub Found : Type 0
Found = Result ℕ Refusal

-- SC has 0011011 at the seven offsets from this one on; seven bits are these where they spell the same number
unfoldable pub spells : ℕ → List ℕ → Bool
spells at part = eqb (number (channel_bits 7 at part)) (number even_alignment)

-- one place, with the recording from that place on: SC has 0011011 at offsets 1 to 7, 1 at 81, 0011011 at 161 to 167, all 168 octets inside
unfoldable pub aligned : List ℕ → Bool
aligned part = spells 1 part && sc_bit (get_or part 81 0) && spells 161 part && leb 168 (length part)

-- the smallest such place of the n from this one on; row 10: no such place
unfoldable pub first_of : ℕ → ℕ → List ℕ → Found
first_of zero at recording = Err NoPlace
first_of (suc n) at recording = cond (aligned (drop at recording)) (Ok at) (first_of n (at + 1) recording)

-- row 9: the recording is over 65,536 octets, or under 168 from the start on; past the end there are none (DECISIONS W7, F44)
unfoldable pub bad_length : List ℕ → ℕ → Bool
bad_length recording start = ltb 65536 (length recording) || ltb (length recording - start) 168

-- the search begins at a given octet of the recording; row 9 ranks before row 10, which is what the search itself finds (DECISIONS F54)
unfoldable pub search_of : List ℕ → ℕ → Found
search_of recording start =
    cond (bad_length recording start) (Err BadRecording) (first_of (length recording - start) start recording)

-- what an answer stands for: the number of the refusal, 0 where a place is found; and that place, 0 where there is none
abbrev pub found_number : Found → ℕ
found_number (Ok p) = 0
found_number (Err r) = number_of r

abbrev pub found_place : Found → ℕ
found_place (Ok p) = p
found_place (Err r) = 0
