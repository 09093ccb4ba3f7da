-- Document 01, 'Refusal numbers': the number of each refusal, and which of two is given first, those of document 02 included.
use Rattle.std.specs.Prelude.{Bool, true, false, cond, List, [], ◌∷◌, ℕ, eqb}
use Rattle.refusals.specs.declared.Refusal.{Refusal}
use Rattle.refusals.specs.declared.Refusal.TheVariants.{BadState, LineLength, VoiceLength, LsdLength, NotCarried, ForbiddenItem, AudioWhileMuted, Overlap, BadRecording, NoPlace, NotAPreset}

abbrev pub number_of : Refusal → ℕ
-- a sender's or a reader's state out of range
number_of BadState = 1
-- line block not 160 / voice not 140 / data not 156 octets
number_of LineLength = 2
number_of VoiceLength = 3
number_of LsdLength = 4
-- offered plain code not carried
number_of NotCarried = 5
-- item due and offered attribute is 111
number_of ForbiddenItem = 6
-- audio command offered while mute is set
number_of AudioWhileMuted = 7
-- audio command overlaps data in force, or data command overlaps chosen audio
number_of Overlap = 8
-- recording over 65,536 octets; in a search, under 168 from the start on; in a walk's step, its place past the recording's end
number_of BadRecording = 9
-- no such place
number_of NoPlace = 10
-- preset not as 'Preset' says
number_of NotAPreset = 11

-- the numbers in the order in which they are given. Document 01: smaller number first. Document 02 ranks some of its own otherwise: 12 just
-- after 4, 15 after 12, 13 after 8, 14 after 13, 19 after 11
abbrev pub order : List ℕ
order =
    1 ∷ 2 ∷ 3 ∷ 4 ∷ 12 ∷ 15 ∷ 5 ∷ 6 ∷ 7 ∷ 8 ∷ 13 ∷ 14 ∷ 9 ∷ 10 ∷ 11 ∷ 19 ∷ 16 ∷ 17 ∷ 18 ∷ 20 ∷ 21 ∷ 22 ∷ []

-- numbers that stand in a list in this order
abbrev stand_in : List ℕ → List ℕ → Bool
stand_in [] ms = true
stand_in (n ∷ ns) [] = false
stand_in (n ∷ ns) (m ∷ ms) = cond (eqb n m) (stand_in ns ms) (stand_in (n ∷ ns) ms)

-- the numbers of a call's rows are ranked: they stand in that order
abbrev pub ranked : List ℕ → Bool
ranked ns = stand_in ns order
