-- Document 01, 'Refusal numbers', rows 1, 3, 4 and 9 of a walk's step.
use Rattle.std.specs.Prelude.{not, ◌||◌, List, [], ◌∷◌, ◌++◌, ℕ, ltb, Result, Ok, Err}
use Rattle.refusals.specs.Numbers.{number_of}
use Rattle.refusals.specs.Rows.{Ruling, row, first_given}
use Rattle.refusals.specs.declared.Row.{Row}
use Rattle.refusals.specs.declared.Refusal.TheVariants.{BadState, BadRecording}
use Rattle.buffers.specs.Buffers.{Each}
use Rattle.buffers.specs.Lengths.{stream_rows}
use Rattle.reader.specs.State.{state_in_range}
use Rattle.reader.specs.declared.Reader.{Reader}
use Rattle.refusals.specs.declared.Refusal.{Refusal}
use Rattle.recording.specs.declared.Met.{Met}
use Rattle.recording.specs.declared.Met.TheVariants.{Block, Place, End}

-- the rows of a step at a place of a recording of `all` octets, with buffers of these lengths, in their order. Row 9: the recording is over
-- 65,536 octets, or the place is past its end (DECISIONS W2, W3)
abbrev pub rows : ℕ → ℕ → Reader → Each ℕ → List Row
rows all place s n =
    row BadState (not (state_in_range s)) ∷ stream_rows n ++ row BadRecording (ltb 65536 all || ltb all place) ∷ []

unfoldable pub ruling_of : ℕ → ℕ → Reader → Each ℕ → Ruling
ruling_of all place s n = first_given (rows all place s n)

-- what a step answers: what it meets, or a refusal
abbrev pub Answer : Type 0
Answer = Result Met Refusal

-- what an answer stands for: its kind, a block, a place, the end or refused; the number of the refusal, 0 where nothing is refused; and
-- its value, the place found or the octets left, 0 for the other two
abbrev pub kind_of : Answer → ℕ
kind_of (Ok (Block report)) = 0
kind_of (Ok (Place p)) = 1
kind_of (Ok (End left)) = 2
kind_of (Err r) = 3

abbrev pub number_in : Answer → ℕ
number_in (Ok (Block report)) = 0
number_in (Ok (Place p)) = 0
number_in (Ok (End left)) = 0
number_in (Err r) = number_of r

abbrev pub value_in : Answer → ℕ
value_in (Ok (Block report)) = 0
value_in (Ok (Place p)) = p
value_in (Ok (End left)) = left
value_in (Err r) = 0
