-- Document 01, 'Refusal numbers', rows 1 to 4.
use Rattle.std.specs.Prelude.{not, List, ◌∷◌, ℕ, Result, Ok, Err}
use Rattle.refusals.specs.Numbers.{number_of}
use Rattle.refusals.specs.Rows.{Ruling, row, first_given}
use Rattle.refusals.specs.declared.Row.{Row}
use Rattle.refusals.specs.declared.Refusal.{Refusal}
use Rattle.refusals.specs.declared.Refusal.TheVariants.{BadState}
use Rattle.buffers.specs.Buffers.{Each}
use Rattle.buffers.specs.Lengths.{line_row, stream_rows}
use Rattle.reader.specs.State.{state_in_range}
use Rattle.reader.specs.declared.Reader.{Reader}
use Rattle.track.specs.declared.Report.{Report}

-- the rows of a call with a block and buffers of these lengths, in their order
abbrev pub rows : Reader → ℕ → Each ℕ → List Row
rows s line n = row BadState (not (state_in_range s)) ∷ line_row line ∷ stream_rows n

unfoldable pub ruling_of : Reader → ℕ → Each ℕ → Ruling
ruling_of s line n = first_given (rows s line n)

-- what a call answers: a block's report, or a refusal
abbrev pub Answer : Type 0
Answer = Result Report Refusal

-- what an answer stands for: its kind, a block or refused; and the number of the refusal, 0 for a block
abbrev pub kind_of : Answer → ℕ
kind_of (Ok report) = 0
kind_of (Err r) = 1

abbrev pub number_in : Answer → ℕ
number_in (Ok report) = 0
number_in (Err r) = number_of r
