-- Document 01, 'Reading a block': what one reading call leaves, the next state, the answer and the buffers.
use Rattle.std.specs.Prelude.{◌≡◌, List, ℕ, length, Ok, Err}
use Rattle.refusals.specs.Rows.{Ruling, ruling_number}
use Rattle.buffers.specs.Buffers.{Buffers, lengths}
use Rattle.buffers.specs.Lengths.{stream_octets, zeroed}
use Rattle.modes.specs.declared.Mode.{Mode}
use Rattle.sorter.specs.Sorting.{streams_of}
use Rattle.track.specs.Signs.{signs_of}
use Rattle.track.specs.Step.{step_of}
use Rattle.reader.specs.declared.Reader.{Reader}
use Rattle.track.specs.declared.Standing.{Standing}
use Rattle.track.specs.declared.Standing.TheVariants.{Waiting, Read, Lost}
use Rattle.reading.specs.Refusals.{Answer, ruling_of, number_in}

-- what a call leaves of the state, and its answer
pub record Outcome : Type 0 where
  pub state : Reader
  pub answer : Answer

abbrev pub outcome : Reader → Answer → Outcome
outcome state answer = record { state = state; answer = answer }

-- the streams handed out by the mode at entry; buffers zero where the block is lost or its place unknown (DECISIONS R24)
abbrev pub handed_by : Standing → Mode → List ℕ → Buffers
handed_by Waiting m line = zeroed
handed_by Read m line = streams_of m line
handed_by Lost m line = zeroed

-- where a row refuses, the state comes back as given and nothing lent changes
abbrev pub outcome_by : Ruling → Reader → List ℕ → Outcome
outcome_by (Err r) s line = record { state = s; answer = Err r }
outcome_by (Ok u) s line =
    let stepped = step_of s (signs_of line) in
    record { state = stepped.state; answer = Ok stepped.report }

abbrev pub filled_by : Ruling → Reader → List ℕ → Buffers → Buffers
filled_by (Err r) s line b = b
filled_by (Ok u) s line b = handed_by (step_of s (signs_of line)).report.standing s.mode line

abbrev pub ruled : Reader → List ℕ → Buffers → Ruling
ruled s line b = ruling_of s (length line) (lengths b)

-- the state and the answer of a call, and what the lent buffers hold after it
unfoldable pub outcome_of : Reader → List ℕ → Buffers → Outcome
outcome_of s line b = outcome_by (ruled s line b) s line

unfoldable pub buffers_of : Reader → List ℕ → Buffers → Buffers
buffers_of s line b = filled_by (ruled s line b) s line b

-- a block's state and answer are the same for all buffers that fit, so they can be had without any
unfoldable pub look_of : Reader → List ℕ → Outcome
look_of s line = outcome_by (ruling_of s (length line) stream_octets) s line

-- all that the contract of a reading call says of its result `r` and of the buffers at exit, `after`
pub record Told (s : Reader) (line : List ℕ) (b : Buffers) (r : Outcome) (after : Buffers) : Type 0 where
  pub outcome : r ≡ outcome_of s line b
  pub handed : after ≡ buffers_of s line b
  pub number : number_in r.answer ≡ ruling_number (ruled s line b)
