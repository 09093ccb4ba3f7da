-- Document 01, 'Finding alignment': one step of a walk, which keeps a recording, a place in it, and whether the block before was lost.
use Rattle.std.specs.Prelude.{Bool, true, false, cond, List, ℕ, ◌+◌, ◌-◌, ltb, length, take, drop, Ok, Err}
use Rattle.refusals.specs.Rows.{Ruling}
use Rattle.buffers.specs.Buffers.{Buffers, lengths}
use Rattle.buffers.specs.Lengths.{line_octets, stream_octets}
use Rattle.track.specs.Signs.{signs_of}
use Rattle.track.specs.Step as tracking
use Rattle.reader.specs.declared.Reader.{Reader}
use Rattle.track.specs.declared.Report.{Report}
use Rattle.track.specs.declared.Standing.{Standing}
use Rattle.track.specs.declared.Standing.TheVariants.{Waiting, Read, Lost}
use Rattle.reading.specs.Step.{handed_by}
use Rattle.search.specs.Finding.{Found, search_of}
use Rattle.recording.specs.Refusals.{Answer, ruling_of}
use Rattle.recording.specs.declared.Stand.{Stand}
use Rattle.recording.specs.declared.Met.TheVariants.{Block, Place, End}

-- the octets left from a place on, and the block there
abbrev pub left_from : List ℕ → ℕ → ℕ
left_from recording place = length recording - place

abbrev pub block_at : List ℕ → ℕ → List ℕ
block_at recording place = take line_octets (drop place recording)

-- what the reader makes of it
abbrev pub read_at : Reader → List ℕ → ℕ → tracking.Stepped
read_at s recording place = tracking.step_of s (signs_of (block_at recording place))

abbrev pub block_read : Reader → List ℕ → ℕ → Answer
block_read s recording place = Ok (Block (read_at s recording place).report)

-- after a lost block the next step searches from the octet after it and answers the new place, or "end" and the octets left where that
-- search is refused (DECISIONS W5, W6)
abbrev pub found_again : Found → ℕ → Answer
found_again (Ok p) left = Ok (Place p)
found_again (Err r) left = Ok (End left)

-- else one block a step; with fewer than 160 octets left a step answers "end" and that number
abbrev pub answer_here : List ℕ → ℕ → Bool → Reader → Answer
answer_here recording place lost s =
    let left = left_from recording place in
    cond lost (found_again (search_of recording place) left) (cond (ltb left line_octets) (Ok (End left)) (block_read s recording place))

abbrev pub answer_by : Ruling → List ℕ → ℕ → Bool → Reader → Answer
answer_by (Err r) recording place lost s = Err r
answer_by (Ok u) recording place lost s = answer_here recording place lost s

-- a block moves the walk on by its octets; a step that answers a place moves the walk there, "end" moves nothing, nor does a refusal
abbrev pub place_by : Answer → ℕ → ℕ
place_by (Ok (Block report)) place = place + line_octets
place_by (Ok (Place p)) place = p
place_by (Ok (End left)) place = place
place_by (Err r) place = place

abbrev pub is_lost : Report → Bool
is_lost report = lost report.standing
  where
    lost : Standing → Bool
    lost Waiting = false
    lost Read = false
    lost Lost = true

abbrev pub lost_by : Answer → Bool → Bool
lost_by (Ok (Block report)) lost = is_lost report
lost_by (Ok (Place p)) lost = false
lost_by (Ok (End left)) lost = lost
lost_by (Err r) lost = lost

-- all but a block leave the reader's state and the lent buffers untouched
abbrev pub reader_by : Answer → List ℕ → ℕ → Reader → Reader
reader_by (Ok (Block report)) recording place s = (read_at s recording place).state
reader_by (Ok (Place p)) recording place s = s
reader_by (Ok (End left)) recording place s = s
reader_by (Err r) recording place s = s

-- the buffers after an answer: what a block hands out, else what they held
abbrev pub buffers_by : Answer → List ℕ → ℕ → Reader → Buffers → Buffers
buffers_by (Ok (Block report)) recording place s b = handed_by report.standing s.mode (block_at recording place)
buffers_by (Ok (Place p)) recording place s b = b
buffers_by (Ok (End left)) recording place s b = b
buffers_by (Err r) recording place s b = b

-- what a step leaves: the answer, the reader's state, and where the walk stands
pub record Stepped : Type 0 where
  pub answer : Answer
  pub reader : Reader
  pub place : ℕ
  pub lost : Bool

abbrev pub stepped : Stand → Reader → Answer → Stepped
stepped stand reader answer = record { answer = answer; reader = reader; place = stand.place; lost = stand.lost }

abbrev pub stepped_by : Answer → List ℕ → ℕ → Bool → Reader → Stepped
stepped_by a recording place lost s =
    record { answer = a; reader = reader_by a recording place s; place = place_by a place; lost = lost_by a lost }

-- ---- the step: its answer, and what it leaves of the walk, the reader and the buffers
unfoldable pub answer_at : List ℕ → ℕ → Bool → Reader → Buffers → Answer
answer_at recording place lost s b = answer_by (ruling_of (length recording) place s (lengths b)) recording place lost s

unfoldable pub step_at : List ℕ → ℕ → Bool → Reader → Buffers → Stepped
step_at recording place lost s b = stepped_by (answer_at recording place lost s b) recording place lost s

unfoldable pub buffers_at : List ℕ → ℕ → Bool → Reader → Buffers → Buffers
buffers_at recording place lost s b = buffers_by (answer_at recording place lost s b) recording place s b

-- what a step leaves beside the buffers is the same for all buffers that fit, so it can be had without any
unfoldable pub look_at : List ℕ → ℕ → Bool → Reader → Stepped
look_at recording place lost s =
    stepped_by (answer_by (ruling_of (length recording) place s stream_octets) recording place lost s) recording place lost s
