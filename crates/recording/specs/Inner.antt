-- How the code takes a step apart: whether it meets a block, and the reader's answer to that block as the walk tells it. No public contract
-- speaks of it.
use Rattle.std.specs.Prelude.{Bool, ◌||◌, List, ℕ, ◌+◌, ◌-◌, ltb, length, Ok, Err}
use Rattle.buffers.specs.Buffers.{Each}
use Rattle.buffers.specs.Lengths.{line_octets}
use Rattle.reader.specs.declared.Reader.{Reader}
use Rattle.reading.specs.Refusals as heard
use Rattle.reading.specs.Step as told
use Rattle.recording.specs.Refusals.{ruling_of}
use Rattle.recording.specs.Walk.{Stepped, answer_by, is_lost, stepped_by}
use Rattle.recording.specs.declared.Met.TheVariants.{Block}

-- a step meets no block after a lost one, and none at the end
abbrev pub off_block : ℕ → ℕ → Bool → Bool
off_block all place lost = lost || ltb (all - place) line_octets

-- and none in a recording that is too long
abbrev pub meets_none : ℕ → ℕ → Bool → Bool
meets_none all place lost = ltb 65536 all || off_block all place lost

-- the walk after the reader's answer to the block at its place
abbrev pub moved_by : told.Outcome → ℕ → Bool → Stepped
moved_by o place lost = by o.answer
  where
    by : heard.Answer → Stepped
    by (Ok report) =
        record { answer = Ok (Block report); reader = o.state; place = place + line_octets; lost = is_lost report }
    by (Err why) = record { answer = Err why; reader = o.state; place = place; lost = lost }

-- a step with buffers of these lengths, beside what it leaves in them
abbrev pub ruled_at : List ℕ → ℕ → Bool → Reader → Each ℕ → Stepped
ruled_at recording place lost s n =
    stepped_by (answer_by (ruling_of (length recording) place s n) recording place lost s) recording place lost s
