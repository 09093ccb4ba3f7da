-- Document 01, 'Figures to check against': what the listing program writes.
use Rattle.std.specs.Prelude.{Bool, true, false, cond, List, [], ◌++◌, ℕ, zero, suc, ◌+◌, length, Ok, Err}
use Rattle.modes.specs.Modes.{off}
use Rattle.reader.specs.State.{fresh_in}
use Rattle.reader.specs.declared.Reader.{Reader}
use Rattle.search.specs.Finding as finding
use Rattle.search.specs.Finding.{Found}
use Rattle.refusals.specs.Numbers.{number_of}
use Rattle.recording.specs.Walk.{answer_here, reader_by, place_by, lost_by}
use Rattle.recording.specs.Refusals.{Answer}
use Rattle.recording.specs.declared.Met.TheVariants.{Block, Place, End}
use Rattle.wording.specs.Lines.{number_line, line_text}

abbrev pub is_last : Answer → Bool
is_last (Ok (Block report)) = false
is_last (Ok (Place p)) = false
is_last (Ok (End left)) = true
is_last (Err why) = true

-- count from 0 over the whole listing (DECISIONS L4)
abbrev pub count_after : Answer → ℕ → ℕ
count_after (Ok (Block report)) count = count + 1
count_after (Ok (Place p)) count = count
count_after (Ok (End left)) count = count
count_after (Err why) count = count

-- the lines of n steps of a walk from a place on, or of fewer where it ends (DECISIONS F23)
unfoldable pub lines_from : ℕ → List ℕ → ℕ → Bool → Reader → ℕ → List ℕ
lines_from zero recording place lost s count = []
lines_from (suc n) recording place lost s count =
    let a = answer_here recording place lost s in
    line_text a count
    ++ cond (is_last a) [] (lines_from n recording (place_by a place) (lost_by a lost) (reader_by a recording place s) (count_after a count))

-- the reader starts fresh
abbrev pub begun : Reader
begun = fresh_in off

-- line 1 is "found" and the place, or "none" and the refusal number, and then nothing more
abbrev pub listing_by : Found → List ℕ → List ℕ
listing_by (Ok p) recording = number_line "found " p ++ lines_from (length recording) recording p false begun 0
listing_by (Err why) recording = number_line "none " (number_of why)

unfoldable pub listing_of : List ℕ → List ℕ
listing_of recording = listing_by (finding.search_of recording 0) recording
