-- Document 01, 'Figures to check against': what a line of the listing says.
use Rattle.std.specs.Prelude.{List, ◌++◌, ℕ, unwrap_or, option_map, Ok, Err}
use Prim.Native.String.{String}
use Rattle.digits.specs.Digits.{hex_of, decimal_of}
use Rattle.text.specs.Words.{text_of}
use Rattle.words.specs.declared.Reading.{Reading}
use Rattle.words.specs.Readings.{code_of}
use Rattle.track.specs.declared.Report.{Report}
use Rattle.track.specs.declared.Standing.{Standing}
use Rattle.track.specs.declared.Standing.TheVariants.{Waiting, Read, Lost}
use Rattle.track.specs.declared.Verdict.{Verdict}
use Rattle.track.specs.declared.Verdict.TheVariants.{None, Good, Bad}
use Rattle.refusals.specs.Numbers.{number_of}
use Rattle.recording.specs.Refusals.{Answer}
use Rattle.recording.specs.declared.Met.TheVariants.{Block, Place, End}

-- a line of a word and a number
abbrev pub number_line : String → ℕ → List ℕ
number_line word n = text_of word ++ decimal_of n ++ text_of "\n"

-- state (waiting, read, lost)
abbrev pub standing_text : Standing → List ℕ
standing_text Waiting = text_of "waiting"
standing_text Read = text_of "read"
standing_text Lost = text_of "lost"

-- CRC (none, good, bad)
abbrev pub verdict_text : Verdict → List ℕ
verdict_text None = text_of "none"
verdict_text Good = text_of "good"
verdict_text Bad = text_of "bad"

-- mended code in two capital hex digits, or -- where unreadable or not read
abbrev pub code_text : Reading → List ℕ
code_text reading = unwrap_or (option_map hex_of (code_of reading)) (text_of "--")

-- each block: count, state, CRC, code
unfoldable pub block_line : ℕ → Report → List ℕ
block_line count report =
    decimal_of count ++ text_of " " ++ standing_text report.standing ++ text_of " " ++ verdict_text report.verdict
    ++ text_of " " ++ code_text report.reading ++ text_of "\n"

-- each later place found gives its own "found" line; the last line is the octets left. No row refuses a step of a listing
abbrev pub line_text : Answer → ℕ → List ℕ
line_text (Ok (Block report)) count = block_line count report
line_text (Ok (Place p)) count = number_line "found " p
line_text (Ok (End left)) count = number_line "left " left
line_text (Err why) count = number_line "none " (number_of why)
