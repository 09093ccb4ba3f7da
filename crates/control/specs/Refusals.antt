-- Document 01, 'Refusal numbers', rows 1 to 8.
use Rattle.std.specs.Prelude.{Bool, true, false, not, ◌&&◌, ◌||◌, List, [], ◌∷◌, ◌++◌, ℕ, eqb, Result, Ok, Err}
use Rattle.refusals.specs.Numbers.{number_of}
use Rattle.refusals.specs.Rows.{Ruling, row, first_given}
use Rattle.refusals.specs.declared.Refusal.TheVariants.{BadState, NotCarried, ForbiddenItem, AudioWhileMuted, Overlap}
use Rattle.refusals.specs.declared.Row.{Row}
use Rattle.refusals.specs.declared.Refusal.{Refusal}
use Rattle.buffers.specs.Buffers.{Each}
use Rattle.buffers.specs.Lengths.{line_row, stream_rows}
use Rattle.modes.specs.Owners.{overlaps}
use Rattle.modes.specs.Modes.{with_audio, with_lsd}
use Rattle.codes.specs.Codes.{attribute, value, audio_attribute, lsd_attribute}
use Rattle.codes.specs.Carried.{sender_carries}
use Rattle.sender.specs.State.{chosen_mode, state_in_range}
use Rattle.control.specs.Rules.{rule_of}
use Rattle.sender.specs.declared.Sender.{Sender}
use Rattle.control.specs.declared.Call.{Call}
use Rattle.control.specs.declared.Rule.{Rule}
use Rattle.control.specs.declared.Rule.TheVariants.{AsItem, MuteOff, Release, Offered}
use Rattle.control.specs.declared.Went.{Went}
use Rattle.control.specs.declared.Went.TheVariants.{Sent, Held}

-- an offered code is an audio command, (000)[0] and (000)[31] too; it is a data command
abbrev pub is_audio : ℕ → Bool
is_audio code = eqb (attribute code) audio_attribute

abbrev pub is_lsd : ℕ → Bool
is_lsd code = eqb (attribute code) lsd_attribute

-- an audio command overlaps data in force, or a data command overlaps chosen audio (DECISIONS S9, F47)
unfoldable pub clashes : Sender → ℕ → Bool
clashes s code =
    is_audio code && overlaps (with_audio s.mode (value code)) || is_lsd code && overlaps (with_lsd (chosen_mode s) (value code))

-- rows 5 to 8 look only at an offered code that is not held; 5, 7 and 8 only where no item is due (DECISIONS S3, S5)
abbrev pub goes_plain : Rule → Bool
goes_plain AsItem = false
goes_plain MuteOff = false
goes_plain Release = false
goes_plain Offered = true

abbrev pub goes_as_item : Rule → Bool
goes_as_item AsItem = true
goes_as_item MuteOff = false
goes_as_item Release = false
goes_as_item Offered = false

-- the rows of a call with a line block and buffers of these lengths, in their order
abbrev pub rows : Sender → Call → ℕ → Each ℕ → List Row
rows s c line n =
    let rule = rule_of s c.mute in
    row BadState (not (state_in_range s))
    ∷ line_row line
    ∷ stream_rows n
    ++ row NotCarried (goes_plain rule && not (sender_carries c.code))
    ∷ row ForbiddenItem (goes_as_item rule && eqb (attribute c.code) 0b111)
    ∷ row AudioWhileMuted (goes_plain rule && is_audio c.code && c.mute)
    ∷ row Overlap (goes_plain rule && clashes s c.code)
    ∷ []

unfoldable pub ruling_of : Sender → Call → ℕ → Each ℕ → Ruling
ruling_of s c line n = first_given (rows s c line n)

-- what a call answers: what became of the offered code, or a refusal
abbrev pub Answer : Type 0
Answer = Result Went Refusal

-- what an answer stands for: its kind, sent, held or refused; and the number of the refusal, 0 where nothing is refused
abbrev pub kind_of : Answer → ℕ
kind_of (Ok Sent) = 0
kind_of (Ok Held) = 1
kind_of (Err r) = 2

abbrev pub number_in : Answer → ℕ
number_in (Ok w) = 0
number_in (Err r) = number_of r
