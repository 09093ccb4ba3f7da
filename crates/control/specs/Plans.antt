-- Document 01, 'Sending a block': what each rule sends and answers, and what it leaves of the state. One clause for each rule.
use Rattle.std.specs.Prelude.{ℕ, Some}
use Rattle.modes.specs.Modes.{audio_off, with_audio}
use Rattle.modes.specs.declared.Mode.{Mode}
use Rattle.codes.specs.Codes.{written, audio_attribute}
use Rattle.codes.specs.Commands.{command_of, offered}
use Rattle.slots.specs.Slots.{due_after, slot_of}
use Rattle.slots.specs.declared.Due.TheVariants.{Plain}
use Rattle.sender.specs.State.{chosen_mode}
use Rattle.sender.specs.declared.Sender.{Sender}
use Rattle.control.specs.declared.Rule.{Rule}
use Rattle.control.specs.declared.Rule.TheVariants.{AsItem, MuteOff, Release, Offered}
use Rattle.control.specs.declared.Went.{Went}
use Rattle.control.specs.declared.Went.TheVariants.{Sent, Held}
use Rattle.control.specs.declared.Plan.{Plan}

abbrev plan : ℕ → Went → ℕ → Mode → ℕ → Plan
plan word went chosen mode due = record { word = word; went = went; chosen = chosen; mode = mode; due = due }

-- an item acts on nothing; mute's "audio off" turns only in force off, and the chosen command only puts chosen in force; in these two
-- cases the offered code is held. An offered audio command sets chosen and in force together (DECISIONS S6, S7). What is due after an
-- offered code is what is due after a plain word, as the kind of its slot
unfoldable pub plan_by : Rule → Sender → ℕ → Plan
plan_by AsItem s code = plan code Sent s.chosen s.mode 0
plan_by MuteOff s code = plan (written audio_attribute audio_off) Held s.chosen (with_audio s.mode audio_off) 0
plan_by Release s code = plan (written audio_attribute s.chosen) Held s.chosen (chosen_mode s) 0
plan_by Offered s code =
    let command = command_of code in
    plan code Sent (offered command (chosen_mode s)).audio (offered command s.mode) (slot_of (due_after Plain (Some code))).kind
