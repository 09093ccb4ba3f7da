-- Document 01, 'Sending a block': the sender's state, when it is in range, and the fresh one.
use Rattle.std.specs.Prelude.{Bool, not, cond, ◌&&◌, ◌||◌, ℕ, eqb, leb}
use Rattle.numbers.specs.Numbers.{within}
use Rattle.modes.specs.Modes.{audio_off, off, with_audio, in_range}
use Rattle.modes.specs.declared.Mode.{Mode}
use Rattle.slots.specs.declared.Due.{Due}
use Rattle.slots.specs.declared.Due.TheVariants.{Plain, AnItem}
use Rattle.sender.specs.declared.Sender.{Sender}

-- the word that is due: an item where the number is not 0, else a plain word (DECISIONS F46). A sender opens no message
abbrev pub word_due : Sender → Due
word_due s = cond (not (eqb s.due 0)) AnItem Plain

-- some audio is in force; some audio is chosen
abbrev pub sounding : Sender → Bool
sounding s = not (eqb s.mode.audio audio_off)

abbrev pub choosing : Sender → Bool
choosing s = not (eqb s.chosen audio_off)

-- the mode that is chosen: that in force, with the chosen audio
abbrev pub chosen_mode : Sender → Mode
chosen_mode s = with_audio s.mode s.chosen

-- in force is off or equals chosen
abbrev pub follows : Sender → Bool
follows s = eqb s.mode.audio audio_off || eqb s.mode.audio s.chosen

-- a state without an unlisted code or audio [0], a remainder over 15 or a block number outside 1 to 8, and with both of its rules:
-- in force is off or equals chosen, and chosen never overlaps data
unfoldable pub state_in_range : Sender → Bool
state_in_range s = in_range (chosen_mode s) && follows s && within 1 8 s.block.0 && leb s.remainder 15

-- fresh but for the chosen audio: in force and data off, block 1 of 8 next, no word due, remainder 0000
abbrev pub fresh_with : ℕ → Sender
fresh_with audio =
    record { chosen = audio; mode = off; block = record { 0 = 1 }; due = 0; remainder = 0 }
