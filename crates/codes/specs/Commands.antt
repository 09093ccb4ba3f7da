-- Document 01, 'Codes and bit places', 'Sending a block' and 'Reading a block': what a command does to a mode.
use Rattle.std.specs.Prelude.{cond, ◌&&◌, ℕ, eqb}
use Rattle.table.specs.Table.{listed_audio, listed_lsd}
use Rattle.modes.specs.Modes.{off, with_audio, with_lsd, cleared}
use Rattle.modes.specs.declared.Mode.{Mode}
use Rattle.modes.specs.declared.Owner.TheVariants.{Voice, Lsd}
use Rattle.codes.specs.Codes.{attribute, value, audio_attribute, lsd_attribute, neutral}
use Rattle.codes.specs.declared.Command.{Command}
use Rattle.codes.specs.declared.Command.TheVariants.{Neutral, SetAudio, SetLsd, NoEffect}

-- what a code is as a command; every code but neutral, listed audio and listed data has no effect on the mode
unfoldable pub command_of : ℕ → Command
command_of code =
    cond (eqb code neutral) Neutral
    (cond (eqb (attribute code) audio_attribute && listed_audio (value code)) (SetAudio (value code))
    (cond (eqb (attribute code) lsd_attribute && listed_lsd (value code)) (SetLsd (value code))
    NoEffect))

-- what a command that the sender takes puts in force; neutral turns everything off
unfoldable pub offered : Command → Mode → Mode
offered Neutral m = off
offered (SetAudio v) m = with_audio m v
offered (SetLsd v) m = with_lsd m v
offered NoEffect m = m

-- what a command does at the reader: every other stream that the stream set by it overlaps is turned off (DECISIONS R16)
unfoldable pub followed : Command → Mode → Mode
followed Neutral m = off
followed (SetAudio v) m = cleared Voice (with_audio m v)
followed (SetLsd v) m = cleared Lsd (with_lsd m v)
followed NoEffect m = m
