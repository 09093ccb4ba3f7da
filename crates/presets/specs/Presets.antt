-- Document 01, 'Preset': 16 bits, most significant first: audio value (5), data value (5), six zeros.
use Rattle.std.specs.Prelude.{Bool, not, ◌&&◌, List, [], ◌∷◌, ℕ, ◌+◌, ◌*◌, ◌/◌, ◌%◌, eqb, Result, Ok, Err}
use Rattle.modes.specs.Modes.{audio_off, lsd_off, mode, in_range}
use Rattle.codes.specs.Codes.{written, lsd_attribute}
use Rattle.sender.specs.State.{state_in_range, fresh_with}
use Rattle.refusals.specs.Numbers.{number_of}
use Rattle.refusals.specs.Rows.{Ruling, row, first_given}
use Rattle.sender.specs.declared.Sender.{Sender}
use Rattle.refusals.specs.declared.Row.{Row}
use Rattle.refusals.specs.declared.Refusal.{Refusal}
use Rattle.refusals.specs.declared.Refusal.TheVariants.{BadState, NotAPreset}
use Rattle.presets.specs.declared.PresetRead.{PresetRead}
use Rattle.presets.specs.declared.PresetUnread.{PresetUnread}

abbrev pub preset_of : ℕ → ℕ → ℕ
preset_of audio lsd = audio * 2048 + lsd * 64

abbrev pub audio_in : ℕ → ℕ
audio_in bits = bits / 2048

abbrev pub lsd_in : ℕ → ℕ
lsd_in bits = bits / 64 % 32

-- only listed values without overlap, audio [0] not, and six zeros
unfoldable pub is_preset : ℕ → Bool
is_preset bits = in_range (mode (audio_in bits) (lsd_in bits)) && eqb (bits % 64) 0

-- the rows of reading one, and of writing one
abbrev pub read_rows : ℕ → List Row
read_rows bits = row NotAPreset (not (is_preset bits)) ∷ []

abbrev pub written_rows : Sender → List Row
written_rows s = row BadState (not (state_in_range s)) ∷ []

-- reading one gives a fresh state with that chosen audio, and the data code to offer; a refused one a fresh state and "data off" (DECISIONS P3, P6)
abbrev pub read_by : Ruling → ℕ → Result PresetRead PresetUnread
read_by (Err why) bits = Err (record { why = why; state = fresh_with audio_off; offer = written lsd_attribute lsd_off })
read_by (Ok u) bits = Ok (record { state = fresh_with (audio_in bits); offer = written lsd_attribute (lsd_in bits) })

unfoldable pub preset_read : ℕ → Result PresetRead PresetUnread
preset_read bits = read_by (first_given (read_rows bits)) bits

-- writing one takes the chosen audio and the data in force (DECISIONS P2)
abbrev pub written_by : Ruling → Sender → Result ℕ Refusal
written_by (Err why) s = Err why
written_by (Ok u) s = Ok (preset_of s.chosen s.mode.lsd)

unfoldable pub preset_written : Sender → Result ℕ Refusal
preset_written s = written_by (first_given (written_rows s)) s

-- what an answer stands for: the number of the refusal, 0 where a preset is read or written; and the bits written, 0 where there are none
abbrev pub preset_number : Result PresetRead PresetUnread → ℕ
preset_number (Ok p) = 0
preset_number (Err u) = number_of u.why

abbrev pub written_number : Result ℕ Refusal → ℕ
written_number (Ok bits) = 0
written_number (Err r) = number_of r

abbrev pub written_bits : Result ℕ Refusal → ℕ
written_bits (Ok bits) = bits
written_bits (Err r) = 0
