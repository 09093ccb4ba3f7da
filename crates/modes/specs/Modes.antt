-- Document 01, 'Codes and bit places', 'Sending a block' and 'Reading a block': the mode in force, what is changed in one, and which modes are
-- in range.
use Rattle.std.specs.Prelude.{Bool, not, cond, ◌&&◌, List, [], ◌∷◌, ℕ, eqb}
use Rattle.table.specs.Table.{listed_audio, listed_lsd}
use Rattle.modes.specs.Owners.{streams, without, held_by, clash, overlaps}
use Rattle.modes.specs.declared.Mode.{Mode}
use Rattle.modes.specs.declared.Owner.{Owner}
use Rattle.modes.specs.declared.Owner.TheVariants.{Service, Voice, Lsd, Nobody}

-- audio off is [31], data off is [0]
abbrev pub audio_off : ℕ
audio_off = 31

abbrev pub lsd_off : ℕ
lsd_off = 0

-- everything off
abbrev pub off : Mode
off = record { audio = audio_off; lsd = lsd_off }

-- a mode with another audio value, and with another data value
abbrev pub with_audio : Mode → ℕ → Mode
with_audio m v = record { audio = v; lsd = m.lsd }

abbrev pub with_lsd : Mode → ℕ → Mode
with_lsd m v = record { audio = m.audio; lsd = v }

-- these two values, and all else off
abbrev pub mode : ℕ → ℕ → Mode
mode audio lsd = with_lsd (with_audio off audio) lsd

-- the two are one mode
abbrev pub same_mode : Mode → Mode → Bool
same_mode m n = eqb m.audio n.audio && eqb m.lsd n.lsd

-- a stream turned off
abbrev pub turned_off : Owner → Mode → Mode
turned_off Service m = m
turned_off Voice m = with_audio m audio_off
turned_off Lsd m = with_lsd m lsd_off
turned_off Nobody m = m

-- stream s turned off where it clashes with stream o
unfoldable pub given_way : Owner → Owner → Mode → Mode
given_way o s m = cond (clash (held_by m o) (held_by m s)) (turned_off s m) m

-- each of these streams turned off that clashes with stream o
abbrev pub all_given_way : Owner → List Owner → Mode → Mode
all_given_way o [] m = m
all_given_way o (s ∷ ss) m = given_way o s (all_given_way o ss m)

-- room for stream o: every other stream turned off that clashes with it
unfoldable pub cleared : Owner → Mode → Mode
cleared o m = all_given_way o (without o streams) m

-- a mode holds listed codes, audio never as [0], that do not overlap
unfoldable pub in_range : Mode → Bool
in_range m = listed_audio m.audio && not (eqb m.audio 0) && listed_lsd m.lsd && not (overlaps m)
