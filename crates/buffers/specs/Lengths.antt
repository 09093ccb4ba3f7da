-- Document 01, 'Codes and bit places' and 'Refusal numbers', rows 2 to 4: how many octets a line block and the streams' buffers have.
use Rattle.std.specs.Prelude.{Bool, not, ◌&&◌, List, [], ◌∷◌, ℕ, eqb, replicate}
use Rattle.refusals.specs.Rows.{row}
use Rattle.refusals.specs.declared.Row.{Row}
use Rattle.refusals.specs.declared.Refusal.TheVariants.{LineLength, VoiceLength, LsdLength}
use Rattle.buffers.specs.Buffers.{Each, each, Buffers}

-- a line block is 160 octets, a voice buffer 140, a data buffer 156
abbrev pub line_octets : ℕ
line_octets = 160

abbrev pub stream_octets : Each ℕ
stream_octets = each 140 156

-- buffers of these lengths, all zero
abbrev pub zeroed : Buffers
zeroed = each (replicate stream_octets.voice 0) (replicate stream_octets.lsd 0)

unfoldable pub fitting : ℕ → Each ℕ → Bool
fitting line n = eqb line line_octets && eqb n.voice stream_octets.voice && eqb n.lsd stream_octets.lsd

-- row 2: line block not 160 octets
abbrev pub line_row : ℕ → Row
line_row line = row LineLength (not (eqb line line_octets))

-- rows 3 and 4: voice not 140, data not 156 octets
abbrev pub stream_rows : Each ℕ → List Row
stream_rows n =
    row VoiceLength (not (eqb n.voice stream_octets.voice)) ∷ row LsdLength (not (eqb n.lsd stream_octets.lsd)) ∷ []
