-- Document 01, 'BAS words' and 'Codes and bit places': how a code is written.
use Rattle.std.specs.Prelude.{ℕ, ◌+◌, ◌*◌, ◌/◌, ◌%◌}

-- a code is written (attribute b0b1b2)[value b3..b7]
abbrev pub attribute : ℕ → ℕ
attribute code = code / 32

abbrev pub value : ℕ → ℕ
value code = code % 32

abbrev pub written : ℕ → ℕ → ℕ
written attribute value = attribute * 32 + value

-- the attributes of audio and data; `lsd` is the data stream, H.221's low-speed data
abbrev pub audio_attribute : ℕ
audio_attribute = 0b000

abbrev pub lsd_attribute : ℕ
lsd_attribute = 0b011

-- (000)[0] is neutral
abbrev pub neutral : ℕ
neutral = written audio_attribute 0
