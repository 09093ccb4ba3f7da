-- Document 01, 'Sending a block' (what is carried when plain) and 'Slots' (what a code makes of the words after it).
use Rattle.std.specs.Prelude.{Bool, cond, ◌&&◌, ◌||◌, ℕ, leb, eqb}
use Rattle.table.specs.Table.{listed_audio, listed_lsd}
use Rattle.numbers.specs.Numbers.{within}
use Rattle.codes.specs.Codes.{attribute, value, written, audio_attribute, lsd_attribute}
use Rattle.codes.specs.declared.Opening.{Opening}
use Rattle.codes.specs.declared.Opening.TheVariants.{Nothing, Item, Message}

-- carried when plain: the audio and data codes, (001)[0], all of (100), (101), (110), (111)[15] to [20] and [24]
unfoldable pub carried : ℕ → Bool
carried code =
    eqb (attribute code) audio_attribute && listed_audio (value code)
    || eqb (attribute code) lsd_attribute && listed_lsd (value code)
    || eqb code (written 0b001 0)
    || within 0b100 0b110 (attribute code)
    || eqb (attribute code) 0b111 && (within 15 20 (value code) || eqb (value code) 24)

-- the sender's list and the reader's: two names, one list (DECISIONS F7)
unfoldable pub sender_carries : ℕ → Bool
sender_carries code = carried code

unfoldable pub reader_carries : ℕ → Bool
reader_carries code = carried code

-- (111)[0] to [23] make the next word an item; [24] stands alone; [25] to [31] open a message. No other code opens anything
unfoldable pub opening_of : ℕ → Opening
opening_of code =
    cond (eqb (attribute code) 0b111)
    (cond (leb (value code) 23) Item (cond (eqb (value code) 24) Nothing Message))
    Nothing
