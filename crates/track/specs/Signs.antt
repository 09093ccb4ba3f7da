-- Document 01, 'Reading a block': what a block shows in its service channel, and its remainder.
use Rattle.std.specs.Prelude.{cond, List, ℕ, leb, Option, None}
use Rattle.crc.specs.Crc.{block_crc_of}
use Rattle.bas.specs.Reading.{reading_of}
use Rattle.service.specs.Channel.{wrong_bits, odd_first, c_bits, bas_word}
use Rattle.track.specs.declared.Signs.{Signs}

-- BAS read if at most two of the eight alignment bits are wrong, else unreadable
abbrev pub word_in : ℕ → List ℕ → Option ℕ
word_in wrong line = cond (leb wrong 2) (reading_of (bas_word line)) None

abbrev pub signs_of : List ℕ → Signs
signs_of line =
    record {
      wrong = wrong_bits line;
      c = c_bits line;
      first = odd_first line;
      word = word_in (wrong_bits line) line;
      remainder = block_crc_of line;
    }
