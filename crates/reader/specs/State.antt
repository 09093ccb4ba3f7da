-- Document 01, 'Reading a block': the reader's state, when it is in range, and the fresh one.
use Rattle.std.specs.Prelude.{Bool, not, ◌&&◌, ℕ, eqb, leb}
use Rattle.modes.specs.Modes.{in_range}
use Rattle.numbers.specs.declared.BlockNumber.{BlockNumber}
use Rattle.modes.specs.declared.Mode.{Mode}
use Rattle.slots.specs.Slots.{slot_of}
use Rattle.slots.specs.declared.Due.TheVariants.{Plain}
use Rattle.reader.specs.declared.Reader.{Reader}

-- the multiframe place is known, or it is held as block 0
abbrev pub block : ℕ → BlockNumber
block n = record { 0 = n }

abbrev pub unknown : BlockNumber
unknown = block 0

abbrev pub known : Reader → Bool
known s = not (eqb s.block.0 0)

-- a state whose modes hold listed codes (audio never [0]) that do not overlap, whose runs are at most 2, whose remainder is at most 15,
-- and whose block number is 1 to 8 or unknown. That at most 255 message words are due needs no test: an octet holds no more
unfoldable pub state_in_range : Reader → Bool
state_in_range s =
    in_range s.mode && in_range s.kept && leb s.wrong 2 && leb s.misses 2 && leb s.remainder 15 && leb s.block.0 8

-- fresh but for the mode: place unknown, no word due, no run of wrong patterns and no block before. No first bits have come: they are
-- held as ones, and since 001011 begins with 0 it cannot be spelled before six have (DECISIONS R5, R29)
abbrev pub fresh_in : Mode → Reader
fresh_in m =
    record {
      mode = m;
      kept = m;
      wrong = 0;
      block = unknown;
      firsts = 0b111111;
      misses = 0;
      slot = slot_of Plain;
      before = 0;
      remainder = 0;
    }
