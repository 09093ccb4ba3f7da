-- Document 01, 'Slots' and 'Reading a block': the reading of a word in its slot, and what it does to the mode.
use Rattle.std.specs.Prelude.{not, cond, ◌&&◌, ℕ, leb, eqb, Option, Some, None, unwrap_or}
use Rattle.modes.specs.declared.Mode.{Mode}
use Rattle.codes.specs.Codes.{attribute}
use Rattle.codes.specs.Carried.{reader_carries}
use Rattle.codes.specs.Commands.{command_of, followed}
use Rattle.slots.specs.Slots.{due_now}
use Rattle.slots.specs.declared.Due.{Due}
use Rattle.slots.specs.declared.Due.TheVariants.{Plain, AnItem, N, Words}
use Rattle.words.specs.declared.Reading.{Reading}
use Rattle.words.specs.declared.Reading.TheVariants.{Mended, Item, MessageWord, ForbiddenItem, NotFollowed, Unreadable, NotRead}

-- plain words of attributes 000 to 011 outside the carried list are named not followed (DECISIONS R14)
abbrev pub plain_reading : ℕ → Reading
plain_reading code = cond (leb (attribute code) 0b011 && not (reader_carries code)) (NotFollowed code) (Mended code)

-- an item with attribute 111 is reported forbidden, and opens nothing (DECISIONS R12)
abbrev pub item_reading : ℕ → Reading
item_reading code = cond (eqb (attribute code) 0b111) (ForbiddenItem code) (Item code)

-- the reading of a code by what was due
abbrev pub code_reading : Due → ℕ → Reading
code_reading Plain code = plain_reading code
code_reading AnItem code = item_reading code
code_reading N code = MessageWord code
code_reading (Words left) code = MessageWord code

unfoldable pub reading_in : Due → Option ℕ → Reading
reading_in due (Some code) = code_reading (due_now due) code
reading_in due None = Unreadable

-- items and message words are no commands, and a word that is not followed changes nothing
unfoldable pub obeyed : Reading → Mode → Mode
obeyed (Mended code) m = followed (command_of code) m
obeyed (Item code) m = m
obeyed (MessageWord code) m = m
obeyed (ForbiddenItem code) m = m
obeyed (NotFollowed code) m = m
obeyed Unreadable m = m
obeyed NotRead m = m

-- what a reading stands for: its kind, in document 01's order: mended code, item, message word, forbidden item, not followed, unreadable,
-- or not read; and the code that was read, 0 where there is none
abbrev pub reading_kind : Reading → ℕ
reading_kind (Mended code) = 0
reading_kind (Item code) = 1
reading_kind (MessageWord code) = 2
reading_kind (ForbiddenItem code) = 3
reading_kind (NotFollowed code) = 4
reading_kind Unreadable = 5
reading_kind NotRead = 6

-- the code inside a reading
abbrev pub code_of : Reading → Option ℕ
code_of (Mended code) = Some code
code_of (Item code) = Some code
code_of (MessageWord code) = Some code
code_of (ForbiddenItem code) = Some code
code_of (NotFollowed code) = Some code
code_of Unreadable = None
code_of NotRead = None

abbrev pub reading_code : Reading → ℕ
reading_code reading = unwrap_or (code_of reading) 0
