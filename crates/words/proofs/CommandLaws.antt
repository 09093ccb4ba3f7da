-- Nothing in an item or a message is a command.
use mathlib.Core.Path.{◌≡◌, refl}
use mathlib.Core.Bool.{Bool, true, false, cond}
use Prim.Native.Nat.{ℕ, suc}
use lib.Dec.{eqb, eqb-suc-zero}
use Rattle.std.specs.Prelude.{Option, Some, None}
use Rattle.modes.specs.declared.Mode.{Mode}
use Rattle.codes.specs.Codes.{attribute}
use Rattle.slots.specs.declared.Due.TheVariants.{AnItem, N, Words}
use Rattle.words.specs.Readings.{reading_in, obeyed}
use Rattle.words.specs.declared.Reading.TheVariants.{Item, ForbiddenItem}

-- an item is no command
pub item_no_command : (word : Option ℕ) (m : Mode) → obeyed (reading_in AnItem word) m ≡ m
unfolding reading_in obeyed
item_no_command None m = refl
item_no_command (Some code) m = go (eqb (attribute code) 0b111)
  where
    go : (b : Bool) → obeyed (cond b (ForbiddenItem code) (Item code)) m ≡ m
    go true = refl
    go false = refl

-- nor are N and the words of a message
pub n_no_command : (word : Option ℕ) (m : Mode) → obeyed (reading_in N word) m ≡ m
unfolding reading_in obeyed
n_no_command None m = refl
n_no_command (Some code) m = refl

pub message_no_command : (left : ℕ) (word : Option ℕ) (m : Mode) → obeyed (reading_in (Words (suc left)) word) m ≡ m
unfolding reading_in obeyed
message_no_command left None m = refl
message_no_command left (Some code) m = rw (eqb-suc-zero left)
