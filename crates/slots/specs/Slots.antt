-- Document 01, 'Slots': what each word makes of the word after it.
use Rattle.std.specs.Prelude.{ℕ, ◌-◌, Bool, true, false, cond, eqb, Option, Some, None}
use Rattle.codes.specs.Carried.{opening_of}
use Rattle.codes.specs.declared.Opening.{Opening}
use Rattle.codes.specs.declared.Opening.TheVariants.{Nothing, Item, Message}
use Rattle.slots.specs.declared.Due.{Due}
use Rattle.slots.specs.declared.Due.TheVariants.{Plain, AnItem, N, Words}
use Rattle.slots.specs.declared.Slot.{Slot}

-- (111)[0] to [23] make the next word an item; [24] stands alone; [25] to [31] open a message: the next word is N
abbrev pub due_by : Opening → Due
due_by Nothing = Plain
due_by Item = AnItem
due_by Message = N

-- then N words; a message with none left is over (DECISIONS R11, R27)
abbrev pub words_due : ℕ → Due
words_due words = cond (eqb words 0) Plain (Words words)

abbrev pub due_now : Due → Due
due_now Plain = Plain
due_now AnItem = AnItem
due_now N = N
due_now (Words left) = words_due left

-- an item is due
abbrev pub is_item : Due → Bool
is_item Plain = false
is_item AnItem = true
is_item N = false
is_item (Words left) = false

-- an unreadable word fills its slot; if it was N, N is taken as 255
abbrev pub length_in : Option ℕ → ℕ
length_in (Some n) = n
length_in None = 255

-- elsewhere it is a filler
abbrev pub opening_in : Option ℕ → Opening
opening_in (Some code) = opening_of code
opening_in None = Nothing

-- one word per block, None where it is unreadable: what is due after it. An item opens nothing, whatever it says
abbrev pub due_after_now : Due → Option ℕ → Due
due_after_now Plain word = due_by (opening_in word)
due_after_now AnItem word = Plain
due_after_now N word = words_due (length_in word)
due_after_now (Words left) word = words_due (left - 1)

unfoldable pub due_after : Due → Option ℕ → Due
due_after due word = due_after_now (due_now due) word

-- how a state holds what is due; every value of its two numbers says something
abbrev slot : ℕ → ℕ → Slot
slot kind words = record { kind = kind; words = words }

abbrev pub slot_of : Due → Slot
slot_of Plain = slot 0 0
slot_of AnItem = slot 1 0
slot_of N = slot 2 0
slot_of (Words left) = slot 3 left

abbrev pub due_of : Slot → Due
due_of s = cond (eqb s.kind 0) Plain (cond (eqb s.kind 1) AnItem (cond (eqb s.kind 2) N (Words s.words)))
