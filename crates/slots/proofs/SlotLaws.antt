-- What slots promise: a message ends after its words, an item after one, and what is due reads back as a state keeps it.
use mathlib.Core.Path.{◌≡◌, refl}
use mathlib.Core.List.{List, [], ◌∷◌}
use Prim.Native.Nat.{ℕ, suc, ◌-◌}
use native.Mathlib.Omega.{arith}
use lib.Dec.{eqb-suc-zero}
use lib.ListN.{length}
use Rattle.std.specs.Prelude.{Option}
use Rattle.slots.specs.Slots.{words_due, due_after, slot_of, due_of}
use Rattle.slots.specs.declared.Due.{Due}
use Rattle.slots.specs.declared.Due.TheVariants.{Plain, AnItem, N, Words}

-- a word of a message leaves one less
one_less : (left : ℕ) (word : Option ℕ) → due_after (words_due (suc left)) word ≡ words_due left
unfolding due_after
one_less left word =
    let less : suc left - 1 ≡ left = omega arith in
    rw (eqb-suc-zero left, eqb-suc-zero left, less)

-- what is due after some words
abbrev pub after_all : Due → List (Option ℕ) → Due
after_all due [] = due
after_all due (word ∷ words) = after_all (due_after due word) words

-- N words, readable or not, are the message: then a plain word is due
pub message_over : (words : List (Option ℕ)) → after_all (words_due (length words)) words ≡ Plain
message_over [] = refl
message_over (word ∷ words) = rw (one_less (length words) word) (message_over words)

-- an item is one word, whatever it says
pub item-over : (word : Option ℕ) → due_after AnItem word ≡ Plain
unfolding due_after
item-over word = refl

-- what is due, kept in a state, reads back
pub due-back : (due : Due) → due_of (slot_of due) ≡ due
due-back Plain = refl
due-back AnItem = refl
due-back N = refl
due-back (Words left) = refl
