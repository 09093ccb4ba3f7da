-- Document 01, 'Reading a block', steps 1 to 4, each sentence by itself.
use Rattle.std.specs.Prelude.{Bool, cond, ℕ, ◌+◌, ◌*◌, ◌%◌, eqb, Option}
use Rattle.bits.specs.Bits.{digit}
use Rattle.numbers.specs.Numbers.{following}
use Rattle.numbers.specs.declared.BlockNumber.{BlockNumber}
use Rattle.modes.specs.declared.Mode.{Mode}
use Rattle.slots.specs.Slots.{due_now, due_after, due_of}
use Rattle.words.specs.Readings.{reading_in}
use Rattle.slots.specs.declared.Due.{Due}
use Rattle.slots.specs.declared.Due.TheVariants.{Plain}
use Rattle.words.specs.declared.Reading.{Reading}
use Rattle.words.specs.declared.Reading.TheVariants.{NotRead}
use Rattle.reader.specs.State.{block, unknown, known}
use Rattle.reader.specs.declared.Reader.{Reader}
use Rattle.track.specs.declared.Signs.{Signs}
use Rattle.track.specs.declared.Multiframe.{Multiframe}
use Rattle.track.specs.declared.Standing.{Standing}
use Rattle.track.specs.declared.Standing.TheVariants.{Waiting, Read, Lost}
use Rattle.track.specs.declared.Verdict.{Verdict}
use Rattle.track.specs.declared.Verdict.TheVariants.{None, Good, Bad}

-- ---- 1. alignment
-- a wrong one is one more in a row, and a right one ends the run
abbrev pub counted : ℕ → Bool → ℕ
counted run right = cond right 0 (run + 1)

-- alignment word wrong in any bit: one more in a row
abbrev pub wrong_run : Reader → Signs → ℕ
wrong_run s g = counted s.wrong (eqb g.wrong 0)

-- the mode as it was before the first of a run: as that block found it (DECISIONS R3)
abbrev pub mode_before : Reader → Mode
mode_before s = cond (eqb s.wrong 0) s.mode s.kept

-- what is kept of it: while the words are right, the mode in force (DECISIONS R26)
abbrev pub kept_after : Reader → ℕ → Mode → Mode
kept_after s wrong m = cond (eqb wrong 0) m (mode_before s)

-- ---- 2. CRC verdict
-- every block but the first after alignment: good if C bits equal the remainder of the block before, else bad
abbrev pub verdict_of : Reader → ℕ → Verdict
verdict_of s c = cond (eqb s.before 0) None (cond (eqb c s.remainder) Good Bad)

-- what a verdict stands for, in the order of the listing's words: none, good, bad
abbrev pub verdict_number : Verdict → ℕ
verdict_number None = 0
verdict_number Good = 1
verdict_number Bad = 2

-- ---- 3. streams and word
abbrev pub standing_of : Reader → Standing
standing_of s = cond (known s) Read Waiting

-- what a block's standing stands for, in the order of the listing's words: waiting, read, lost
abbrev pub standing_number : Standing → ℕ
standing_number Waiting = 0
standing_number Read = 1
standing_number Lost = 2

-- multiframe place known at entry: the word is read in its slot. Unknown: it is not read
abbrev pub word_read : Reader → Option ℕ → Reading
word_read s word = cond (known s) (reading_in (due_of s.slot) word) NotRead

abbrev pub due_read : Reader → Option ℕ → Due
due_read s word = cond (known s) (due_after (due_of s.slot) word) (due_now (due_of s.slot))

-- ---- 4. the multiframe place
-- the last six odd-frame first bits: of those before the oldest goes, and this block's comes last, the place known or not (DECISIONS R18)
abbrev pub six_after : ℕ → Bool → ℕ
six_after firsts first = firsts % 32 * 2 + digit first

-- the six are 001011
abbrev pub spelled : ℕ → Bool
spelled six = eqb six 0b001011

abbrev multiframe : BlockNumber → ℕ → Due → Multiframe
multiframe b misses due = record { block = b; misses = misses; due = due }

-- unknown place: when the last six are 001011, the next block is block 7 of 8
abbrev pub sought : Bool → BlockNumber
sought right = cond right (block 7) unknown

-- known: after block 6 the six are compared; third wrong in a row makes the place unknown, slots and that run start afresh (DECISIONS R19,
-- R20)
abbrev pub compared : ℕ → Bool → Due → Multiframe
compared misses right due =
    let run = counted misses right in
    cond (eqb run 3) (multiframe unknown 0 Plain) (multiframe (block 7) run due)

unfoldable pub multiframe_after : Reader → Bool → Due → Multiframe
multiframe_after s right due =
    cond (known s)
    (cond (eqb s.block.0 6) (compared s.misses right due) (multiframe (following s.block) s.misses due))
    (multiframe (sought right) s.misses due)
