-- Laws of a line: how long it is.
use mathlib.Core.Path.{◌≡◌, refl}
use Prim.Native.String.{String}
use Prim.Native.Nat.{ℕ, ◌+◌, ◌*◌, ◌≤◌, ◌<◌}
use native.Mathlib.Omega.{arith}
use lib.ListN.{length, length-append}
use Rattle.bits.specs.Bits.{digit}
use Rattle.words.specs.declared.Reading.{Reading}
use Rattle.words.specs.declared.Reading.TheVariants.{Mended, Item, MessageWord, ForbiddenItem, NotFollowed, Unreadable, NotRead}
use Rattle.digits.specs.Digits.{hex_of}
use Rattle.text.specs.Words.{text_of}
use Rattle.digits.proofs.Decimal.{decimal_three, decimal_five}
use Rattle.track.specs.declared.Report.{Report}
use Rattle.track.specs.declared.Standing.{Standing}
use Rattle.track.specs.declared.Standing.TheVariants.{Waiting, Read, Lost}
use Rattle.track.specs.declared.Verdict.{Verdict}
use Rattle.track.specs.declared.Verdict.TheVariants.{None, Good, Bad}
use Rattle.recording.specs.Walk.{is_lost}
use Rattle.wording.specs.Lines.{number_line, standing_text, verdict_text, code_text, block_line}

standing_length : (report : Report) (q : Standing) → report.standing ≡ q → length (standing_text q) + 3 * digit (is_lost report) ≤ 7
unfolding text_of
standing_length report Waiting e = rw e (omega arith)
standing_length report Read e = rw e (omega arith)
standing_length report Lost e = rw e (omega arith)

verdict_length : (v : Verdict) → length (verdict_text v) ≤ 4
unfolding text_of
verdict_length None = omega arith
verdict_length Good = omega arith
verdict_length Bad = omega arith

code-length : (r : Reading) → length (code_text r) ≤ 2
unfolding text_of hex_of
code-length (Mended code) = omega arith
code-length (Item code) = omega arith
code-length (MessageWord code) = omega arith
code-length (ForbiddenItem code) = omega arith
code-length (NotFollowed code) = omega arith
code-length Unreadable = omega arith
code-length NotRead = omega arith

-- a line of a block has 20 octets at most, and of a lost one 17, which leaves room for the line of a place found after it
pub block-length : (count : ℕ) (report : Report) → count < 1000 → length (block_line count report) + 3 * digit (is_lost report) ≤ 20
unfolding block_line text_of
block-length count report h =
    simp length-append
    (omega (arith, decimal_three count h, standing_length report report.standing refl, verdict_length report.verdict, code-length report.reading))

-- a line of a word and a number, whatever the word
pub number-length : (word : String) (k n : ℕ) → length (text_of word) ≤ k → n < 100000 → length (number_line word n) ≤ k + 6
unfolding text_of
number-length word k n w h = simp length-append (omega (arith, w, decimal_five n h))

pub words_length : (length (text_of "found ") ≤ 6) × (length (text_of "left ") ≤ 5) × (length (text_of "none ") ≤ 5)
unfolding text_of
words_length = (omega arith, omega arith, omega arith)
