-- A block read on a state in range leaves one in range.
use mathlib.Core.Path.{◌≡◌, refl}
use mathlib.Core.Bool.{Bool, true, false, cond}
use mathlib.Core.List.{List}
use Prim.Native.Nat.{ℕ, ◌+◌, ◌≤◌}
use native.Mathlib.Omega.{arith}
use lib.Dec.{eqb, leb}
use borrow.Author.Tests.{eqb-false, leb-true}
use Rattle.crc.proofs.CrcLaws.{crc-low}
use Rattle.bits.proofs.BoolLaws.{and_right}
use Rattle.numbers.specs.Numbers.{following}
use Rattle.numbers.proofs.NumberLaws.{following-low}
use Rattle.modes.specs.Modes.{in_range}
use Rattle.words.specs.Readings.{obeyed}
use Rattle.slots.specs.declared.Due.{Due}
use Rattle.slots.specs.declared.Due.TheVariants.{Plain}
use Rattle.words.proofs.RangeLaws.{obeyed_in_range}
use Rattle.reader.specs.State.{known, state_in_range, fresh_in}
use Rattle.track.specs.Signs.{signs_of}
use Rattle.track.specs.Parts.{counted, wrong_run, mode_before, word_read, sought, compared, multiframe_after}
use Rattle.track.specs.Step.{next_of, step_of}
use Rattle.reader.specs.declared.Reader.{Reader}
use Rattle.track.specs.declared.Signs.{Signs}
use Rattle.track.specs.declared.Multiframe.{Multiframe}
use Rattle.reader.proofs.StateLaws.{Kept, kept, keeps}

-- ---- runs, modes and places
-- a run that is not at 3 now is at most 2
low_run : (run : ℕ) (right : Bool) → run ≤ 2 → eqb (counted run right) 3 ≡ false → counted run right ≤ 2
low_run run true l e = omega arith
low_run run false l e = let n = eqb-false (run + 1) 3 e in omega arith

before-kept : (s : Reader) → Kept s → in_range (mode_before s) ≡ true
before-kept s k = go (eqb s.wrong 0)
  where
    go : (b : Bool) → in_range (cond b s.mode s.kept) ≡ true
    go true = k.force
    go false = k.back

fresh_kept : (s : Reader) → Kept s → Kept (fresh_in (mode_before s))
fresh_kept s k =
    let m = before-kept s k in
    record { force = m; back = m; wrong-low = omega arith; misses_low = omega arith; rest = refl; place = omega arith }

Low : Multiframe → Type 0
Low p = (p.misses ≤ 2) × (p.block.0 ≤ 8)

compared-low : (misses : ℕ) (right : Bool) (due : Due) → misses ≤ 2 → Low (compared misses right due)
unfolding Low
compared-low misses right due l = go (eqb (counted misses right) 3) refl
  where
    go : (b : Bool) → eqb (counted misses right) 3 ≡ b
        → Low (cond b (record { block = record { 0 = 0 }; misses = 0; due = Plain }) (record { block = record { 0 = 7 }; misses = counted misses right; due = due }))
    go true e = (omega arith, omega arith)
    go false e = (low_run misses right l e, omega arith)

sought-low : (right : Bool) → (sought right).0 ≤ 8
sought-low true = omega arith
sought-low false = omega arith

place-low : (s : Reader) (right : Bool) (due : Due) → s.misses ≤ 2 → Low (multiframe_after s right due)
unfolding Low multiframe_after
place-low s right due l = go (known s) (eqb s.block.0 6)
  where
    go : (k six : Bool)
        → Low (cond k (cond six (compared s.misses right due) (record { block = following s.block; misses = s.misses; due = due })) (record { block = sought right; misses = s.misses; due = due }))
    go true true = compared-low s.misses right due l
    go true false =
        let n = (following s.block).0 in
        (l, leb-true n 8 (and_right (leb 1 n) (leb n 8) (following-low s.block)))
    go false six = (l, sought-low right)

-- ---- the step
module _ (s : Reader) (g : Signs) (k : Kept s) (low : leb g.remainder 15 ≡ true) where
  next-kept : eqb (wrong_run s g) 3 ≡ false → Kept (next_of s g (wrong_run s g))
  unfolding next_of Low
  next-kept e =
      let reading = word_read s g.word in
      let m = obeyed_in_range reading s.mode k.force in
      let p = place-low s _ _ k.misses_low in
      record { force = m; back = back-kept (eqb g.wrong 0) m; wrong-low = low_run s.wrong (eqb g.wrong 0) k.wrong-low e; misses_low = p.0; rest = low; place = p.1 }
    where
      back-kept : (b : Bool) → in_range (obeyed (word_read s g.word) s.mode) ≡ true
          → in_range (cond b (obeyed (word_read s g.word) s.mode) (mode_before s)) ≡ true
      back-kept true m = m
      back-kept false m = before-kept s k

  step_kept : Kept (step_of s g).state
  unfolding step_of
  step_kept = go (eqb (wrong_run s g) 3) refl
    where
      go : (b : Bool) → eqb (wrong_run s g) 3 ≡ b → Kept (step_of s g).state
      go true e = rw e (fresh_kept s k)
      go false e = rw e (next-kept e)

-- a block taken on a state in range leaves one in range
pub step_in_range : (s : Reader) (line : List ℕ) → state_in_range s ≡ true → state_in_range (step_of s (signs_of line)).state ≡ true
step_in_range s line r = keeps _ (step_kept s (signs_of line) (kept s r) (crc-low line))
