-- Document 01, 'Reading a block': the step over a block, whose answer and next state go by what the block shows.
use Rattle.std.specs.Prelude.{cond, ℕ, eqb}
use Rattle.slots.specs.Slots.{slot_of}
use Rattle.words.specs.Readings.{obeyed}
use Rattle.words.specs.declared.Reading.TheVariants.{NotRead}
use Rattle.reader.specs.State.{fresh_in}
use Rattle.track.specs.Parts.{wrong_run, mode_before, kept_after, verdict_of, standing_of, word_read, due_read, six_after, spelled, multiframe_after}
use Rattle.reader.specs.declared.Reader.{Reader}
use Rattle.track.specs.declared.Signs.{Signs}
use Rattle.track.specs.declared.Report.{Report}
use Rattle.track.specs.declared.Standing.TheVariants.{Lost}
use Rattle.track.specs.declared.Verdict.TheVariants.{None}

-- what a step leaves of the state, and the block's answer
pub record Stepped : Type 0 where
  pub state : Reader
  pub report : Report

abbrev pub stepped : Reader → Report → Stepped
stepped state report = record { state = state; report = report }

-- third in a row: lost, no verdict, word not read, mode back to what it was before the first of the three, the rest fresh
abbrev pub lost_step : Reader → Stepped
lost_step s =
    record { state = fresh_in (mode_before s); report = record { standing = Lost; verdict = None; reading = NotRead } }

-- steps 2 to 4: the answer
unfoldable pub report_of : Reader → Signs → Report
report_of s g = record { standing = standing_of s; verdict = verdict_of s g.c; reading = word_read s g.word }

-- and the state that they leave: a command takes hold in the next block
unfoldable pub next_of : Reader → Signs → ℕ → Reader
next_of s g run =
    let m = obeyed (word_read s g.word) s.mode in
    let six = six_after s.firsts g.first in
    let p = multiframe_after s (spelled six) (due_read s g.word) in
    record {
      mode = m;
      kept = kept_after s g.wrong m;
      wrong = run;
      block = p.block;
      firsts = six;
      misses = p.misses;
      slot = slot_of p.due;
      before = 1;
      remainder = g.remainder;
    }

abbrev pub on_step : Reader → Signs → ℕ → Stepped
on_step s g run = record { state = next_of s g run; report = report_of s g }

-- where alignment is lost, steps 2 to 4 are skipped
unfoldable pub step_of : Reader → Signs → Stepped
step_of s g = cond (eqb (wrong_run s g) 3) (lost_step s) (on_step s g (wrong_run s g))
