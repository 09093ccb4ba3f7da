-- Demand 1, call by call.
use mathlib.Core.Path.{◌≡◌, refl, ap, ◌∙◌}
use mathlib.Core.Bool.{Bool, true, false, not, cond, ◌||◌}
use mathlib.Core.List.{List, ◌∷◌}
use Prim.Native.Nat.{ℕ, zero, suc, ◌+◌, ◌-◌}
use native.Mathlib.Omega.{arith}
use lib.Dec.{ltb}
use lib.ListN.{length, get_or, drop, length-drop, drop_of_length-le}
use lib.Seq.{drop-cons}
use Rattle.std.specs.Prelude.{Ok, Err}
use Rattle.refusals.specs.Rows.{Ruling, first_given, ruling_number}
use Rattle.refusals.specs.declared.Refusal.TheVariants.{BadRecording}
use Rattle.refusals.proofs.RowLaws.{number_is}
use Rattle.control.specs.Refusals as sender-list
use Rattle.sending.specs.Step as sending
use Rattle.sending.proofs.OutcomeLaws.{refused_is}
use Rattle.presets.specs.Presets.{read_rows, read_by, preset_read, written_rows, written_by, preset_written, preset_number, written_number}
use Rattle.sender.specs.declared.Sender.{Sender}
use Rattle.control.specs.declared.Call.{Call}
use Rattle.reading.specs.Refusals as reader-list
use Rattle.reading.specs.Step as reading
use Rattle.reader.specs.declared.Reader.{Reader}
use Rattle.search.specs.Finding as finding
use Rattle.recording.specs.Refusals as walk-list
use Rattle.recording.specs.Walk as walk
use Rattle.recording.specs.declared.Met.TheVariants.{End}
use Rattle.buffers.specs.Buffers.{Buffers, lengths}
use Rattle.buffers.specs.Lengths.{line_octets}
use Rattle.promises.specs.Demand1.{first, sending_rows, Sending, Reading, somewhere, Searching, Stepping, ReadingPreset, WritingPreset}
use Rattle.promises.proofs.RuleLaws.{rule_due, rule_plain}

sending_number : (s : Sender) (c : Call) (b : Buffers) (line : List ℕ)
    → ruling_number (sending.ruled s c b line) ≡ first (sending_rows s c b line)
unfolding sender-list.ruling_of
sending_number s c b line =
    number_is (sender-list.rows s c (length line) (lengths b)) ∙ rw (rule_plain s c, rule_due s c.mute)

pub sending_refuses : Sending
sending_refuses s c b line r l t =
    record {
      ordered = refl;
      exact = t.number ∙ sending_number s c b line;
      kept = go (sending.ruled s c b line) refl;
    }
  where
    go : (q : Ruling) → sending.ruled s c b line ≡ q → (sender-list.number_in r.answer ≡ 0 → ⊥) → (r.state ≡ s) × (l ≡ line)
    go (Err why) e h =
        let still = refused_is s c b line why e in
        (rw (t.outcome, still.0), t.octets ∙ still.1)
    go (Ok u) e h = absurd (h (t.number ∙ ap ruling_number e))

pub reading_refuses : Reading
unfolding reading.outcome_of reading.buffers_of reader-list.ruling_of
reading_refuses s line b r out t =
    record {
      ordered = refl;
      exact = t.number ∙ number_is (reader-list.rows s (length line) (lengths b));
      kept = go (reading.ruled s line b) refl;
    }
  where
    go : (q : Ruling) → reading.ruled s line b ≡ q → (reader-list.number_in r.answer ≡ 0 → ⊥)
        → (r.state ≡ s) × (out ≡ b)
    go (Err why) e h = (rw (t.outcome, e), rw (t.handed, e))
    go (Ok u) e h = absurd (h (rw (t.outcome, e)))

-- ---- the search goes through the places one by one, and so does the test for some place
first-number : (n at : ℕ) (recording : List ℕ) → length recording - at ≡ n
    → finding.found_number (finding.first_of n at recording) ≡ cond (not (somewhere (drop at recording))) 10 0
unfolding finding.first_of somewhere
first-number zero at recording h = rw (drop_of_length-le recording {i = at} (omega arith))
first-number (suc n) at recording h =
    let one : suc at ≡ at + 1 = omega arith in
    rw (rw one at (drop-cons recording at 0 (omega arith)))
    (go (finding.aligned (get_or recording at 0 ∷ drop (at + 1) recording)) (first-number n (at + 1) recording (omega arith)))
  where
    go : (b : Bool) → finding.found_number (finding.first_of n (at + 1) recording) ≡ cond (not (somewhere (drop (at + 1) recording))) 10 0
        → finding.found_number (cond b (Ok at) (finding.first_of n (at + 1) recording)) ≡ cond (not (b || somewhere (drop (at + 1) recording))) 10 0
    go true ih = refl
    go false ih = ih

pub searching_refuses : Searching
unfolding finding.search_of finding.bad_length
searching_refuses recording start r e =
    record {
      ordered = refl;
      exact = rw (e, length-drop start recording) (go (ltb 65536 (length recording) || ltb (length recording - start) 168));
      kept = λ h. tt;
    }
  where
    go : (b : Bool)
        → finding.found_number (cond b (Err BadRecording) (finding.first_of (length recording - start) start recording))
        ≡ cond b 9 (cond (not (somewhere (drop start recording))) 10 0)
    go true = refl
    go false = first-number (length recording - start) start recording refl

-- ---- where no row of a step is given, its answer is no refusal
module _ (recording : List ℕ) (place : ℕ) (lost : Bool) (s : Reader) where
  here_number : walk-list.number_in (walk.answer_here recording place lost s) ≡ 0
  here_number = go lost (finding.search_of recording place) (ltb (walk.left_from recording place) line_octets)
    where
      go : (l : Bool) (f : finding.Found) (few : Bool)
          → walk-list.number_in (cond l (walk.found_again f (walk.left_from recording place)) (cond few (Ok (End (walk.left_from recording place))) (walk.block_read s recording place))) ≡ 0
      go true (Ok p) few = refl
      go true (Err why) few = refl
      go false f true = refl
      go false f false = refl

  -- the answer's number is that of the ruling
  step-number : (q : Ruling) → walk-list.number_in (walk.answer_by q recording place lost s) ≡ ruling_number q
  step-number (Err why) = refl
  step-number (Ok u) = here_number

pub stepping_refuses : Stepping
unfolding walk.step_at walk.buffers_at walk.answer_at walk-list.ruling_of
stepping_refuses recording place lost s b r out er eb =
    record {
      ordered = refl;
      exact = rw er
          (step-number recording place lost s (walk-list.ruling_of (length recording) place s (lengths b))
          ∙ number_is (walk-list.rows (length recording) place s (lengths b)));
      kept = go (walk-list.ruling_of (length recording) place s (lengths b)) refl;
    }
  where
    go : (q : Ruling) → walk-list.ruling_of (length recording) place s (lengths b) ≡ q
        → (walk-list.number_in r.answer ≡ 0 → ⊥)
        → (r.reader ≡ s) × (r.place ≡ place) × (r.lost ≡ lost) × (out ≡ b)
    go (Err why) e h = (rw (er, e), rw (er, e), rw (er, e), rw (eb, e))
    go (Ok u) e h = absurd (h (rw (er, e) (here_number recording place lost s)))

pub reading_preset_refuses : ReadingPreset
unfolding preset_read
reading_preset_refuses bits r e =
    record { ordered = refl; exact = rw e (go (first_given (read_rows bits)) ∙ number_is (read_rows bits)); kept = λ h. tt }
  where
    go : (q : Ruling) → preset_number (read_by q bits) ≡ ruling_number q
    go (Err why) = refl
    go (Ok u) = refl

pub writing_preset_refuses : WritingPreset
unfolding preset_written
writing_preset_refuses s r e =
    record { ordered = refl; exact = rw e (go (first_given (written_rows s)) ∙ number_is (written_rows s)); kept = λ h. tt }
  where
    go : (q : Ruling) → written_number (written_by q s) ≡ ruling_number q
    go (Err why) = refl
    go (Ok u) = refl
