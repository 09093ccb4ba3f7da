-- What a call leaves, by its ruling; what is known where a block is taken; and that the contract allows one outcome alone.
use mathlib.Core.Path.{◌≡◌, refl, sym, ap, ◌∙◌}
use mathlib.Core.Bool.{true, false≢true}
use mathlib.Core.List.{List}
use Prim.Native.Nat.{ℕ}
use borrow.Author.Tests.{eqb-true, eq-eqb, not-false}
use Rattle.std.specs.Prelude.{Ok, Err, is_ok}
use Rattle.refusals.specs.Rows.{Ruling, ruling_number}
use Rattle.refusals.specs.declared.Refusal.{Refusal}
use Rattle.refusals.proofs.RowLaws.{none_given}
use Rattle.buffers.specs.Buffers.{Each, Buffers, lengths}
use Rattle.buffers.specs.Lengths.{line_octets, stream_octets, fitting}
use Rattle.buffers.proofs.LengthLaws.{streams-fit, fits}
use Rattle.reader.specs.State.{state_in_range}
use Rattle.track.specs.Signs.{signs_of}
use Rattle.track.specs.Step.{step_of}
use Rattle.reader.specs.declared.Reader.{Reader}
use Rattle.track.proofs.RangeLaws.{step_in_range}
use Rattle.track.specs.declared.Report.{Report}
use Rattle.reading.specs.Refusals.{Answer, number_in, rows, ruling_of}
use Rattle.reading.specs.Step.{Outcome, outcome, handed_by, outcome_by, ruled, outcome_of, buffers_of, look_of, Told}

-- ---- where a block is taken, the state is in range and the buffers have their lengths
pub record Taken (s : Reader) (line : ℕ) (n : Each ℕ) : Type 0 where
  pub range : state_in_range s ≡ true
  pub line-fits : line ≡ line_octets
  pub streams : n ≡ stream_octets

pub taken : (s : Reader) (line : ℕ) (n : Each ℕ) → ruling_of s line n ≡ Ok tt → Taken s line n
unfolding ruling_of
taken s line n e =
    let h = none_given (rows s line n) e in
    record {
      range = not-false _ h.0;
      line-fits = eqb-true _ _ (not-false _ h.1.0);
      streams = streams-fit n h.1.1.0 h.1.1.1.0;
    }

pub taken-fitting : (s : Reader) (line : ℕ) (n : Each ℕ) → ruling_of s line n ≡ Ok tt → fitting line n ≡ true
taken-fitting s line n e = let t = taken s line n e in fits line n t.line-fits t.streams

-- and where they are so, the block is taken
pub takes : (s : Reader) (line : ℕ) (n : Each ℕ) → Taken s line n → ruling_of s line n ≡ Ok tt
unfolding ruling_of
takes s line n t = rw (t.range, eq-eqb line line_octets t.line-fits, t.streams)

-- the answer's number is that of the ruling
ruled-number : (q : Ruling) (s : Reader) (line : List ℕ) → number_in (outcome_by q s line).answer ≡ ruling_number q
ruled-number (Err r) s line = refl
ruled-number (Ok u) s line = refl

-- the report of an answer, or another one where it has none
abbrev report_in : Answer → Report → Report
report_in (Ok r) other = r
report_in (Err q) other = other

module _ (s : Reader) (line : List ℕ) (b : Buffers) where
  pub told : (r : Outcome) (after : Buffers) → r ≡ outcome_of s line b → after ≡ buffers_of s line b → Told s line b r after
  unfolding outcome_of
  told r after o h = record { outcome = o; handed = h; number = rw o (ruled-number (ruled s line b) s line) }

  -- a refused call leaves state and buffers as they were
  pub was_refused : (n : Reader) (q : Refusal) → outcome n (Err q) ≡ outcome_of s line b → Told s line b (outcome n (Err q)) b
  unfolding outcome_of buffers_of
  was_refused n q o = told _ _ o (go (ruled s line b) refl o)
    where
      go : (p : Ruling) → ruled s line b ≡ p → outcome n (Err q) ≡ outcome_by p s line → b ≡ buffers_of s line b
      go (Err w) r h = rw r
      go (Ok u) r h = absurd (false≢true (ap (λ (x : Outcome). is_ok x.answer) h))

  -- a call that answers a block was taken
  pub was_taken : (n : Reader) (r : Report) → outcome n (Ok r) ≡ outcome_of s line b → ruled s line b ≡ Ok tt
  unfolding outcome_of
  was_taken n r o = go (ruled s line b) refl o
    where
      go : (p : Ruling) → ruled s line b ≡ p → outcome n (Ok r) ≡ outcome_by p s line → ruled s line b ≡ Ok tt
      go (Err w) e h = absurd (false≢true (sym (ap (λ (x : Outcome). is_ok x.answer) h)))
      go (Ok u) e h = e

  -- and is told right where its buffers are handed out by that block
  pub told_handed : (n : Reader) (r : Report) (after : Buffers) → outcome n (Ok r) ≡ outcome_of s line b
      → after ≡ handed_by r.standing s.mode line → Told s line b (outcome n (Ok r)) after
  unfolding outcome_of buffers_of
  told_handed n r after o h =
      let e = was_taken n r o in
      let same = ap (λ (x : Outcome). report_in x.answer r) (rw e at o) in
      told _ _ o (h ∙ ap (λ (x : Report). handed_by x.standing s.mode line) same ∙ rw e)

  -- what the contract says of a block that is taken
  pub told_taken : (r : Outcome) (after : Buffers) → ruled s line b ≡ Ok tt → Told s line b r after
      → (let p = step_of s (signs_of line) in
      (r ≡ record { state = p.state; answer = Ok p.report }) × (after ≡ handed_by p.report.standing s.mode line))
  unfolding outcome_of buffers_of
  told_taken r after e t = (rw e at t.outcome, rw e at t.handed)

-- a call on a state in range leaves one in range
pub stays_in_range : (s : Reader) (line : List ℕ) (b : Buffers) → state_in_range s ≡ true → state_in_range (outcome_of s line b).state ≡ true
unfolding outcome_of
stays_in_range s line b r = go (ruled s line b)
  where
    go : (q : Ruling) → state_in_range (outcome_by q s line).state ≡ true
    go (Err why) = r
    go (Ok u) = step_in_range s line r

-- any two outcomes that the contract of a reading call allows are equal
pub read-settled : (s : Reader) (line : List ℕ) (b : Buffers) (r q : Outcome) (v w : Buffers)
    → Told s line b r v → Told s line b q w → (r ≡ q) × (v ≡ w)
read-settled s line b r q v w x y = (x.outcome ∙ sym y.outcome, x.handed ∙ sym y.handed)

-- a look says what a reading call says whose buffers fit
pub look-read : (s : Reader) (line : List ℕ) (b : Buffers) → lengths b ≡ stream_octets → look_of s line ≡ outcome_of s line b
unfolding look_of outcome_of
look-read s line b e = rw e
