-- Document 01, 'Finding alignment': a walk's step in the numbers that cross to C.
use Rattle.std.specs.Prelude.{Bool, cond, List, ℕ, eqb}
use Rattle.buffers.specs.Buffers.{Buffers}
use Rattle.modes.specs.Modes.{off}
use Rattle.reader.specs.State.{fresh_in}
use Rattle.recording.specs.Walk.{step_at, buffers_at}
use Rattle.answers.specs.Answers.{reserved_octets, step_answer_of}
use Rattle.calls.specs.Sending.{on}
use Rattle.keeping.specs.declared.WalkState.{WalkState}
use Rattle.answers.specs.declared.StepAnswer.{StepAnswer}

-- what a step leaves of the walk, and its answer
pub record WalkStepped : Type 0 where
  pub state : WalkState
  pub answer : StepAnswer

abbrev pub walk_stepped : WalkState → StepAnswer → WalkStepped
walk_stepped state answer = record { state = state; answer = answer }

-- a walk that begins at a place, with a fresh reader
abbrev pub walk_from : ℕ → WalkState
walk_from place = record { place = place; reader = fresh_in off; lost = 0; reserved = reserved_octets 3 }

-- the mark that a block was lost: 0 is no, every other number yes; one that stays set keeps its number
abbrev pub mark_after : ℕ → Bool → ℕ
mark_after mark set = cond set (cond (eqb mark 0) 1 mark) 0

-- one step
abbrev pub step_taken : WalkState → List ℕ → Buffers → WalkStepped
step_taken w recording b =
    let t = step_at recording w.place (on w.lost) w.reader b in
    record {
      state = record { place = t.place; reader = t.reader; lost = mark_after w.lost t.lost; reserved = w.reserved };
      answer = step_answer_of t.answer;
    }

-- the buffers that it leaves
abbrev pub step_buffers : WalkState → List ℕ → Buffers → Buffers
step_buffers w recording b = buffers_at recording w.place (on w.lost) w.reader b
