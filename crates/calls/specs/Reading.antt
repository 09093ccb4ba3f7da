-- Document 01, 'Reading a block': one reading call in the numbers that cross to C.
use Rattle.std.specs.Prelude.{List, ℕ}
use Rattle.buffers.specs.Buffers.{Buffers}
use Rattle.reading.specs.Step.{outcome_of}
use Rattle.reader.specs.declared.Reader.{Reader}
use Rattle.answers.specs.Answers.{read_answer_of}
use Rattle.answers.specs.declared.ReadAnswer.{ReadAnswer}

-- what a call leaves of the state, and its answer
pub record ReadStepped : Type 0 where
  pub state : Reader
  pub answer : ReadAnswer

abbrev pub read_stepped : Reader → ReadAnswer → ReadStepped
read_stepped state answer = record { state = state; answer = answer }

-- one call
abbrev pub read_taken : Reader → List ℕ → Buffers → ReadStepped
read_taken s line b =
    let o = outcome_of s line b in
    record { state = o.state; answer = read_answer_of o.answer }
