-- Document 01, 'Sending a block', last paragraph: one sending call in the numbers that cross to C.
use Rattle.std.specs.Prelude.{Bool, not, List, ℕ, eqb}
use Rattle.buffers.specs.Buffers.{Buffers}
use Rattle.sending.specs.Step.{outcome_of}
use Rattle.sender.specs.declared.Sender.{Sender}
use Rattle.control.specs.declared.Call.{Call}
use Rattle.answers.specs.Answers.{send_answer_of}
use Rattle.answers.specs.declared.SendAnswer.{SendAnswer}

-- what a call leaves of the state, and its answer
pub record SendStepped : Type 0 where
  pub state : Sender
  pub answer : SendAnswer

abbrev pub send_stepped : Sender → SendAnswer → SendStepped
send_stepped state answer = record { state = state; answer = answer }

-- a switch: 0 is no, every other number yes
abbrev pub on : ℕ → Bool
on switch = not (eqb switch 0)

abbrev pub call_of : ℕ → ℕ → ℕ → ℕ → ℕ → Call
call_of mute code a e t = record { mute = on mute; code = code; a = on a; e = on e; t = on t }

-- one call
unfoldable pub sent : Sender → Call → Buffers → List ℕ → SendStepped
sent s c b line =
    let o = outcome_of s c b line in
    record { state = o.state; answer = send_answer_of o.answer }
