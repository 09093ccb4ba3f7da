-- Document 01, 'Sending a block': what one sending call leaves, the next state, the answer and the line block.
use Rattle.std.specs.Prelude.{◌≡◌, List, ℕ, length, Result, Ok, Err}
use Rattle.crc.specs.Crc.{block_crc_of}
use Rattle.refusals.specs.Rows.{Ruling, ruling_number}
use Rattle.refusals.specs.declared.Refusal.{Refusal}
use Rattle.buffers.specs.Buffers.{Buffers, lengths}
use Rattle.frame.specs.Block.{block_of}
use Rattle.frame.specs.declared.Header.{Header}
use Rattle.control.specs.Refusals.{Answer, ruling_of, number_in}
use Rattle.control.specs.Decisions.{with_remainder, decision_of}
use Rattle.sender.specs.declared.Sender.{Sender}
use Rattle.control.specs.declared.Call.{Call}
use Rattle.control.specs.declared.Decision.{Decision}
use Rattle.control.specs.declared.Refused.{Refused}
use Rattle.sending.specs.declared.Advanced.{Advanced}

-- what a call leaves of the state, and its answer
pub record Outcome : Type 0 where
  pub state : Sender
  pub answer : Answer

abbrev pub outcome : Sender → Answer → Outcome
outcome state answer = record { state = state; answer = answer }

-- what the step leaves of a state, and answers: a refused call leaves it as it was
abbrev pub left_by : Sender → Result Advanced Refusal → Outcome
left_by s (Err r) = outcome s (Err r)
left_by s (Ok n) = outcome n.state (Ok n.went)

-- what the block says in its service channel
abbrev pub header_for : Sender → Call → ℕ → Header
header_for s c word =
    record { a = c.a; e = c.e; t = c.t; block = s.block; remainder = s.remainder; code = word }

-- the block that a word makes, cut by the mode that the call finds: a command takes hold in the next block (DECISIONS S14)
unfoldable pub block_for : Sender → Call → ℕ → Buffers → List ℕ
block_for s c word b = block_of s.mode (header_for s c word) c.mute b

-- where a row refuses, the state comes back as given and nothing lent changes; else the state goes on with the remainder of the block sent
abbrev pub state_by : Result Decision Refused → (ℕ → List ℕ) → Sender
state_by (Err r) block = r.next
state_by (Ok d) block = with_remainder d.next (block_crc_of (block d.word))

abbrev pub answer_by : Result Decision Refused → Answer
answer_by (Err r) = Err r.why
answer_by (Ok d) = Ok d.went

abbrev pub line_by : Result Decision Refused → List ℕ → (ℕ → List ℕ) → List ℕ
line_by (Err r) line block = line
line_by (Ok d) line block = block d.word

-- a call with what it is lent: how it is ruled, and what is decided
abbrev pub ruled : Sender → Call → Buffers → List ℕ → Ruling
ruled s c b line = ruling_of s c (length line) (lengths b)

abbrev pub decided : Sender → Call → Buffers → List ℕ → Result Decision Refused
decided s c b line = decision_of s c (length line) (lengths b)

-- the state and the answer of a call, and what the lent line holds after it
unfoldable pub outcome_of : Sender → Call → Buffers → List ℕ → Outcome
outcome_of s c b line =
    let d = decided s c b line in
    record { state = state_by d (λ (word : ℕ). block_for s c word b); answer = answer_by d }

unfoldable pub line_of : Sender → Call → Buffers → List ℕ → List ℕ
line_of s c b line = line_by (decided s c b line) line (λ (word : ℕ). block_for s c word b)

-- all that the contract of a sending call says of its result `r` and of the line `l` at exit
pub record Told (s : Sender) (c : Call) (b : Buffers) (line : List ℕ) (r : Outcome) (l : List ℕ) : Type 0 where
  pub outcome : r ≡ outcome_of s c b line
  pub octets : l ≡ line_of s c b line
  pub number : number_in r.answer ≡ ruling_number (ruled s c b line)
