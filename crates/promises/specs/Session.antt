-- Whole sessions of sending calls: what each call is lent, what it leaves, and which calls were accepted.
use Rattle.std.specs.Prelude.{Bool, true, false, List, [], ◌∷◌, ℕ, is_ok}
use Rattle.buffers.specs.Buffers.{Buffers}
use Rattle.sending.specs.Step.{Outcome, outcome_of, line_of, Told}
use Rattle.sender.specs.declared.Sender.{Sender}
use Rattle.control.specs.declared.Call.{Call}
use Rattle.control.specs.Refusals.{Answer}

-- a call with what it is lent: the streams' buffers, and the line block as it stood
pub record Turn : Type 0 where
  pub call : Call
  pub lent : Buffers
  pub line : List ℕ

-- what it leaves: state and answer, and the line block
pub record Left : Type 0 where
  pub outcome : Outcome
  pub line : List ℕ

unfoldable pub turned : Sender → Turn → Left
turned s x =
    record { outcome = outcome_of s x.call x.lent x.line; line = line_of s x.call x.lent x.line }

-- the state that the next call finds
abbrev pub after : Sender → Turn → Sender
after s x = (turned s x).outcome.state

-- a session: what each of its calls leaves, in order
abbrev pub run : Sender → List Turn → List Left
run s [] = []
run s (x ∷ xs) = turned s x ∷ run (after s x) xs

-- a session that the contract of `sending::send` allows: each call leaves what its contract says, and the next one finds the state left
abbrev pub Allowed : Sender → List Turn → List Left → Type 0
Allowed s [] [] = Unit {0}
Allowed s [] (l ∷ ls) = ⊥
Allowed s (x ∷ xs) [] = ⊥
Allowed s (x ∷ xs) (l ∷ ls) =
    Told s x.call x.lent x.line l.outcome l.line × Allowed l.outcome.state xs ls

-- refused calls send nothing
abbrev pub accepted : Answer → Bool
accepted answer = is_ok answer

-- an accepted call, with the state that it found
pub record Entry : Type 0 where
  pub found : Sender
  pub turn : Turn

abbrev pub entry_of : Sender → Turn → Entry
entry_of s x = record { found = s; turn = x }

abbrev pub noted : Bool → Entry → List Entry → List Entry
noted true e es = e ∷ es
noted false e es = es

-- the accepted calls of a session
abbrev pub log : Sender → List Turn → List Entry
log s [] = []
log s (x ∷ xs) = noted (accepted (turned s x).outcome.answer) (entry_of s x) (log (after s x) xs)

-- the block that an accepted call wrote
abbrev pub block_sent : Entry → List ℕ
block_sent e = (turned e.found e.turn).line
