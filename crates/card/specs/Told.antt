-- Document 01, 'Sending a block', last paragraph: the card driver lends the sender's state and finds it advanced after the call, or untouched
-- after a refusal; a reader's and a walk's are lent in the same way (DECISIONS B1). What each such call tells of its answer r, and of the lent
-- state n and the buffers at exit.
use Rattle.std.specs.Prelude.{◌≡◌, List, ℕ}
use Rattle.buffers.specs.Buffers.{Buffers}
use Rattle.sender.specs.declared.Sender.{Sender}
use Rattle.control.specs.declared.Call.{Call}
use Rattle.sending.specs.Step.{line_of}
use Rattle.reader.specs.declared.Reader.{Reader}
use Rattle.reading.specs.Step.{buffers_of}
use Rattle.answers.specs.declared.SendAnswer.{SendAnswer}
use Rattle.answers.specs.declared.ReadAnswer.{ReadAnswer}
use Rattle.answers.specs.declared.StepAnswer.{StepAnswer}
use Rattle.keeping.specs.declared.WalkState.{WalkState}
use Rattle.calls.specs.Sending.{sent}
use Rattle.calls.specs.Reading.{read_taken}
use Rattle.calls.specs.Walking.{step_taken, step_buffers}
use Rattle.presetting.specs.Presetting.{preset_taken}
use Rattle.presetting.specs.declared.PresetAnswer.{PresetAnswer}

-- `delampuk_send`, the line being l at exit
abbrev pub SendTold : Sender → Call → Buffers → List ℕ → SendAnswer → Sender → List ℕ → Type 0
SendTold s c b line r n l = (r ≡ (sent s c b line).answer) × (n ≡ (sent s c b line).state) × (l ≡ line_of s c b line)

-- `delampuk_read`
abbrev pub ReadTold : Reader → List ℕ → Buffers → ReadAnswer → Reader → Buffers → Type 0
ReadTold s line b r n after = (r ≡ (read_taken s line b).answer) × (n ≡ (read_taken s line b).state) × (after ≡ buffers_of s line b)

-- `delampuk_step`
abbrev pub StepTold : WalkState → List ℕ → Buffers → StepAnswer → WalkState → Buffers → Type 0
StepTold w recording b r n after =
    (r ≡ (step_taken w recording b).answer) × (n ≡ (step_taken w recording b).state) × (after ≡ step_buffers w recording b)

-- `delampuk_read_preset`
abbrev pub PresetTold : Sender → ℕ → PresetAnswer → Sender → Type 0
PresetTold s bits r n = (r ≡ (preset_taken s bits).answer) × (n ≡ (preset_taken s bits).state)
