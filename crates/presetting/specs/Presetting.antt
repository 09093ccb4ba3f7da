-- Document 01, 'Preset': reading one into a state and writing one from it, in the numbers that cross to C.
use Rattle.std.specs.Prelude.{ℕ, Result, Ok, Err}
use Rattle.presets.specs.Presets.{preset_read, preset_written, written_number, written_bits}
use Rattle.refusals.specs.Numbers.{number_of}
use Rattle.refusals.specs.declared.Refusal.{Refusal}
use Rattle.sender.specs.declared.Sender.{Sender}
use Rattle.presets.specs.declared.PresetRead.{PresetRead}
use Rattle.presets.specs.declared.PresetUnread.{PresetUnread}
use Rattle.presetting.specs.declared.PresetAnswer.{PresetAnswer}
use Rattle.presetting.specs.declared.PresetBits.{PresetBits}

-- what is answered of a preset that is read, beside the state to start from: a refused one offers "data off". And of one that is written
abbrev pub preset_answer_of : Result PresetRead PresetUnread → PresetAnswer
preset_answer_of (Ok p) = record { offer = p.offer; number = 0 }
preset_answer_of (Err u) = record { offer = u.offer; number = number_of u.why }

abbrev pub preset_bits_of : Result ℕ Refusal → PresetBits
preset_bits_of w = record { bits = written_bits w; number = written_number w; reserved = 0 }

-- the state that a preset stands for, or the one that was given where it is refused
abbrev pub preset_state_of : Result PresetRead PresetUnread → Sender → Sender
preset_state_of (Ok p) s = p.state
preset_state_of (Err u) s = s

-- what reading one leaves: that state, and the answer
pub record PresetStepped : Type 0 where
  pub state : Sender
  pub answer : PresetAnswer

abbrev pub preset_taken : Sender → ℕ → PresetStepped
preset_taken s bits =
    let p = preset_read bits in
    record { state = preset_state_of p s; answer = preset_answer_of p }

-- writing one from a state
abbrev pub preset_given : Sender → PresetBits
preset_given s = preset_bits_of (preset_written s)
