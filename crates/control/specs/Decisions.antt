-- Document 01, 'Sending a block': what is decided of a call before its block is written.
use Rattle.std.specs.Prelude.{ℕ, Result, Ok, Err}
use Rattle.refusals.specs.Rows.{Ruling}
use Rattle.buffers.specs.Buffers.{Each}
use Rattle.numbers.specs.Numbers.{following}
use Rattle.control.specs.Rules.{rule_of}
use Rattle.control.specs.Plans.{plan_by}
use Rattle.control.specs.Refusals.{ruling_of}
use Rattle.sender.specs.declared.Sender.{Sender}
use Rattle.control.specs.declared.Call.{Call}
use Rattle.control.specs.declared.Plan.{Plan}
use Rattle.control.specs.declared.Decision.{Decision}
use Rattle.control.specs.declared.Refused.{Refused}

-- the state that a plan leaves; its remainder is still that of the block before
abbrev pub next_by : Plan → Sender → Sender
next_by p s =
    record { chosen = p.chosen; mode = p.mode; block = following s.block; due = p.due; remainder = s.remainder }

-- a state with the remainder of the block that was written
abbrev pub with_remainder : Sender → ℕ → Sender
with_remainder s remainder =
    record { chosen = s.chosen; mode = s.mode; block = s.block; due = s.due; remainder = remainder }

-- where a row refuses, no word goes and the state comes back as given; else the word goes by the rule of the state and mute
abbrev pub decision_by : Ruling → Sender → Call → Result Decision Refused
decision_by (Err r) s c = Err (record { why = r; word = 0; next = s })
decision_by (Ok u) s c =
    let p = plan_by (rule_of s c.mute) s c.code in
    Ok (record { word = p.word; went = p.went; next = next_by p s })

-- the state that is left by what is decided
abbrev pub next_of : Result Decision Refused → Sender
next_of (Err r) = r.next
next_of (Ok d) = d.next

-- what is decided of a call with a line block and buffers of these lengths
unfoldable pub decision_of : Sender → Call → ℕ → Each ℕ → Result Decision Refused
decision_of s c line n = decision_by (ruling_of s c line n) s c
