-- A quiet session: audio and data are off, and a code that touches no mode is offered again and again. Every call is accepted, and a
-- fresh reader is in step with a fresh sender after six blocks. So what the laws of coming into step suppose can be met.
use mathlib.Core.Path.{◌≡◌, refl, ap}
use mathlib.Core.Bool.{true}
use Prim.Native.Nat.{ℕ, zero, suc}
use native.Mathlib.Omega.{arith}
use lib.ListN.{length, replicate}
use Rattle.std.specs.Prelude.{Ok}
use Rattle.crc.specs.Crc.{block_crc_of}
use Rattle.numbers.specs.Numbers.{following}
use Rattle.modes.specs.Modes.{audio_off, lsd_off, off, mode}
use Rattle.numbers.specs.declared.BlockNumber.{BlockNumber}
use Rattle.slots.specs.Slots.{due_after}
use Rattle.codes.specs.Carried.{carried, sender_carries, opening_of}
use Rattle.codes.specs.Commands.{command_of, offered}
use Rattle.slots.specs.declared.Due.TheVariants.{Plain}
use Rattle.sender.specs.State.{word_due, state_in_range}
use Rattle.control.specs.Rules.{rule_of}
use Rattle.control.specs.Plans.{plan_by}
use Rattle.control.specs.Refusals.{clashes, ruling_of}
use Rattle.control.specs.Decisions.{decision_of}
use Rattle.sending.specs.Step.{block_for, outcome_of}
use Rattle.sender.specs.declared.Sender.{Sender}
use Rattle.control.specs.declared.Went.TheVariants.{Sent}
use Rattle.sending.proofs.OutcomeLaws.{stays_in_range}
use Rattle.reader.specs.State.{fresh_in}
use Rattle.promises.specs.Session.{Turn, turned, after, log}
use Rattle.promises.specs.Demand2.{InStep, EightBits, sender_on, reader_on}
use Rattle.promises.proofs.JoinLaws.{fresh_waits, comes_into_step}
use Rattle.promises.proofs.EnoughLaws.{offer, fresh, fresh-range}

abbrev calm : Turn
calm = offer 0x80

-- a sender with audio and data off and nothing due
abbrev still : BlockNumber → ℕ → Sender
still block remainder =
    record { chosen = audio_off; mode = mode audio_off lsd_off; block = block; due = 0; remainder = remainder }

module _ (b : BlockNumber) (n : ℕ) (range : state_in_range (still b n) ≡ true) where
  calm-sent : (turned (still b n) calm).outcome.answer ≡ Ok Sent
  unfolding turned outcome_of decision_of ruling_of rule_of plan_by sender_carries carried clashes
  calm-sent = rw range

  abbrev next : ℕ
  next = block_crc_of (block_for (still b n) calm.call 0x80 calm.lent)

  calm-after : after (still b n) calm ≡ still (following b) next
  unfolding turned outcome_of decision_of ruling_of rule_of plan_by sender_carries carried clashes command_of offered opening_of due_after
  calm-after = rw (range, after)

  still-range : state_in_range (still (following b) next) ≡ true
  unfolding turned
  still-range = rw (← calm-after) (stays_in_range (still b n) calm.call calm.lent calm.line range)

-- every call of a quiet session is accepted, and leaves it quiet
record Calm (k : ℕ) (s : Sender) : Type 0 where
  all : length (log s (replicate k calm)) ≡ k
  off : (sender_on k s (log s (replicate k calm))).mode ≡ mode audio_off lsd_off
  none : word_due (sender_on k s (log s (replicate k calm))) ≡ Plain

calms : (k : ℕ) (b : BlockNumber) (n : ℕ) → state_in_range (still b n) ≡ true → Calm k (still b n)
calms zero b n range = record { all = refl; off = refl; none = refl }
calms (suc k) b n range =
    let later = calms k (following b) (next b n range) (still-range b n range) in
    record {
      all = rw (calm-sent b n range, calm-after b n range) (ap suc later.all);
      off = rw (calm-sent b n range, calm-after b n range) later.off;
      none = rw (calm-sent b n range, calm-after b n range) later.none;
    }

eight-bits : (k : ℕ) → EightBits (replicate k calm)
eight-bits zero = tt
eight-bits (suc k) = (omega arith, eight-bits k)

-- a fresh reader and a fresh sender
pub six-quiet-example :
    (let es = log fresh (replicate 6 calm) in
    InStep (sender_on 6 fresh es) (reader_on 6 (fresh_in off) es))
six-quiet-example =
    let c = calms 6 (record { 0 = 1 }) 0 fresh-range in
    comes_into_step fresh _ (replicate 6 calm) fresh-range (eight-bits 6) fresh_waits (omega (arith, c.all)) c.none c.off
