-- The promises suppose nothing that cannot be: states and sessions that meet what each of them asks.
use mathlib.Core.Path.{◌≡◌, refl, sym, ap}
use mathlib.Core.Bool.{Bool, true, false, false≢true}
use mathlib.Core.List.{List, [], ◌∷◌}
use mathlib.Core.Logic.{◌⊎◌, inl, inr}
use Prim.Native.Nat.{ℕ}
use native.Mathlib.Omega.{arith}
use lib.ListN.{get_or, replicate}
use Rattle.std.specs.Prelude.{Ok}
use Rattle.crc.specs.Crc.{block_crc_of}
use Rattle.bits.specs.Bits.{number}
use Rattle.numbers.specs.Numbers.{following}
use Rattle.table.specs.Table.{audio_table, lsd_table, beside, audio_places, lsd_places, audio_listed, lsd_listed}
use Rattle.modes.specs.Owners.{holds, held_by, some, clash, overlaps}
use Rattle.modes.specs.Modes.{audio_off, mode, in_range}
use Rattle.codes.specs.Codes.{neutral}
use Rattle.codes.specs.Carried.{carried, sender_carries}
use Rattle.sender.specs.State.{sounding, state_in_range, fresh_with}
use Rattle.control.specs.Rules.{rule_of}
use Rattle.control.specs.Plans.{plan_by}
use Rattle.control.specs.Refusals.{clashes, ruling_of}
use Rattle.control.specs.Decisions.{decision_of}
use Rattle.sending.specs.Step.{block_for, outcome_of}
use Rattle.sender.specs.declared.Sender.{Sender}
use Rattle.control.specs.declared.Went.TheVariants.{Sent, Held}
use Rattle.sending.proofs.OutcomeLaws.{stays_in_range}
use Rattle.slots.specs.declared.Due.TheVariants.{Plain}
use Rattle.slots.specs.Slots.{slot_of}
use Rattle.reader.specs.State.{state_in_range as readerInRange}
use Rattle.reader.specs.declared.Reader.{Reader}
use Rattle.buffers.specs.Lengths.{line_octets, stream_octets, zeroed}
use Rattle.buffers.specs.Buffers.{each}
use Rattle.promises.specs.Demand2.{word_sent, InStep, Agrees, EightBits}
use Rattle.promises.specs.Session.{Turn, turned, after, run, log}
use Rattle.promises.specs.Demand3.{silent, AlikeTurn, Alike, MuteStaysSet, MuteGone, By}
use Rattle.promises.proofs.SilenceLaws.{run_allowed, silence}

-- audio [24] in force
abbrev talking : ℕ → Sender
talking due = record { chosen = 24; mode = mode 24 0; block = record { 0 = 1 }; due = due; remainder = 0 }

-- a call with buffers of the right lengths, the microphone at v; (001)[0] is offered, which may go plain and as an item
abbrev turn : Bool → ℕ → Turn
turn mute v =
    record {
      call = record { mute = mute; code = 32; a = false; e = false; t = false };
      lent = each (replicate stream_octets.voice v) (replicate stream_octets.lsd 0);
      line = replicate line_octets 0;
    }

abbrev muted : ℕ → List Turn
muted v = turn true v ∷ turn true v ∷ []

-- ---- silence: the contract allows every session as it runs (`run_allowed`), and these are alike
muted_example : (s : Sender) → AlikeTurn s (turn true 0) (turn true 1)
muted_example s = record { call = refl; lsd = refl; line = refl; lengths = refl; heard = λ h. absurd (false≢true (sym h)) }

off_example : AlikeTurn (fresh_with audio_off) (turn false 0) (turn false 1)
off_example = record { call = refl; lsd = refl; line = refl; lengths = refl; heard = λ h. absurd (false≢true (sym h)) }

differ_example : (turn true 0).lent.voice ≡ (turn true 1).lent.voice → ⊥
differ_example h = let z : ◌≡◌ {A = ℕ} 0 1 = ap (λ (l : List ℕ). get_or l 0 0) h in absurd (omega arith)

alike_example : Alike (talking 0) (muted 0) (muted 1)
alike_example = (muted_example (talking 0), (muted_example (after (talking 0) (turn true 0)), tt))

silence_example : run (talking 0) (muted 0) ≡ run (talking 0) (muted 1)
silence_example =
    silence (talking 0) (muted 0) (muted 1) _ _ (run_allowed (talking 0) (muted 0)) (run_allowed (talking 0) (muted 1)) alike_example

-- with mute clear the same block is not silent
heard_example : silent (talking 0) (turn false 0).call ≡ false
heard_example = refl

-- ---- mute's bound: audio is in force, mute stays set, and the call is accepted
sounding_example : (sounding (talking 0) ≡ true) × MuteStaysSet (muted 0)
sounding_example = (refl, (refl, (refl, tt)))

range_example : (due : ℕ) → state_in_range (talking due) ≡ true
unfolding state_in_range in_range audio_places audio_listed audio_table lsd_places lsd_listed lsd_table beside overlaps clash some holds held_by
range_example due = refl

held_example : (turned (talking 0) (turn true 0)).outcome.answer ≡ Ok Held
unfolding turned outcome_of decision_of ruling_of rule_of plan_by
held_example = rw (range_example 0)

-- where an item is due it goes first, and mute's own "off" in the second call
item-sent : (turned (talking 1) (turn true 0)).outcome.answer ≡ Ok Sent
unfolding turned outcome_of decision_of ruling_of rule_of plan_by
item-sent = rw (range_example 1)

second : Sender
second =
    record {
      chosen = 24;
      mode = mode 24 0;
      block = record { 0 = 2 };
      due = 0;
      remainder = block_crc_of (block_for (talking 1) (turn true 0).call 32 zeroed);
    }

second-found : after (talking 1) (turn true 0) ≡ second
unfolding second turned outcome_of decision_of ruling_of rule_of plan_by following
second-found = rw (range_example 1, after)

second_range : state_in_range second ≡ true
unfolding turned
second_range =
    rw (← second-found)
    (stays_in_range (talking 1) (turn true 0).call zeroed (replicate line_octets 0) (range_example 1))

second_held : (turned second (turn true 0)).outcome.answer ≡ Ok Held
unfolding second turned outcome_of decision_of ruling_of rule_of plan_by
second_held = rw second_range

second_example : log (talking 1) (muted 0)
    ≡ record { found = talking 1; turn = turn true 0 } ∷ record { found = second; turn = turn true 0 } ∷ []
second_example = rw (item-sent, second-found, second_held)

-- so no smaller bound holds
least_example : By 1 MuteGone (log (talking 1) (muted 0)) → ⊥
least_example b = go (rw second_example at b)
  where
    go : MuteGone (record { found = talking 1; turn = turn true 0 }) ⊎ ⊥ → ⊥
    go (inl g) =
        let e = g.command in
        let z : ◌≡◌ {A = ℕ} 0 1 = cc in
        omega arith
    go (inr n) = n

-- ---- demand 2: a sender about to send block 7, and a reader in step with it
abbrev seventh : Sender
seventh = record { chosen = audio_off; mode = mode audio_off 0; block = record { 0 = 7 }; due = 0; remainder = 0 }

abbrev listening : Reader
listening =
    record {
      mode = mode audio_off 0;
      kept = mode audio_off 0;
      wrong = 0;
      block = record { 0 = 7 };
      firsts = 0b001011;
      misses = 0;
      slot = slot_of Plain;
      before = 1;
      remainder = 0;
    }

in_step_example : InStep seventh listening
unfolding readerInRange in_range audio_places audio_listed audio_table lsd_places lsd_listed lsd_table beside overlaps clash some holds held_by number
in_step_example = record { placed = record { range = refl; knows = refl; place = refl; due = refl; bits = refl }; mode = refl }

agrees_example : Agrees seventh listening
agrees_example = record { before = λ none. absurd (omega arith); remainder = refl }

-- a code is eight bits
eight-bits_example : EightBits (muted 0)
eight-bits_example = (omega arith, (omega arith, tt))

abbrev neutral-turn : Turn
neutral-turn =
    record {
      call = record { mute = false; code = neutral; a = false; e = false; t = false };
      lent = zeroed;
      line = replicate line_octets 0;
    }

-- neutral can be offered where no item is due, and goes as the word
seventh-range : state_in_range seventh ≡ true
unfolding state_in_range in_range audio_places audio_listed audio_table lsd_places lsd_listed lsd_table beside overlaps clash some holds held_by
seventh-range = refl

neutral-sent : (turned seventh neutral-turn).outcome.answer ≡ Ok Sent
unfolding turned outcome_of decision_of ruling_of rule_of plan_by sender_carries carried clashes audio_places audio_listed audio_table lsd_places lsd_listed lsd_table beside overlaps clash some holds held_by
neutral-sent = rw seventh-range

neutral_example : word_sent (record { found = seventh; turn = neutral-turn }) ≡ neutral
neutral_example = rw neutral-sent
