-- The five wrong programs of document 01, each against its contract: two calls that must be accepted, and what their blocks say.
use mathlib.Core.Path.{◌≡◌, refl, sym, ap, subst, ◌∙◌}
use mathlib.Core.Bool.{true, false, xor, false≢true}
use mathlib.Core.List.{List, [], ◌∷◌}
use Prim.Native.Nat.{ℕ, ◌<◌}
use native.Mathlib.Omega.{arith}
use lib.ListN.{replicate}
use Rattle.bits.specs.Bits.{odd, low_bits, sc_bit, xors}
use Rattle.crc.specs.Crc.{block_crc_of}
use Rattle.bas.specs.Reading.{weight, reading_of}
use Rattle.std.specs.Prelude.{Option, Some, Ok}
use Rattle.numbers.specs.Numbers.{following}
use Rattle.table.specs.Table.{audio_table, lsd_table, beside, audio_places, lsd_places, audio_listed, lsd_listed}
use Rattle.modes.specs.Owners.{holds, held_by, some, clash, overlaps}
use Rattle.modes.specs.Modes.{audio_off, mode, in_range}
use Rattle.slots.specs.Slots.{due_after}
use Rattle.codes.specs.Carried.{carried, sender_carries, opening_of}
use Rattle.codes.specs.Commands.{command_of, offered}
use Rattle.service.specs.Channel.{channel_bits, alignment_bits, wrong_bits, bas_word}
use Rattle.round.proofs.HeaderLaws.{right_alignment, code-back}
use Rattle.sender.specs.State.{state_in_range, fresh_with}
use Rattle.control.specs.Rules.{rule_of}
use Rattle.control.specs.Plans.{plan_by}
use Rattle.control.specs.Refusals.{clashes, ruling_of}
use Rattle.control.specs.Decisions.{decision_of}
use Rattle.sending.specs.Step.{Outcome, block_for, outcome_of}
use Rattle.sender.specs.declared.Sender.{Sender}
use Rattle.control.specs.declared.Went.TheVariants.{Sent}
use Rattle.sending.proofs.OutcomeLaws.{stays_in_range}
use Rattle.buffers.specs.Lengths.{line_octets, zeroed}
use Rattle.promises.specs.Session.{Turn, turned, after, accepted, entry_of}
use Rattle.promises.specs.Demand2.{LaidDown}
use Rattle.promises.specs.NotEnough.{Program, Meets, Accepts, RefusesEverything, SendsOneBlock, WritesNothing, Repeats, NoneIsEnough, NoPlaceMadeUp}
use Rattle.promises.proofs.InStepLaws.{octets-laid-down}
use Rattle.promises.proofs.RecordingLaws.{search-finds}

-- a call with buffers of the right lengths that offers this code, with mute clear
abbrev pub offer : ℕ → Turn
offer code =
    record {
      call = record { mute = false; code = code; a = false; e = false; t = false };
      lent = zeroed;
      line = replicate line_octets 0;
    }

abbrev pub fresh : Sender
fresh = fresh_with audio_off

-- (100)[0] and (100)[1] are carried and touch no mode
pub fresh-range : state_in_range fresh ≡ true
unfolding state_in_range in_range audio_places audio_listed audio_table lsd_places lsd_listed lsd_table beside overlaps clash some holds held_by
fresh-range = refl

first_sent : (turned fresh (offer 0x80)).outcome.answer ≡ Ok Sent
unfolding turned outcome_of decision_of ruling_of rule_of plan_by sender_carries carried clashes
first_sent = rw fresh-range

other_sent : (turned fresh (offer 0x81)).outcome.answer ≡ Ok Sent
unfolding turned outcome_of decision_of ruling_of rule_of plan_by sender_carries carried clashes
other_sent = rw fresh-range

-- the state after the first
second : Sender
second =
    record {
      chosen = audio_off;
      mode = mode audio_off 0;
      block = record { 0 = 2 };
      due = 0;
      remainder = block_crc_of (block_for fresh (offer 0x80).call 0x80 zeroed);
    }

second-found : after fresh (offer 0x80) ≡ second
unfolding second turned outcome_of decision_of ruling_of rule_of plan_by sender_carries carried clashes following command_of offered opening_of due_after
second-found = rw (fresh-range, after)

second_range : state_in_range second ≡ true
unfolding turned
second_range =
    rw (← second-found)
    (stays_in_range fresh (offer 0x80).call zeroed (replicate line_octets 0) fresh-range)

second-sent : (turned second (offer 0x81)).outcome.answer ≡ Ok Sent
unfolding second turned outcome_of decision_of ruling_of rule_of plan_by sender_carries carried clashes
second-sent = rw second_range

-- ---- what an accepted call's block says
module _ (s : Sender) (x : Turn) (taken : (turned s x).outcome.answer ≡ Ok Sent) where
  laid : LaidDown (entry_of s x)
  laid = (rw taken at (octets-laid-down s (x ∷ []))).2

  says : x.call.code < 256 → reading_of (bas_word (turned s x).line) ≡ Some x.call.code
  says small =
      ap (λ (l : List ℕ). reading_of (bas_word l)) (rw taken at laid) ∙ code-back s.mode _ x.call.mute x.lent small

  aligned-line : wrong_bits (turned s x).line ≡ 0
  aligned-line = ap wrong_bits laid ∙ right_alignment s.mode _ x.call.mute x.lent

first_says : reading_of (bas_word (turned fresh (offer 0x80)).line) ≡ Some 0x80
first_says = says fresh (offer 0x80) first_sent (omega arith)

other_says : reading_of (bas_word (turned fresh (offer 0x81)).line) ≡ Some 0x81
other_says = says fresh (offer 0x81) other_sent (omega arith)

second-says : reading_of (bas_word (turned second (offer 0x81)).line) ≡ Some 0x81
second-says = says second (offer 0x81) second-sent (omega arith)

two_codes : ◌≡◌ {A = Option ℕ} (Some 0x81) (Some 0x80) → ⊥
two_codes e = let same : ◌≡◌ {A = ℕ} 0x81 0x80 = cc in omega arith

-- an empty line has five wrong alignment bits
empty_wrong : wrong_bits (replicate line_octets 0) ≡ 5
unfolding wrong_bits alignment_bits channel_bits sc_bit low_bits odd xors xor weight
empty_wrong = refl

-- ---- any program that meets the contract
module _ (p : Program) (m : Meets p) where
  same_line : (s : Sender) (x : Turn) → (p s x).line ≡ (turned s x).line
  unfolding turned
  same_line s x = (m s x).octets

  same_outcome : (s : Sender) (x : Turn) → (p s x).outcome ≡ (turned s x).outcome
  unfolding turned
  same_outcome s x = (m s x).outcome

  takes : (s : Sender) (x : Turn) → (turned s x).outcome.answer ≡ Ok Sent → Accepts p s x
  takes s x e = ap (λ (o : Outcome). accepted o.answer) (same_outcome s x) ∙ ap accepted e

  not_refusing : RefusesEverything p → ⊥
  not_refusing h = false≢true (sym (h fresh (offer 0x80)) ∙ takes fresh (offer 0x80) first_sent)

  not_constant : SendsOneBlock p → ⊥
  not_constant (b, h) =
      let one = sym (same_line fresh (offer 0x80)) ∙ h fresh (offer 0x80) (takes fresh (offer 0x80) first_sent) in
      let two = sym (same_line fresh (offer 0x81)) ∙ h fresh (offer 0x81) (takes fresh (offer 0x81) other_sent) in
      two_codes (sym other_says ∙ ap (λ (l : List ℕ). reading_of (bas_word l)) (two ∙ sym one) ∙ first_says)

  not_silent : WritesNothing p → ⊥
  not_silent h =
      let e = sym (same_line fresh (offer 0x80)) ∙ h fresh (offer 0x80) in
      let five : ◌≡◌ {A = ℕ} 0 5 = sym (aligned-line fresh (offer 0x80) first_sent) ∙ ap wrong_bits e ∙ empty_wrong in
      omega arith

  not_repeating : Repeats p → ⊥
  not_repeating h =
      let found : (p fresh (offer 0x80)).outcome.state ≡ second = ap (λ (o : Outcome). o.state) (same_outcome fresh (offer 0x80)) ∙ second-found in
      let again = subst (λ (q : Sender). Accepts p q (offer 0x81) → (p q (offer 0x81)).line ≡ (p fresh (offer 0x80)).line) found
      (h fresh (offer 0x80) (offer 0x81) (takes fresh (offer 0x80) first_sent)) (takes second (offer 0x81) second-sent) in
      let e = sym (same_line second (offer 0x81)) ∙ again ∙ same_line fresh (offer 0x80) in
      two_codes (sym second-says ∙ ap (λ (l : List ℕ). reading_of (bas_word l)) e ∙ first_says)

pub none_is_enough : NoneIsEnough
none_is_enough p m = (not_refusing p m, not_constant p m, not_silent p m, not_repeating p m)

pub no_place_made_up : NoPlaceMadeUp
no_place_made_up find meets recording start p e = (search-finds recording start).fits p (sym (meets recording start) ∙ e)
