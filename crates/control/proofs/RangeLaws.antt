-- What is decided of a state in range leaves one in range.
use mathlib.Core.Path.{◌≡◌, refl, ap, ◌∙◌}
use mathlib.Core.Bool.{true, false, ◌&&◌, ◌||◌, or-true}
use Prim.Native.Nat.{ℕ}
use lib.Dec.{eqb, leb}
use borrow.Author.Tests.{eq-eqb}
use Rattle.bits.proofs.BoolLaws.{or_left_false, or_right_false}
use Rattle.buffers.specs.Buffers.{Each}
use Rattle.numbers.proofs.NumberLaws.{following-low}
use Rattle.modes.specs.Owners.{overlaps}
use Rattle.modes.specs.Modes.{audio_off, with_audio, with_lsd}
use Rattle.modes.proofs.ModeLaws.{Ranged, off-ranged}
use Rattle.codes.specs.Codes.{value}
use Rattle.codes.specs.Commands.{command_of, offered}
use Rattle.codes.specs.declared.Command.{Command}
use Rattle.codes.specs.declared.Command.TheVariants.{Neutral, SetAudio, SetLsd, NoEffect}
use Rattle.codes.proofs.CodeLaws.{audio-code, lsd-code}
use Rattle.sender.specs.State.{chosen_mode, state_in_range}
use Rattle.control.specs.Rules.{rule_of}
use Rattle.control.specs.Plans.{plan_by}
use Rattle.control.specs.Refusals.{is_audio, is_lsd, clashes, goes_plain, ruling_of}
use Rattle.control.specs.Decisions.{next_by, with_remainder, next_of, decision_of}
use Rattle.sender.specs.declared.Sender.{Sender}
use Rattle.control.specs.declared.Call.{Call}
use Rattle.control.specs.declared.Rule.{Rule}
use Rattle.control.specs.declared.Rule.TheVariants.{AsItem, MuteOff, Release, Offered}
use Rattle.std.specs.Prelude.{Ok}
use Rattle.control.proofs.GoesLaws.{goes}
use Rattle.sender.proofs.StateLaws.{Kept, kept, keeps}

-- ---- what an offered command leaves
module _ (s : Sender) (code rem : ℕ) (k : Kept s) (low : leb rem 15 ≡ true) (apart : clashes s code ≡ false) where
  by_command : (m : Command) → command_of code ≡ m
      → Ranged (with_audio (offered m s.mode) (offered m (chosen_mode s)).audio)
      × ((eqb (offered m s.mode).audio audio_off || eqb (offered m s.mode).audio (offered m (chosen_mode s)).audio) ≡ true)
  unfolding offered clashes
  by_command Neutral e = (off-ranged, refl)
  by_command (SetAudio v) e =
      let a = audio-code code v e in
      let none : overlaps (with_audio s.mode v) ≡ false =
      ap (λ (n : ℕ). overlaps (with_audio s.mode n)) a.is
      ∙ rw a.kind at (or_left_false (is_audio code && overlaps (with_audio s.mode (value code))) (is_lsd code && overlaps (with_lsd (chosen_mode s) (value code))) apart) in
      (record { spoken = a.listed; named = a.named; given = k.ranges.given; apart = none }, rw (eq-eqb v v refl, or-true))
  by_command (SetLsd v) e =
      let d = lsd-code code v e in
      let none : overlaps (with_lsd (chosen_mode s) v) ≡ false =
      ap (λ (n : ℕ). overlaps (with_lsd (chosen_mode s) n)) d.is
      ∙ rw d.kind at (or_right_false (is_audio code && overlaps (with_audio s.mode (value code))) (is_lsd code && overlaps (with_lsd (chosen_mode s) (value code))) apart) in
      (record { spoken = k.ranges.spoken; named = k.ranges.named; given = d.listed; apart = none }, k.force)
  by_command NoEffect e = (k.ranges, k.force)

  offered-kept : Kept (with_remainder (next_by (plan_by Offered s code) s) rem)
  unfolding plan_by
  offered-kept =
      let both = by_command (command_of code) refl in
      record { ranges = both.0; force = both.1; block = following-low s.block; rest = low }

next-kept : (rule : Rule) (s : Sender) (code rem : ℕ) → Kept s → leb rem 15 ≡ true → (goes_plain rule ≡ true → clashes s code ≡ false)
    → Kept (with_remainder (next_by (plan_by rule s code) s) rem)
unfolding plan_by
next-kept AsItem s code rem k low apart = record { ranges = k.ranges; force = k.force; block = following-low s.block; rest = low }
next-kept MuteOff s code rem k low apart = record { ranges = k.ranges; force = refl; block = following-low s.block; rest = low }
next-kept Release s code rem k low apart =
    record { ranges = k.ranges; force = rw (eq-eqb s.chosen s.chosen refl, or-true); block = following-low s.block; rest = low }
next-kept Offered s code rem k low apart = offered-kept s code rem k low (apart refl)

-- whatever is decided of a state in range leaves one in range, with any remainder that is at most 15
pub decided_in_range : (s : Sender) (c : Call) (line : ℕ) (n : Each ℕ) (rem : ℕ) → state_in_range s ≡ true → leb rem 15 ≡ true
    → ruling_of s c line n ≡ Ok tt → state_in_range (with_remainder (next_of (decision_of s c line n)) rem) ≡ true
unfolding decision_of
decided_in_range s c line n rem r low e =
    rw e (keeps _ (next-kept (rule_of s c.mute) s c.code rem (kept s r) low (goes s c line n e).apart))
