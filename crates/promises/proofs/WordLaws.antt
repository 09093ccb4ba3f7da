-- What a word that goes out is to a reader that has the same word due: it is read as it was sent, opens what the sender's state says, and
-- does to the mode what the sender did.
use mathlib.Core.Path.{◌≡◌, refl, sym, ap, ◌∙◌}
use mathlib.Core.Bool.{Bool, true, false, not, cond, ◌&&◌, ◌||◌, and-false, or-false, false≢true}
use Prim.Native.Nat.{ℕ, ◌/◌, ◌%◌, ◌<◌}
use native.Mathlib.Omega.{arith}
use lib.Dec.{eqb, leb}
use borrow.Author.Tests.{eqb-true, eqb-false, eq-eqb, ne_eqb, leb-false, lt-leb}
use Rattle.std.specs.Prelude.{Some}
use Rattle.table.specs.Table.{listed_audio}
use Rattle.table.proofs.TableLaws.{audio-small}
use Rattle.modes.specs.Owners.{overlaps}
use Rattle.modes.specs.Modes.{audio_off, with_audio, with_lsd}
use Rattle.modes.specs.declared.Mode.{Mode}
use Rattle.modes.proofs.ModeLaws.{overlaps_by, audio-off-apart, cleared-voice, cleared-lsd, off-ranged}
use Rattle.codes.specs.Codes.{attribute, value, written, audio_attribute}
use Rattle.codes.specs.Carried.{carried, sender_carries, reader_carries, opening_of}
use Rattle.codes.specs.Commands.{command_of, offered, followed}
use Rattle.codes.specs.declared.Command.{Command}
use Rattle.codes.specs.declared.Command.TheVariants.{Neutral, SetAudio, SetLsd, NoEffect}
use Rattle.codes.specs.declared.Opening.{Opening}
use Rattle.codes.specs.declared.Opening.TheVariants.{Nothing, Item, Message}
use Rattle.codes.proofs.CodeLaws.{audio-code, lsd-code}
use Rattle.slots.specs.Slots.{due_by, due_after_now, due_after, slot_of}
use Rattle.words.specs.Readings.{reading_in, obeyed}
use Rattle.slots.specs.declared.Due.TheVariants.{Plain, AnItem}
use Rattle.words.specs.declared.Reading.{Reading}
use Rattle.words.specs.declared.Reading.TheVariants.{Mended}
use Rattle.words.proofs.CommandLaws.{item_no_command}
use Rattle.sender.specs.State.{chosen_mode}
use Rattle.control.specs.Plans.{plan_by}
use Rattle.control.specs.Refusals.{is_audio, is_lsd, clashes, goes_plain, goes_as_item}
use Rattle.sender.specs.declared.Sender.{Sender}
use Rattle.control.specs.declared.Rule.{Rule}
use Rattle.control.specs.declared.Rule.TheVariants.{AsItem, MuteOff, Release, Offered}
use Rattle.sender.proofs.StateLaws.{Kept}
use Rattle.promises.specs.Demand2.{commanded}
use Rattle.bits.proofs.BoolLaws.{or_left_false, or_right_false}

-- ---- what is known of a word that goes
pub record Sends (s : Sender) (code : ℕ) (rule : Rule) : Type 0 where
  pub kept : Kept s
  pub known : goes_plain rule ≡ true → sender_carries code ≡ true
  pub apart : goes_plain rule ≡ true → clashes s code ≡ false

-- ---- audio in force has a command of its own
audio-command : (v : ℕ) → listed_audio v ≡ true → eqb v 0 ≡ false → command_of (written audio_attribute v) ≡ SetAudio v
unfolding command_of
audio-command v l n =
    let small = audio-small v l in
    let w = written audio_attribute v in
    let same : w ≡ v = omega arith in
    let attr : w / 32 ≡ 0 = omega arith in
    let val : w % 32 ≡ v = omega arith in
    rw (same, n, eq-eqb (v / 32) 0 (sym (ap (λ (k : ℕ). k / 32) same) ∙ attr), sym (ap (λ (k : ℕ). k % 32) same) ∙ val, l)

audio-carried : (v : ℕ) → listed_audio v ≡ true → carried (written audio_attribute v) ≡ true
unfolding carried
audio-carried v l =
    let small = audio-small v l in
    let w = written audio_attribute v in
    let attr : w / 32 ≡ 0 = omega arith in
    let val : w % 32 ≡ v = omega arith in
    rw (eq-eqb (w / 32) 0 attr, val, l)

module _ (s : Sender) (code : ℕ) where
  -- a word that is no item is on the reader's list too
  pub plain_carried : (rule : Rule) → Sends s code rule → goes_as_item rule ≡ false → reader_carries (plan_by rule s code).word ≡ true
  unfolding plan_by reader_carries sender_carries
  plain_carried AsItem k e = absurd (false≢true (sym e))
  plain_carried MuteOff k e = audio-carried audio_off off-ranged.spoken
  plain_carried Release k e = audio-carried s.chosen k.kept.ranges.spoken
  plain_carried Offered k e = k.known refl

  pub word_small : (rule : Rule) → Sends s code rule → code < 256 → (plan_by rule s code).word < 256
  unfolding plan_by
  word_small AsItem k small = small
  word_small MuteOff k small = omega arith
  word_small Release k small = let l = audio-small s.chosen k.kept.ranges.spoken in omega arith
  word_small Offered k small = small

  -- what a word does to the sender's mode is what its command says
  pub plan-mode : (rule : Rule) → Sends s code rule
      → (plan_by rule s code).mode ≡ commanded (cond (goes_as_item rule) AnItem Plain) (plan_by rule s code).word s.mode
  unfolding plan_by offered
  plan-mode AsItem k = refl
  plan-mode MuteOff k = rw (audio-command audio_off off-ranged.spoken off-ranged.named)
  plan-mode Release k = rw (audio-command s.chosen k.kept.ranges.spoken k.kept.ranges.named)
  plan-mode Offered k = refl

-- ---- a word that is carried opens no message
message_marker : (w : ℕ) → opening_of w ≡ Message → (w / 32 ≡ 7) × (24 < w % 32)
unfolding opening_of
message_marker w = go (eqb (attribute w) 0b111) (leb (value w) 23) (eqb (value w) 24) refl refl refl
  where
    go : (a b c : Bool) → eqb (attribute w) 0b111 ≡ a → leb (value w) 23 ≡ b → eqb (value w) 24 ≡ c
        → cond a (cond b Item (cond c Nothing Message)) Nothing ≡ Message → (w / 32 ≡ 7) × (24 < w % 32)
    go false b c ea eb ec e = let z : ◌≡◌ {A = ℕ} 0 1 = cc in absurd (omega arith)
    go true true c ea eb ec e = let z : ◌≡◌ {A = ℕ} 0 1 = cc in absurd (omega arith)
    go true false true ea eb ec e = let z : ◌≡◌ {A = ℕ} 0 1 = cc in absurd (omega arith)
    go true false false ea eb ec e =
        let high = leb-false (value w) 23 eb in
        let other : w % 32 ≡ 24 → ⊥ = eqb-false (value w) 24 ec in
        (eqb-true (attribute w) 7 ea, omega arith)

marker_not_carried : (w : ℕ) → w / 32 ≡ 7 → 24 < w % 32 → carried w ≡ false
unfolding carried
marker_not_carried w a v =
    simp (ne_eqb (w / 32) 0 (omega arith), ne_eqb (w / 32) 3 (omega arith), ne_eqb w 32 (omega arith), lt-leb (w / 32) 6 (omega arith), lt-leb (w % 32) 20 (omega arith), ne_eqb (w % 32) 24 (omega arith), and-false, or-false)

due-follows : (w : ℕ) → reader_carries w ≡ true → (opening : Opening) → opening_of w ≡ opening
    → due_by opening ≡ cond (not (eqb (slot_of (due_by opening)).kind 0)) AnItem Plain
unfolding reader_carries
due-follows w k Nothing e = refl
due-follows w k Item e = refl
due-follows w k Message e =
    let m = message_marker w e in
    absurd (false≢true (sym (marker_not_carried w m.0 m.1) ∙ k))

-- ---- a command that the sender takes overlaps nothing at the reader, so that it is followed as it was offered
module _ (m : Mode) where
  follow-offer : (command : Command)
      → ((v : ℕ) → command ≡ SetAudio v → overlaps (with_audio m v) ≡ false)
      → ((v : ℕ) → command ≡ SetLsd v → overlaps (with_lsd m v) ≡ false)
      → followed command m ≡ offered command m
  unfolding followed offered
  follow-offer Neutral a d = refl
  follow-offer (SetAudio v) a d = cleared-voice _ ∙ rw (a v refl)
  follow-offer (SetLsd v) a d = cleared-lsd _ ∙ rw (d v refl)
  follow-offer NoEffect a d = refl

module _ (s : Sender) (k : Kept s) where
  audio-apart : (w c v : ℕ) → command_of w ≡ SetAudio c → overlaps (with_audio s.mode c) ≡ false → command_of w ≡ SetAudio v
      → overlaps (with_audio s.mode v) ≡ false
  audio-apart w c v is apart e =
      let both : SetAudio v ≡ SetAudio c = sym e ∙ is in
      let same : v ≡ c = cc in
      ap (λ (n : ℕ). overlaps (with_audio s.mode n)) same ∙ apart

  no_lsd : (w c v : ℕ) → command_of w ≡ SetAudio c → command_of w ≡ SetLsd v → overlaps (with_lsd s.mode v) ≡ false
  no_lsd w c v is e =
      let both : SetLsd v ≡ SetAudio c = sym e ∙ is in
      let z : ◌≡◌ {A = ℕ} 0 1 = cc in
      absurd (omega arith)

  -- in force is off, which overlaps nothing, or the chosen audio
  pub force-apart : (v : ℕ) → overlaps (with_lsd (chosen_mode s) v) ≡ false → overlaps (with_lsd s.mode v) ≡ false
  force-apart v apart = go (eqb s.mode.audio audio_off) refl k.force
    where
      go : (b : Bool) → eqb s.mode.audio audio_off ≡ b → (b || eqb s.mode.audio s.chosen) ≡ true
          → overlaps (with_lsd s.mode v) ≡ false
      go true e f = overlaps_by _ (with_audio (with_lsd s.mode v) audio_off) (eqb-true s.mode.audio audio_off e) refl ∙ audio-off-apart (with_lsd s.mode v)
      go false e f = overlaps_by _ (with_lsd (chosen_mode s) v) (eqb-true s.mode.audio s.chosen f) refl ∙ apart

  module _ (code : ℕ) (none : clashes s code ≡ false) where
    abbrev spoken : Bool
    spoken = is_audio code && overlaps (with_audio s.mode (value code))

    abbrev given : Bool
    given = is_lsd code && overlaps (with_lsd (chosen_mode s) (value code))

    offered-audio : (v : ℕ) → command_of code ≡ SetAudio v → overlaps (with_audio s.mode v) ≡ false
    unfolding clashes
    offered-audio v e =
        let a = audio-code code v e in
        ap (λ (n : ℕ). overlaps (with_audio s.mode n)) a.is ∙ rw a.kind at (or_left_false spoken given none)

    offered-lsd : (v : ℕ) → command_of code ≡ SetLsd v → overlaps (with_lsd s.mode v) ≡ false
    unfolding clashes
    offered-lsd v e =
        let d = lsd-code code v e in
        force-apart v (ap (λ (n : ℕ). overlaps (with_lsd (chosen_mode s) n)) d.is ∙ rw d.kind at (or_right_false spoken given none))

-- ---- the reading of a word in the slot that is due
obeyed-mended : (w : ℕ) (m : Mode) → obeyed (Mended w) m ≡ followed (command_of w) m
unfolding obeyed
obeyed-mended w m = refl

plain-mended : (w : ℕ) → reader_carries w ≡ true → reading_in Plain (Some w) ≡ Mended w
unfolding reading_in
plain-mended w k = rw (k, and-false)

module _ (s : Sender) (code : ℕ) where
  followed_as_planned : (rule : Rule) → Sends s code rule → goes_as_item rule ≡ false
      → followed (command_of (plan_by rule s code).word) s.mode ≡ offered (command_of (plan_by rule s code).word) s.mode
  unfolding plan_by
  followed_as_planned AsItem k e = absurd (false≢true (sym e))
  followed_as_planned MuteOff k e =
      let w = written audio_attribute audio_off in
      let is = audio-command audio_off off-ranged.spoken off-ranged.named in
      follow-offer s.mode _ (λ v e. audio-apart s k.kept w audio_off v is (audio-off-apart s.mode) e) (λ v e. no_lsd s k.kept w audio_off v is e)
  followed_as_planned Release k e =
      let w = written audio_attribute s.chosen in
      let is = audio-command s.chosen k.kept.ranges.spoken k.kept.ranges.named in
      follow-offer s.mode _ (λ v e. audio-apart s k.kept w s.chosen v is k.kept.ranges.apart e) (λ v e. no_lsd s k.kept w s.chosen v is e)
  followed_as_planned Offered k e =
      follow-offer s.mode _ (offered-audio s k.kept code (k.apart refl)) (offered-lsd s k.kept code (k.apart refl))

  -- the reader's mode after the word is the sender's
  pub mode-follows : (rule : Rule) → Sends s code rule
      → obeyed (reading_in (cond (goes_as_item rule) AnItem Plain) (Some (plan_by rule s code).word)) s.mode ≡ (plan_by rule s code).mode
  mode-follows rule k = go (goes_as_item rule) refl
    where
      w : ℕ
      w = (plan_by rule s code).word

      go : (b : Bool) → goes_as_item rule ≡ b → obeyed (reading_in (cond b AnItem Plain) (Some w)) s.mode ≡ (plan_by rule s code).mode
      go true e = item_no_command (Some w) s.mode ∙ sym (plan-mode s code rule k ∙ rw e)
      go false e =
          ap (λ (r : Reading). obeyed r s.mode) (plain-mended w (plain_carried s code rule k e))
          ∙ obeyed-mended w s.mode
          ∙ followed_as_planned rule k e
          ∙ sym (plan-mode s code rule k ∙ rw e)

  -- and the word due after it is the same
  pub due-after_same : (rule : Rule) → Sends s code rule
      → due_after_now (cond (goes_as_item rule) AnItem Plain) (Some (plan_by rule s code).word)
      ≡ cond (not (eqb (plan_by rule s code).due 0)) AnItem Plain
  unfolding plan_by opening_of due_after
  due-after_same AsItem k = refl
  due-after_same MuteOff k = refl
  due-after_same Release k =
      let l = audio-small s.chosen k.kept.ranges.spoken in
      rw (ne_eqb (written audio_attribute s.chosen / 32) 7 (omega arith))
  due-after_same Offered k = due-follows code (plain_carried s code Offered k refl) (opening_of code) refl
