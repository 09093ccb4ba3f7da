-- Demand 3 meets demand 2: mute's own "audio off" is read by a reader in step as the command that it is.
use mathlib.Core.Path.{◌≡◌, refl, sym, ap, ap₂, ◌∙◌}
use mathlib.Core.List.{List, [], ◌∷◌}
use mathlib.Core.Logic.{◌⊎◌, inl, inr}
use Prim.Native.Nat.{ℕ, zero, suc}
use native.Mathlib.Omega.{arith}
use Rattle.std.specs.Prelude.{Some}
use Rattle.table.specs.Table.{audio_table, beside, audio_places, audio_listed}
use Rattle.modes.specs.Modes.{audio_off}
use Rattle.modes.specs.declared.Mode.{Mode}
use Rattle.codes.specs.Carried.{carried, reader_carries}
use Rattle.codes.specs.Commands.{command_of, offered}
use Rattle.words.specs.Readings.{reading_in}
use Rattle.slots.specs.declared.Due.{Due}
use Rattle.slots.specs.declared.Due.TheVariants.{Plain}
use Rattle.words.specs.declared.Reading.TheVariants.{Mended}
use Rattle.control.specs.declared.Rule.{Rule}
use Rattle.reader.specs.declared.Reader.{Reader}
use Rattle.promises.specs.Session.{after, Entry, log}
use Rattle.promises.specs.Demand2.{word_sent, commanded, reader_after, Back, AllBack}
use Rattle.promises.specs.Demand3.{MuteGone, By, MuteHeard, HeardBy, MuteIsHeard}
use Rattle.promises.proofs.TurnLaws.{Stayed, Moved, turn_cases}
use Rattle.promises.proofs.InStepLaws.{goes_on, stays_in_step}
use Rattle.promises.proofs.MuteLaws.{mute_bound}

-- the word "audio off", plain, is read as that command
off-mended : reading_in Plain (Some audio_off) ≡ Mended audio_off
unfolding reading_in reader_carries carried audio_places audio_listed audio_table beside
off-mended = refl

word-off : (e : Entry) → MuteGone e → word_sent e ≡ audio_off
word-off e g = rw (g.held, g.muted)

-- and turns the audio in force off
off-offered : (m : Mode) → (offered (command_of audio_off) m).audio ≡ audio_off
unfolding offered command_of audio_places audio_listed audio_table beside
off-offered m = refl

force-off : (e : Entry) → MuteGone e → (after e.found e.turn).mode.audio ≡ audio_off
force-off e g = go (turn_cases e.found e.turn)
  where
    go : Stayed e.found e.turn ⊎ ((rule : Rule) × Moved e.found e.turn rule) → (after e.found e.turn).mode.audio ≡ audio_off
    go (inl k) = let both = sym g.held ∙ k.answer in let z : ◌≡◌ {A = ℕ} 0 1 = cc in absurd (omega arith)
    go (inr (rule, w)) =
        ap (λ (m : Mode). m.audio) (goes_on e.found e.turn rule w).mode
        ∙ ap₂ (λ (d : Due) (n : ℕ). (commanded d n e.found.mode).audio) g.command (word-off e g)
        ∙ off-offered e.found.mode

heard : (e : Entry) (r : Reader) → MuteGone e → Back e r → MuteHeard e r
heard e r g b =
    record {
      gone = g;
      read = λ o out h. h.word ∙ ap₂ (λ (d : Due) (n : ℕ). reading_in d (Some n)) g.command (word-off e g) ∙ off-mended;
      closed = ap (λ (m : Mode). m.audio) b.step.mode ∙ force-off e g;
    }

heard_by : (n : ℕ) (r : Reader) (es : List Entry) → By n MuteGone es → AllBack r es → HeardBy n r es
heard_by zero r es b all = b
heard_by (suc n) r [] b all = tt
heard_by (suc n) r (e ∷ es) (inl g) all = inl (heard e r g all.0)
heard_by (suc n) r (e ∷ es) (inr b) all = inr (heard_by n (reader_after r e) es b all.1)

pub mute_is_heard : MuteIsHeard
mute_is_heard s r xs sounds stays bits st = heard_by 2 r (log s xs) (mute_bound s xs sounds stays) (stays_in_step s r xs bits st)
