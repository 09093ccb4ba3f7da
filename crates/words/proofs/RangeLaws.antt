-- A mode in range stays so, whatever is read.
use mathlib.Core.Path.{◌≡◌, refl, ◌∙◌}
use mathlib.Core.Bool.{Bool, true, false, not, cond}
use Prim.Native.Nat.{ℕ, ◌<◌}
use borrow.Author.Tests.{not-true}
use Rattle.bits.proofs.BoolLaws.{below}
use Rattle.table.specs.Table.{audio_table, lsd_table, beside, audio_places, lsd_places, audio_listed, lsd_listed}
use Rattle.table.proofs.TableLaws.{audio-small}
use Rattle.modes.specs.Owners.{holds, held_by, some, clash, overlaps}
use Rattle.modes.specs.Modes.{audio_off, lsd_off, off, with_audio, with_lsd, in_range}
use Rattle.modes.specs.declared.Mode.{Mode}
use Rattle.modes.proofs.ModeLaws.{Ranged, ranged, in-range, overlaps_by, audio-off-apart, cleared-voice, cleared-lsd, off-ranged}
use Rattle.codes.specs.Commands.{command_of, followed}
use Rattle.codes.specs.declared.Command.{Command}
use Rattle.codes.specs.declared.Command.TheVariants.{Neutral, SetAudio, SetLsd, NoEffect}
use Rattle.codes.proofs.CodeLaws.{audio-code, lsd-code}
use Rattle.words.specs.Readings.{obeyed}
use Rattle.words.specs.declared.Reading.{Reading}
use Rattle.words.specs.declared.Reading.TheVariants.{Mended, Item, MessageWord, ForbiddenItem, NotFollowed, Unreadable, NotRead}

-- where data is off, audio overlaps nothing: antt computes it at each value
off-apart : (v : ℕ) → v < 32 → overlaps (with_audio off v) ≡ false
unfolding audio_places audio_listed audio_table lsd_places lsd_listed lsd_table beside overlaps clash some holds held_by
off-apart v small = not-true _ (below 32 (λ (k : ℕ). not (overlaps (with_audio off k))) refl v small)

lsd-off-apart : (m : Mode) → m.audio < 32 → overlaps (with_lsd m lsd_off) ≡ false
lsd-off-apart m small = overlaps_by (with_lsd m lsd_off) (with_audio off m.audio) refl refl ∙ off-apart m.audio small

module _ (code : ℕ) (m : Mode) (r : Ranged m) where
  by_command : (command : Command) → command_of code ≡ command → Ranged (followed command m)
  unfolding followed
  by_command Neutral e = off-ranged
  by_command (SetAudio v) e = rw (cleared-voice (with_audio m v)) (go (overlaps (with_audio m v)) refl)
    where
      go : (b : Bool) → overlaps (with_audio m v) ≡ b → Ranged (cond b (with_lsd (with_audio m v) lsd_off) (with_audio m v))
      go true o =
          let a = audio-code code v e in
          record { spoken = a.listed; named = a.named; given = off-ranged.given; apart = lsd-off-apart (with_audio m v) (audio-small v a.listed) }
      go false o =
          let a = audio-code code v e in
          record { spoken = a.listed; named = a.named; given = r.given; apart = o }
  by_command (SetLsd v) e = rw (cleared-lsd (with_lsd m v)) (go (overlaps (with_lsd m v)) refl)
    where
      go : (b : Bool) → overlaps (with_lsd m v) ≡ b → Ranged (cond b (with_audio (with_lsd m v) audio_off) (with_lsd m v))
      go true o =
          let d = lsd-code code v e in
          record { spoken = off-ranged.spoken; named = off-ranged.named; given = d.listed; apart = audio-off-apart (with_lsd m v) }
      go false o =
          let d = lsd-code code v e in
          record { spoken = r.spoken; named = r.named; given = d.listed; apart = o }
  by_command NoEffect e = r

pub obeyed_in_range : (reading : Reading) (m : Mode) → in_range m ≡ true → in_range (obeyed reading m) ≡ true
unfolding obeyed
obeyed_in_range (Mended code) m t = in-range _ (by_command code m (ranged m t) (command_of code) refl)
obeyed_in_range (Item code) m t = t
obeyed_in_range (MessageWord code) m t = t
obeyed_in_range (ForbiddenItem code) m t = t
obeyed_in_range (NotFollowed code) m t = t
obeyed_in_range Unreadable m t = t
obeyed_in_range NotRead m t = t
