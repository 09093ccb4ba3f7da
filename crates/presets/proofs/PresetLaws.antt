-- A preset that is written reads back, and its values are small.
use mathlib.Core.Path.{◌≡◌, refl}
use mathlib.Core.Bool.{true}
use Prim.Native.Nat.{◌%◌, ◌<◌}
use native.Mathlib.Omega.{arith}
use borrow.Author.Tests.{eq-eqb, not-false}
use Rattle.modes.specs.Modes.{mode}
use Rattle.modes.proofs.ModeLaws.{in-range, ranged_by}
use Rattle.codes.specs.Codes.{written, lsd_attribute}
use Rattle.sender.specs.State.{chosen_mode, state_in_range, fresh_with}
use Rattle.sender.specs.declared.Sender.{Sender}
use Rattle.sender.proofs.StateLaws.{kept, chosen-small, lsd_in_force_small}
use Rattle.refusals.specs.Rows.{first_given}
use Rattle.refusals.proofs.RowLaws.{none_given}
use Rattle.presets.specs.Presets.{preset_of, audio_in, lsd_in, is_preset, preset_read, written_rows}
use Rattle.std.specs.Prelude.{Ok}

-- reading back what was written gives the same chosen audio and data code
pub preset_back : (s : Sender) → state_in_range s ≡ true
    → preset_read (preset_of s.chosen s.mode.lsd)
    ≡ Ok (record { state = fresh_with s.chosen; offer = written lsd_attribute s.mode.lsd })
unfolding preset_read is_preset
preset_back s r =
    let a = s.chosen in
    let d = s.mode.lsd in
    let ha = chosen-small s r in
    let hd = lsd_in_force_small s r in
    let ea : audio_in (preset_of a d) ≡ a = omega arith in
    let ed : lsd_in (preset_of a d) ≡ d = omega arith in
    let ez : preset_of a d % 64 ≡ 0 = omega arith in
    let valid : is_preset (preset_of a d) ≡ true =
    rw (ea, ed, eq-eqb _ 0 ez, in-range (mode a d) (ranged_by (chosen_mode s) (mode a d) refl refl (kept s r).ranges)) in
    rw (valid, ea, ed)

-- a state that is not refused holds small values
pub written-small : (s : Sender) → first_given (written_rows s) ≡ Ok tt → (s.chosen < 32) × (s.mode.lsd < 15)
written-small s e =
    let ranged = not-false _ (none_given (written_rows s) e).0 in
    (chosen-small s ranged, lsd_in_force_small s ranged)
