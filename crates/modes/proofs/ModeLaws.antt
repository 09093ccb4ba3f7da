-- Laws of modes: when two modes are one, that audio off overlaps nothing, what is cleared, and what being in range says.
use mathlib.Core.Path.{◌≡◌, refl, sym, ◌∙◌}
use mathlib.Core.Bool.{true, false, not, cond, ◌&&◌}
use Prim.Native.Nat.{ℕ}
use lib.Dec.{eqb}
use borrow.Author.Tests.{eqb-true, eq-eqb, not-true}
use Rattle.bits.proofs.BoolLaws.{and_left, and_right}
use Rattle.table.specs.Table.{audio_table, lsd_table, beside, audio_listed, lsd_listed, audio_places, lsd_places, listed_audio, listed_lsd}
use Rattle.modes.specs.Owners.{holds, held_by, some, clash, overlaps}
use Rattle.modes.specs.Modes.{audio_off, lsd_off, off, with_audio, with_lsd, same_mode, given_way, cleared, in_range}
use Rattle.modes.specs.declared.Mode.{Mode}
use Rattle.modes.specs.declared.Owner.TheVariants.{Voice, Lsd}
use Rattle.table.proofs.TableLaws.{audio_shape}
use Rattle.modes.proofs.OwnerLaws.{clash_swapped, overlaps_two, overlaps_is}

-- ---- two modes are one where their fields are
pub same-mode : (m n : Mode) → same_mode m n ≡ true → m ≡ n
same-mode m n t =
    let audio = eqb m.audio n.audio in
    let lsd = eqb m.lsd n.lsd in
    let ea = eqb-true m.audio n.audio (and_left audio lsd t) in
    let ed = eqb-true m.lsd n.lsd (and_right audio lsd t) in
    λ i. record { audio = ea i; lsd = ed i }

pub same_mode_self : (m : Mode) → same_mode m m ≡ true
same_mode_self m = rw (eq-eqb m.audio m.audio refl, eq-eqb m.lsd m.lsd refl)

-- ---- whether streams overlap goes by their two values alone
pub overlaps_by : (m n : Mode) → m.audio ≡ n.audio → m.lsd ≡ n.lsd → overlaps m ≡ overlaps n
unfolding overlaps held_by
overlaps_by m n a d = rw (a, d)

-- ---- audio that holds no octet bits overlaps nothing, whatever else the mode m has
no_bits_apart : (m : Mode) (v : ℕ) → (audio_places v).to ≡ 0 → overlaps (with_audio m v) ≡ false
no_bits_apart m v none = overlaps_is (with_audio m v) ∙ rw ((audio_shape v).0, none, (audio_shape v).1, (audio_shape v).2)

-- 'Refusal numbers', of (000)[0] and (000)[31]: neither overlaps anything
pub neutral-apart : (m : Mode) → overlaps (with_audio m 0) ≡ false
unfolding audio_places audio_listed audio_table beside
neutral-apart m = no_bits_apart m 0 refl

pub audio-off-apart : (m : Mode) → overlaps (with_audio m audio_off) ≡ false
unfolding audio_places audio_listed audio_table beside
audio-off-apart m = no_bits_apart m audio_off refl

-- ---- what clearing room for a stream leaves: nothing changes where nothing overlaps
pub cleared-voice : (m : Mode) → cleared Voice m ≡ cond (overlaps m) (with_lsd m lsd_off) m
unfolding cleared given_way
cleared-voice m = rw (overlaps_two m)

pub cleared-lsd : (m : Mode) → cleared Lsd m ≡ cond (overlaps m) (with_audio m audio_off) m
unfolding cleared given_way
cleared-lsd m = rw (overlaps_two m, clash_swapped (held_by m Voice) (held_by m Lsd))

-- ---- in range, taken apart and put together
pub record Ranged (m : Mode) : Type 0 where
  pub spoken : listed_audio m.audio ≡ true
  pub named : eqb m.audio 0 ≡ false
  pub given : listed_lsd m.lsd ≡ true
  pub apart : overlaps m ≡ false

pub ranged : (m : Mode) → in_range m ≡ true → Ranged m
unfolding in_range
ranged m t =
    let a = listed_audio m.audio in
    let b = not (eqb m.audio 0) in
    let c = listed_lsd m.lsd in
    let d = not (overlaps m) in
    let t3 = and_left (a && b && c) d t in
    let t2 = and_left (a && b) c t3 in
    record {
      spoken = and_left a b t2;
      named = not-true (eqb m.audio 0) (and_right a b t2);
      given = and_right (a && b) c t3;
      apart = not-true (overlaps m) (and_right (a && b && c) d t);
    }

pub in-range : (m : Mode) → Ranged m → in_range m ≡ true
unfolding in_range
in-range m r = rw (r.spoken, r.named, r.given, r.apart)

-- whether a mode is in range goes by its audio and its data alone
pub ranged_by : (m n : Mode) → m.audio ≡ n.audio → m.lsd ≡ n.lsd → Ranged m → Ranged n
ranged_by m n a d r =
    record { spoken = rw (← a) r.spoken; named = rw (← a) r.named; given = rw (← d) r.given; apart = sym (overlaps_by m n a d) ∙ r.apart }

-- off is in range, which antt computes
pub off-ranged : Ranged off
unfolding audio_places audio_listed audio_table lsd_places lsd_listed lsd_table beside overlaps clash some holds held_by
off-ranged = record { spoken = refl; named = refl; given = refl; apart = refl }
