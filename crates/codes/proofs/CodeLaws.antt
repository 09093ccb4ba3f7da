-- Laws of codes: what a code is as a command.
use mathlib.Core.Path.{◌≡◌, refl, sym, ap, ◌∙◌}
use mathlib.Core.Bool.{Bool, true, false, cond, ◌&&◌}
use Prim.Native.Nat.{ℕ, ◌/◌, ◌<◌}
use native.Mathlib.Omega.{arith}
use lib.Dec.{eqb}
use borrow.Author.Tests.{eqb-true, eqb-false, ne_eqb}
use Rattle.bits.proofs.BoolLaws.{and_left, and_right}
use Rattle.table.specs.Table.{listed_audio, listed_lsd}
use Rattle.codes.specs.Codes.{attribute, value, audio_attribute, lsd_attribute, neutral}
use Rattle.codes.specs.Commands.{command_of}
use Rattle.codes.specs.declared.Command.TheVariants.{Neutral, SetAudio, SetLsd, NoEffect}

pub record AudioCode (code v : ℕ) : Type 0 where
  pub kind : eqb (attribute code) audio_attribute ≡ true
  pub is : v ≡ value code
  pub listed : listed_audio v ≡ true
  pub named : eqb v 0 ≡ false

pub record LsdCode (code v : ℕ) : Type 0 where
  pub kind : eqb (attribute code) lsd_attribute ≡ true
  pub is : v ≡ value code
  pub listed : listed_lsd v ≡ true

module _ (code v : ℕ) where
  audio : Bool
  audio = eqb (attribute code) audio_attribute && listed_audio (value code)

  lsd : Bool
  lsd = eqb (attribute code) lsd_attribute && listed_lsd (value code)

  pub audio-code : command_of code ≡ SetAudio v → AudioCode code v
  unfolding command_of audio lsd
  audio-code = go (eqb code neutral) audio lsd refl refl
    where
      go : (n a d : Bool) → eqb code neutral ≡ n → audio ≡ a
          → cond n Neutral (cond a (SetAudio (value code)) (cond d (SetLsd (value code)) NoEffect)) ≡ SetAudio v → AudioCode code v
      go true a d en ea e = let z : ◌≡◌ {A = ℕ} 0 1 = cc in absurd (omega arith)
      go false true d en ea e =
          let same : v ≡ value code = cc in
          let k = and_left (eqb (attribute code) audio_attribute) (listed_audio (value code)) ea in
          let zero-attribute : code / 32 ≡ 0 = eqb-true (attribute code) audio_attribute k in
          let named : code ≡ 0 → ⊥ = eqb-false code 0 en in
          let small : code < 32 = omega arith in
          let whole : value code ≡ code = omega arith in
          record {
            kind = k;
            is = same;
            listed = ap listed_audio same ∙ and_right (eqb (attribute code) audio_attribute) (listed_audio (value code)) ea;
            named = ne_eqb v 0 (λ z. named (sym (same ∙ whole) ∙ z));
          }
      go false false true en ea e = let z : ◌≡◌ {A = ℕ} 0 1 = cc in absurd (omega arith)
      go false false false en ea e = let z : ◌≡◌ {A = ℕ} 0 1 = cc in absurd (omega arith)

  pub lsd-code : command_of code ≡ SetLsd v → LsdCode code v
  unfolding command_of audio lsd
  lsd-code = go (eqb code neutral) audio lsd refl
    where
      go : (n a d : Bool) → lsd ≡ d
          → cond n Neutral (cond a (SetAudio (value code)) (cond d (SetLsd (value code)) NoEffect)) ≡ SetLsd v → LsdCode code v
      go true a d ed e = let z : ◌≡◌ {A = ℕ} 0 1 = cc in absurd (omega arith)
      go false true d ed e = let z : ◌≡◌ {A = ℕ} 0 1 = cc in absurd (omega arith)
      go false false true ed e =
          let same : v ≡ value code = cc in
          record {
            kind = and_left (eqb (attribute code) lsd_attribute) (listed_lsd (value code)) ed;
            is = same;
            listed = ap listed_lsd same ∙ and_right (eqb (attribute code) lsd_attribute) (listed_lsd (value code)) ed;
          }
      go false false false ed e = let z : ◌≡◌ {A = ℕ} 0 1 = cc in absurd (omega arith)
