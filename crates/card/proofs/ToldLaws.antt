-- Any two outcomes that the contract of a call over a lent state allows are equal.
use mathlib.Core.Path.{◌≡◌}
use mathlib.Core.List.{List}
use Prim.Native.Nat.{ℕ}
use Rattle.bits.proofs.Settled.{settled}
use Rattle.buffers.specs.Buffers.{Buffers}
use Rattle.sender.specs.declared.Sender.{Sender}
use Rattle.control.specs.declared.Call.{Call}
use Rattle.reader.specs.declared.Reader.{Reader}
use Rattle.answers.specs.declared.SendAnswer.{SendAnswer}
use Rattle.answers.specs.declared.ReadAnswer.{ReadAnswer}
use Rattle.answers.specs.declared.StepAnswer.{StepAnswer}
use Rattle.keeping.specs.declared.WalkState.{WalkState}
use Rattle.presetting.specs.declared.PresetAnswer.{PresetAnswer}
use Rattle.card.specs.Told.{SendTold, ReadTold, StepTold, PresetTold}

pub delampuk_send_settled : (s : Sender) (c : Call) (b : Buffers) (line : List ℕ) (r q : SendAnswer) (n m : Sender) (l k : List ℕ)
    → SendTold s c b line r n l → SendTold s c b line q m k → (r ≡ q) × (n ≡ m) × (l ≡ k)
delampuk_send_settled s c b line r q n m l k x y = (settled x.0 y.0, settled x.1 y.1, settled x.2 y.2)

pub delampuk_read_settled : (s : Reader) (line : List ℕ) (b : Buffers) (r q : ReadAnswer) (n m : Reader) (v w : Buffers)
    → ReadTold s line b r n v → ReadTold s line b q m w → (r ≡ q) × (n ≡ m) × (v ≡ w)
delampuk_read_settled s line b r q n m v w x y = (settled x.0 y.0, settled x.1 y.1, settled x.2 y.2)

pub delampuk_step_settled : (w : WalkState) (recording : List ℕ) (b : Buffers) (r q : StepAnswer) (n m : WalkState) (v u : Buffers)
    → StepTold w recording b r n v → StepTold w recording b q m u → (r ≡ q) × (n ≡ m) × (v ≡ u)
delampuk_step_settled w recording b r q n m v u x y = (settled x.0 y.0, settled x.1 y.1, settled x.2 y.2)

pub delampuk_read_preset_settled : (s : Sender) (bits : ℕ) (r q : PresetAnswer) (n m : Sender)
    → PresetTold s bits r n → PresetTold s bits q m → (r ≡ q) × (n ≡ m)
delampuk_read_preset_settled s bits r q n m x y = (settled x.0 y.0, settled x.1 y.1)
