-- Any two outcomes that the contract of a step over a walk allows are equal.
use mathlib.Core.Path.{◌≡◌, ap}
use mathlib.Core.Bool.{Bool}
use mathlib.Core.List.{List}
use Prim.Native.Nat.{ℕ}
use Rattle.bits.proofs.Settled.{settled}
use Rattle.buffers.specs.Buffers.{Buffers}
use Rattle.reader.specs.declared.Reader.{Reader}
use Rattle.recording.specs.Walk.{Stepped, stepped, step_at, buffers_at}
use Rattle.recording.specs.Refusals.{Answer}
use Rattle.recording.proofs.StepLaws.{Left, step-settled}
use Rattle.walk.specs.Walks.{onward}
use Rattle.walk.specs.declared.Walk.{Walk}

module _ (w : Walk) (s : Reader) (b : Buffers) where
  -- what the contract of `step` says of the walk, the reader's state and the answer that it leaves, and of the buffers
  pub record Told (v : Walk) (n : Reader) (r : Answer) (after : Buffers) : Type 0 where
    pub moved : v ≡ onward w (step_at w.recording.now w.stand.place w.stand.lost s b)
    pub told : stepped v.stand n r ≡ step_at w.recording.now w.stand.place w.stand.lost s b
    pub handed : after ≡ buffers_at w.recording.now w.stand.place w.stand.lost s b

  pub walk-step-settled : (v u : Walk) (n m : Reader) (r q : Answer) (x y : Buffers) → Told v n r x → Told u m q y
      → (v ≡ u) × (n ≡ m) × (r ≡ q) × (x ≡ y)
  walk-step-settled v u n m r q x y f g =
      let same = settled f.told g.told in (
        settled f.moved g.moved,
        ap (λ (z : Stepped). z.reader) same,
        ap (λ (z : Stepped). z.answer) same,
        settled f.handed g.handed,
      )

-- `step_from` has the contract of `recording::step`, and so its law
module _ (recording : List ℕ) (place : ℕ) (lost : Bool) (s : Reader) (b : Buffers) where
  pub step-from-settled : (r q : Stepped) (v w : Buffers) → Left recording place lost s b r v → Left recording place lost s b q w → (r ≡ q) × (v ≡ w)
  step-from-settled = step-settled recording place lost s b
