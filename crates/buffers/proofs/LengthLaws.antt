-- The lengths of a block and its buffers: out of the rows and the test that look at them, and back.
use mathlib.Core.Path.{◌≡◌, ap₂}
use mathlib.Core.Bool.{true, false, not, ◌&&◌}
use Prim.Native.Nat.{ℕ}
use borrow.Author.Tests.{eqb-true, not-false}
use lib.Dec.{eqb}
use Rattle.bits.proofs.BoolLaws.{and_left, and_right}
use Rattle.buffers.specs.Buffers.{Each, each}
use Rattle.buffers.specs.Lengths.{line_octets, stream_octets, fitting}

-- equal parts make equal wholes
pub same_each : {A : Type 0} {v w d e : A} → v ≡ w → d ≡ e → each v d ≡ each w e
same_each p q = ap₂ each p q

-- buffers of which no row is given have their lengths
pub streams-fit : (n : Each ℕ) → not (eqb n.voice stream_octets.voice) ≡ false → not (eqb n.lsd stream_octets.lsd) ≡ false → n ≡ stream_octets
streams-fit n v d = same_each (eqb-true _ _ (not-false _ v)) (eqb-true _ _ (not-false _ d))

-- the lengths out of their test
pub fit-lengths : (line : ℕ) (n : Each ℕ) → fitting line n ≡ true → (line ≡ line_octets) × (n ≡ stream_octets)
unfolding fitting
fit-lengths line n e =
    let l = eqb line line_octets in
    let v = eqb n.voice stream_octets.voice in
    let d = eqb n.lsd stream_octets.lsd in
    let two : (l && v) ≡ true = and_left (l && v) d e in (
      eqb-true line line_octets (and_left l v two),
      same_each (eqb-true _ _ (and_right l v two)) (eqb-true _ _ (and_right (l && v) d e)),
    )

-- and into it
pub fits : (line : ℕ) (n : Each ℕ) → line ≡ line_octets → n ≡ stream_octets → fitting line n ≡ true
unfolding fitting
fits line n l e = rw (l, e)
