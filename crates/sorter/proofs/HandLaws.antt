-- What a call of `hand_out` tells, by whether its lengths fit.
use mathlib.Core.Path.{◌≡◌, ap, sym}
use mathlib.Core.Bool.{Bool, cond}
use mathlib.Core.List.{List}
use Prim.Native.Nat.{ℕ}
use lib.ListN.{length}
use Rattle.bits.proofs.Settled.{settled}
use Rattle.modes.specs.declared.Mode.{Mode}
use Rattle.buffers.specs.Buffers.{Buffers, lengths}
use Rattle.buffers.specs.Lengths.{fitting}
use Rattle.sorter.specs.Sorting.{streams_of, buffers_after}

module _ (m : Mode) (line : List ℕ) (b : Buffers) where
  -- what its contract says
  abbrev pub Told : Bool → Buffers → Type 0
  Told r after = (r ≡ fitting (length line) (lengths b)) × (after ≡ buffers_after m line b)

  -- where a length is wrong, nothing was touched; else each buffer holds its stream
  pub told : (fit : Bool) → fitting (length line) (lengths b) ≡ fit → Told fit (cond fit (streams_of m line) b)
  unfolding buffers_after
  told fit e = (sym e, ap (λ (t : Bool). cond t (streams_of m line) b) (sym e))

  -- any two outcomes that it allows are equal
  pub hand_out_settled : (r q : Bool) (x y : Buffers) → Told r x → Told q y → (r ≡ q) × (x ≡ y)
  hand_out_settled r q x y s t = (settled s.0 t.0, settled s.1 t.1)
