-- A walk's step in numbers: one that moves nothing gives the mark back as it was.
use mathlib.Core.Path.{◌≡◌, refl}
use Prim.Native.Nat.{ℕ, zero, suc}
use native.Mathlib.Nat.{suc-ne-zero}
use borrow.Author.Tests.{ne_eqb}
use Rattle.calls.specs.Sending.{on}
use Rattle.calls.specs.Walking.{mark_after}

-- a mark that a step leaves is the one that was given
pub mark_still : (mark : ℕ) → mark_after mark (on mark) ≡ mark
mark_still zero = refl
mark_still (suc n) = rw (ne_eqb (suc n) 0 (suc-ne-zero n)) refl
