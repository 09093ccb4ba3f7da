-- Laws of the next bits of a stream: how many they are, that they are its first ones where it has so many, and that they come in parts.
use mathlib.Core.Path.{◌≡◌, refl, ap}
use mathlib.Core.Bool.{Bool}
use mathlib.Core.List.{List, [], ◌∷◌, ◌++◌}
use Prim.Native.Nat.{ℕ, zero, suc, ◌+◌, ◌≤◌}
use native.Mathlib.Nat.{zero-add, suc-add, not-suc-le-zero, le_of_suc-le-suc}
use native.Mathlib.Numerals.{one-add}
use lib.ListN.{length, take, drop}
use lib.Seq.{drop-drop}
use Rattle.bits.specs.Bits.{nexts}

pub length-nexts : (n : ℕ) (l : List Bool) → length (nexts n l) ≡ n
unfolding nexts
length-nexts zero l = refl
length-nexts (suc n) l = ap suc (length-nexts n (drop 1 l))

pub nexts-take : (n : ℕ) (l : List Bool) → n ≤ length l → nexts n l ≡ take n l
unfolding nexts
nexts-take zero l h = refl
nexts-take (suc n) [] h = absurd (not-suc-le-zero h)
nexts-take (suc n) (b ∷ bs) h = rw (nexts-take n bs (le_of_suc-le-suc h))

pub nexts-append : (m n : ℕ) (l : List Bool) → nexts (m + n) l ≡ nexts m l ++ nexts n (drop m l)
unfolding nexts
nexts-append zero n l = rw zero-add
nexts-append (suc m) n l = rw (suc-add, nexts-append m n (drop 1 l), drop-drop m 1 l, one-add)
