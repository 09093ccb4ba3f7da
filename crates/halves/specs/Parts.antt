-- Eight octets of a frame together, as one number: a frame is ten of them, each the sum of two parts. No public contract speaks of it;
-- proofs/PartLaws shows that the octets are those of the frame.
use Rattle.std.specs.Prelude.{Bool, true, List, [], ℕ, ◌+◌, ◌-◌, ◌*◌, ◌^◌, get_or, drop}
use Rattle.bits.specs.Bits.{number, digit, nexts}
use Rattle.eights.specs.Eight.{eights}
use Rattle.halves.specs.Sources.{by_owner}
use Rattle.places.specs.Layout.{channel_by, sc}
use Rattle.places.specs.declared.Layout.{Layout}

-- eight k of a frame's ten, each octet as a rule gives it
unfoldable pub word_at : (ℕ → ℕ) → ℕ → ℕ
word_at rule k = eights (λ (j : ℕ). rule (8 * k + j))

-- octet o + 1 of a frame in two parts: voice and nobody's ones, and data's columns with the SC bit below them (DECISIONS F53)
unfoldable pub head_at : Layout → List Bool → ℕ → ℕ
head_at p voice o =
    let ones = 2 ^ (7 - (p.width + p.columns)) in
    (number (nexts p.width (drop (o * p.width) voice)) * ones + (ones - 1)) * 2 ^ (p.columns + 1)

unfoldable pub tail_at : Layout → List Bool → List Bool → ℕ → ℕ
tail_at p service lsd o =
    let at = o * p.columns + sc p o in
    number (nexts p.columns (drop at lsd)) * 2
    + digit (get_or (by_owner (drop o service) [] (drop (at + p.columns) lsd) (channel_by p (o + 1))) 0 true)
