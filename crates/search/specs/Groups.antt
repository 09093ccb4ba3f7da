-- How the search tests many places together. The contracts of inner functions speak of it; those of public ones do not.
use Rattle.std.specs.Prelude.{◌≡◌, Bool, true, not, ◌&&◌, List, map, ℕ, zero, suc, ◌+◌, ◌-◌, ◌*◌, ◌/◌, ◌^◌, ◌<◌, length, get_or, drop}
use Rattle.bits.specs.Bits.{odd, sc_bit}
use Rattle.search.specs.Finding.{Found, aligned, first_of}

-- alignment stands at none of the first n places
unfoldable pub none_of : ℕ → List ℕ → Bool
none_of zero part = true
none_of (suc n) part = none_of n part && not (aligned (drop n part))

-- the smallest place from this one to the end
abbrev pub first_from : ℕ → List ℕ → Found
first_from at recording = first_of (length recording - at) at recording

-- what each of the eight bits of an octet says, the lowest first
abbrev pub EachBit : ℕ → (ℕ → Bool) → Type 0
EachBit r says = (k : ℕ) → k < 8 → odd (r / 2 ^ k) ≡ says k

-- octets with bit k where SC stands
unfoldable pub plane : ℕ → List ℕ → List ℕ
plane k part = map (λ (x : ℕ). x / 2 ^ k) part

-- in the first n octets bit k has the SC of what stands 256 k octets further on
abbrev pub Folded : ℕ → List ℕ → List ℕ → Type 0
Folded n bits part = (i : ℕ) → i < n → EachBit (get_or bits i 0) (λ k. sc_bit (get_or part (256 * k + i) 0))
