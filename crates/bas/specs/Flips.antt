-- Document 01, 'BAS words': the table of 256 remainders, each naming the bits to flip or none. No contract of a public function
-- speaks of it: it is how `read_word` works, and its rule is shown once over all entries in proofs/ReadingLaws.
use Rattle.std.specs.Prelude.{Bool, true, false, cond, List, [], ◌∷◌, ◌++◌, map, ℕ, zero, suc, eqb, take, drop, get_or, set, replicate, Option, Some, None}
use Rattle.bits.specs.Bits.{number, xors}
use Rattle.bits.specs.Remainder.{remainder}
use Rattle.bas.specs.Words.{bas_generator}

-- the lists of n bits of which at most k are 1
unfoldable pub lights : ℕ → ℕ → List (List Bool)
lights zero k = [] ∷ []
lights (suc n) zero = map (λ (l : List Bool). false ∷ l) (lights n zero)
lights (suc n) (suc k) = map (λ (l : List Bool). false ∷ l) (lights n (suc k)) ++ map (λ (l : List Bool). true ∷ l) (lights n k)

-- the remainder of sixteen bits: what the check bits should be, and what they are. It is zeros for a code's word
unfoldable pub syndrome : List Bool → List Bool
syndrome w = xors (remainder bas_generator (take 8 w)) (drop 8 w)

-- each pattern is written at its remainder
unfoldable pub filled : List (List Bool) → List ℕ → List ℕ
filled [] t = t
filled (e ∷ es) t = set (filled es t) (number (syndrome e)) (number e)

unfoldable pub flip_table : List ℕ
flip_table = filled (lights 16 2) (replicate 256 65535)

unfoldable pub entry_at : ℕ → ℕ
entry_at s = get_or flip_table s 0

-- an entry names the bits to flip, and 65535 none
abbrev pub flips_named : ℕ → Option ℕ
flips_named entry = cond (eqb entry 65535) None (Some entry)

unfoldable pub flips_at : ℕ → Option ℕ
flips_at s = flips_named (entry_at s)
