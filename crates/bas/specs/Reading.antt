-- Document 01, 'BAS words': reading is the one code word at most two bits away, else unreadable.
use Rattle.std.specs.Prelude.{Bool, true, false, List, [], ◌∷◌, ℕ, zero, suc, ◌+◌, leb, Option, Some, None}
use Rattle.bits.specs.Bits.{low_bits, digit, xors}
use Rattle.bas.specs.Words.{word_bits}

-- how many bits are 1
unfoldable pub weight : List Bool → ℕ
weight [] = 0
weight (b ∷ bs) = digit b + weight bs

-- in how many places two equally long lists of bits differ
unfoldable pub distance : List Bool → List Bool → ℕ
distance xs ys = weight (xors xs ys)

-- the word is at most two bits away from the code's word
unfoldable pub near : ℕ → ℕ → Bool
near word code = leb (distance (low_bits 16 word) (word_bits code)) 2

unfoldable pub kept_if : Bool → ℕ → List ℕ → List ℕ
kept_if true c cs = c ∷ cs
kept_if false c cs = cs

-- the codes below n whose words are near
unfoldable pub codes_near : ℕ → ℕ → List ℕ
codes_near word zero = []
codes_near word (suc n) = kept_if (near word n) n (codes_near word n)

-- the one code of a list that has but one
unfoldable pub the_one : List ℕ → Option ℕ
the_one [] = None
the_one (c ∷ []) = Some c
the_one (c ∷ d ∷ cs) = None

-- the code of a word, or None for an unreadable one
unfoldable pub reading_of : ℕ → Option ℕ
reading_of word = the_one (codes_near word 256)
