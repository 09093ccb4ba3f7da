-- Document 01, 'BAS words': the word of a code, and the order of its bits on the line.
use Rattle.std.specs.Prelude.{Bool, true, false, List, [], ◌∷◌, ◌++◌, map, ℕ, get_or, take, drop}
use Rattle.bits.specs.Bits.{octet_bits, number}
use Rattle.bits.specs.Remainder.{remainder}

-- X^8 + X^7 + X^6 + X^4 + X^2 + X + 1
abbrev pub bas_generator : List Bool
bas_generator = true ∷ true ∷ false ∷ true ∷ false ∷ true ∷ true ∷ true ∷ []

-- the check bits of a code: the remainder of b0·X^15 + .. + b7·X^8, p0 highest
unfoldable pub check_of : ℕ → ℕ
check_of code = number (remainder bas_generator (octet_bits code))

-- the sixteen bits of a code's word: b0 to b7, and the check bits p0 to p7
unfoldable pub word_bits : ℕ → List Bool
word_bits code = octet_bits code ++ remainder bas_generator (octet_bits code)

unfoldable pub word_of : ℕ → ℕ
word_of code = number (word_bits code)

-- the bits at these places, in this order
abbrev pub bits_at : List ℕ → List Bool → List Bool
bits_at places bits = map (λ (i : ℕ). get_or bits i false) places

-- even frame order: b0 b3 b2 b1 b5 b4 b6 b7
unfoldable pub even_order : List Bool → List Bool
even_order b = bits_at (0 ∷ 3 ∷ 2 ∷ 1 ∷ 5 ∷ 4 ∷ 6 ∷ 7 ∷ []) b

-- odd: p2 p1 p0 p4 p3 p5 p6 p7
unfoldable pub odd_order : List Bool → List Bool
odd_order p = bits_at (2 ∷ 1 ∷ 0 ∷ 4 ∷ 3 ∷ 5 ∷ 6 ∷ 7 ∷ []) p

-- a word's bits as they go out: SC bits 9 to 16 of the even frame, and then of the odd one
unfoldable pub line_order : List Bool → List Bool
line_order word = even_order (take 8 word) ++ odd_order (drop 8 word)
