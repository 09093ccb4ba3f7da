-- Octets written over a lent buffer from a place on. What does not fit is left out, and the buffer keeps its length.
use Rattle.std.specs.Prelude.{◌≡◌, List, [], ◌∷◌, ◌++◌, ℕ, ◌+◌, min, length, take, drop}

-- xs written over the front of a buffer
unfoldable pub over : List ℕ → List ℕ → List ℕ
over [] buffer = buffer
over (x ∷ xs) [] = []
over (x ∷ xs) (y ∷ ys) = x ∷ over xs ys

-- the same from a place on
unfoldable pub over_at : ℕ → List ℕ → List ℕ → List ℕ
over_at at xs buffer = take at buffer ++ over xs (drop at buffer)

-- a place of a buffer as it is answered: one past the buffer's end stands for each place that is farther
abbrev pub place_in : List ℕ → ℕ → ℕ
place_in buffer at = min at (length buffer + 1)

-- a piece went from a place on over what the buffer held: the place after the piece is answered, and all else of the buffer stays
pub record Written (at : ℕ) (piece was : List ℕ) (r : ℕ) (buffer : List ℕ) : Type 0 where
  pub place : r ≡ place_in was (at + length piece)
  pub octets : buffer ≡ over_at at piece was
