-- Document 01, 'Codes and bit places': filling places from streams, and sorting them out again. Both read one list of owners.
use Rattle.std.specs.Prelude.{Bool, true, cond, List, [], ◌∷◌, ◌++◌, ℕ, ◌+◌, get_or, take, drop}
use Rattle.modes.specs.Owners.{same_owner}
use Rattle.modes.specs.declared.Owner.{Owner}

-- what each owner still has to send, in sending order
abbrev pub Streams : Type 0
Streams = Owner → List Bool

-- 1 where the two are one owner, else 0
unfoldable pub same : Owner → Owner → ℕ
same o p = cond (same_owner o p) 1 0

-- how many of the places are the owner's
unfoldable pub count : Owner → List Owner → ℕ
count o [] = 0
count o (p ∷ ps) = same o p + count o ps

-- what is left of each stream when the places are filled
unfoldable pub rest : List Owner → Streams → Streams
rest ps s o = drop (count o ps) (s o)

-- sending: each place takes the next bit of its owner's stream, and 1 where that has none
unfoldable pub fill : List Owner → Streams → List Bool
fill [] s = []
fill (p ∷ ps) s = get_or (s p) 0 true ∷ fill ps (rest (p ∷ []) s)

-- reading: the bits at the owner's places, in order
unfoldable pub sort : Owner → List Owner → List Bool → List Bool
sort o [] bs = []
sort o (p ∷ ps) bs = take (same o p) bs ++ sort o ps (drop 1 bs)
