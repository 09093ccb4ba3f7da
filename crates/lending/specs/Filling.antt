-- What a call leaves in a buffer that is lent to it.
use Rattle.std.specs.Prelude.{◌≡◌, List, ℕ}
use Rattle.std.specs.Borrow.{MutBor}

-- a buffer that held `old` holds `new` after a call of which `Said` tells, by the reference that it was passed and by that reference after it
abbrev pub Fills : List ℕ → List ℕ → (MutBor (List ℕ) → MutBor (List ℕ) → Type 0) → Type 0
Fills old new Said = (before : MutBor (List ℕ)) × (after : MutBor (List ℕ)) × (before.now ≡ old) × (after.now ≡ new) × Said before after

-- the same of two buffers
abbrev pub FillsTwo : List ℕ → List ℕ → List ℕ → List ℕ → (MutBor (List ℕ) → MutBor (List ℕ) → MutBor (List ℕ) → MutBor (List ℕ) → Type 0) → Type 0
FillsTwo old new old2 new2 Said =
    (before : MutBor (List ℕ)) × (after : MutBor (List ℕ)) × (before2 : MutBor (List ℕ)) × (after2 : MutBor (List ℕ)) × (before.now ≡ old) × (after.now ≡ new)
    × (before2.now ≡ old2) × (after2.now ≡ new2) × Said before before2 after after2
