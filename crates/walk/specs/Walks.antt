-- Document 01, 'Finding alignment': a walk over a recording keeps the lent recording and its place together.
use Rattle.std.specs.Prelude.{Bool, List, ℕ}
use Rattle.std.specs.Borrow.{Bor}
use Rattle.recording.specs.Walk.{Stepped}
use Rattle.walk.specs.declared.Walk.{Walk}

-- a walk that stands at a place of a lent recording
abbrev pub opened : Bor (List ℕ) → ℕ → Bool → Walk
opened lent place lost = record { recording = lent; stand = record { place = place; lost = lost } }

-- a walk after a step: the same recording, at the place where the step leaves it
abbrev pub onward : Walk → Stepped → Walk
onward w s = record { recording = w.recording; stand = record { place = s.place; lost = s.lost } }
