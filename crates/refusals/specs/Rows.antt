-- Document 01, 'Refusal numbers': a call has rows, each given exactly when its sentence says so, and the first that is given refuses.
use Rattle.std.specs.Prelude.{Bool, cond, List, [], ◌∷◌, ℕ, Result, Ok, Err}
use Rattle.refusals.specs.Numbers.{number_of}
use Rattle.refusals.specs.declared.Refusal.{Refusal}
use Rattle.refusals.specs.declared.Row.{Row}

-- what the rows of a call decide: a refusal, or nothing against the call
abbrev pub Ruling : Type 0
Ruling = Result (Unit {0}) Refusal

abbrev pub row : Refusal → Bool → Row
row refusal given = record { refusal = refusal; given = given }

-- the first row that is given refuses; where none is, the call is accepted
abbrev pub first_given : List Row → Ruling
first_given [] = Ok tt
first_given (r ∷ rs) = cond r.given (Err r.refusal) (first_given rs)

-- the number of a ruling, 0 where the call is accepted
abbrev pub ruling_number : Ruling → ℕ
ruling_number (Err r) = number_of r
ruling_number (Ok u) = 0
