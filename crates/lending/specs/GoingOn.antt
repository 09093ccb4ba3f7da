-- What a call that may refuse leaves of a state that is lent to it.
use Rattle.std.specs.Prelude.{◌≡◌, Result, Ok, Err}
use Rattle.lending.specs.declared.Stepped.{Stepped}

-- of a call that may refuse `Said` tells by what it gives; a state that was `old` is then `new`, the one that is given, or as it was
abbrev pub GoesOn : {T N E : Type 0} → T → T → Result N E → (Result (Stepped T N) E → Type 0) → Type 0
GoesOn old new (Ok answer) Said = Said (Ok (record { state = new; answer = answer }))
GoesOn old new (Err why) Said = Said (Err why) × (new ≡ old)
