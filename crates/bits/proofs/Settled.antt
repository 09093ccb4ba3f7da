-- A contract that is an equation, `r ≡ definition`, allows one answer alone: any two that it allows are equal.
use mathlib.Core.Path.{◌≡◌, sym, ◌∙◌}

pub settled : {A : Type 0} {said r s : A} → r ≡ said → s ≡ said → r ≡ s
settled e f = e ∙ sym f
