-- Document 01, 'Codes and bit places': the buffers of a call, one for each stream.
use Rattle.std.specs.Prelude.{List, ℕ, length}

-- something for each stream (DECISIONS F49)
pub record Each (A : Type 0) : Type 0 where
  pub voice : A
  pub lsd : A

abbrev pub each : {A : Type 0} → A → A → Each A
each voice lsd = record { voice = voice; lsd = lsd }

-- what a sending call is lent to send from, and what a reading call fills
abbrev pub Buffers : Type 0
Buffers = Each (List ℕ)

abbrev pub lengths : Buffers → Each ℕ
lengths b = each (length b.voice) (length b.lsd)
