-- A table's rule, at all of its entries at once. A table that is written out in the source IS `table n rule`, which antt computes
-- and compares entry by entry, and `entry` says what stands at each place. So no proof writes a table out again.
use mathlib.Core.Path.{◌≡◌, sym, ap, ◌∙◌}
use mathlib.Core.List.{List, [], ◌∷◌}
use Prim.Native.Nat.{ℕ, zero, suc, ◌+◌, ◌<◌}
use native.Mathlib.Nat.{add-zero, zero-add, add-suc, suc-add, le_of_suc-le-suc, not-suc-le-zero}
use lib.ListN.{get_or}

module _ {A : Type 0} where
  -- n entries, from place i on
  abbrev pub table_from : ℕ → ℕ → (ℕ → A) → List A
  table_from i zero rule = []
  table_from i (suc n) rule = rule i ∷ table_from (suc i) n rule

  abbrev pub table : ℕ → (ℕ → A) → List A
  table n rule = table_from 0 n rule

  from : (n i : ℕ) (rule : ℕ → A) (d : A) (k : ℕ) → k < n → get_or (table_from i n rule) k d ≡ rule (i + k)
  from zero i rule d k h = absurd (not-suc-le-zero h)
  from (suc n) i rule d zero h = ap rule (sym (add-zero i))
  from (suc n) i rule d (suc k) h = from n (suc i) rule d k (le_of_suc-le-suc h) ∙ ap rule (suc-add i k ∙ sym (add-suc i k))

  pub entry : (n : ℕ) (rule : ℕ → A) (d : A) (k : ℕ) → k < n → get_or (table n rule) k d ≡ rule k
  entry n rule d k h = from n 0 rule d k h ∙ ap rule (zero-add k)
