-- `bas::flips` meets its contract: the source's table is the one that the definition fills, which antt computes.
use mathlib.Core.Path.{◌≡◌, refl, sym, ◌∙◌}
use mathlib.Core.Bool.{xor}
use mathlib.Core.Logic.{◌≢◌}
use Prim.Native.Nat.{ℕ}
use borrow.Author.Tests.{eq-eqb, ne_eqb}
use Rattle.std.specs.Prelude.{Some, None}
use Rattle.bits.specs.Bits.{number, xors}
use Rattle.bits.specs.Remainder.{scaled, fed, continued, remainder}
use Rattle.bas.specs.Flips.{lights, syndrome, filled, flip_table, entry_at, flips_at}
use Rattle.bas.proofs.flips.Goals as goal

none_at : (flip remainder : ℕ) → flip ≡ entry_at remainder → flip ≡ 65535 → None ≡ flips_at remainder
unfolding flips_at
none_at flip remainder e is = rw (eq-eqb _ _ (sym e ∙ is))

some_at : (flip remainder : ℕ) → flip ≡ entry_at remainder → flip ≢ 65535 → Some flip ≡ flips_at remainder
unfolding flips_at
some_at flip remainder e isnt = rw (← e, ne_eqb _ _ isnt)

pub returns-then-flip : goal.returns-then-flip
unfolding entry_at flip_table filled syndrome lights number remainder continued fed xors scaled xor
returns-then-flip c = none_at _ c.args.remainder refl c.if-flip.true

pub returns : goal.returns
unfolding entry_at flip_table filled syndrome lights number remainder continued fed xors scaled xor
returns c = some_at _ c.args.remainder refl c.if-flip.false
