-- `service::sc_bit` meets its contract: the lowest bit of an octet is its remainder by 2.
use mathlib.Core.Path.{◌≡◌, ap, sym, ◌∙◌}
use Prim.Native.Nat.{ℕ, ◌%◌}
use native.Mathlib.Omega.{arith}
use lib.ListN.{get_or-eq_default}
use Rattle.bits.specs.Bits.{sc_bit, digit}
use Rattle.bits.proofs.BitLaws.{digit-odd, sc_is}
use Rattle.service.proofs.sc_bit.Goals as goal

lowest : (x y : ℕ) → x ≡ y → x % 2 ≡ digit (sc_bit y)
lowest x y e = ap (λ (n : ℕ). n % 2) e ∙ sym (ap digit (sc_is y) ∙ digit-odd y)

pub returns-in-Some : goal.returns-in-Some
returns-in-Some c = (lowest _ _ (c.in-Some.ensures.lookup.3.1 0), omega arith)

pub returns-in-None : goal.returns-in-None
returns-in-None c = (lowest 0 _ (sym (get_or-eq_default c.args.line.now 0 (omega (arith, c.in-None.ensures.lookup)))), omega arith)
