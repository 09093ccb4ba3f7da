-- `digits::put_digits` meets its contract. The loop's invariant: the digits that are left, written next, make the digits whole.
use mathlib.Core.Path.{◌≡◌}
use Prim.Native.Nat.{◌-◌, ◌^◌, ◌≤◌}
use Rattle.text.specs.declared.Page.{Page}
use Rattle.text.specs.Pages.{Wrote}
use Rattle.digits.specs.Digits.{digits_from}
use Rattle.digits.proofs.put_digits.Given as goal

abbrev pub invariant-loop-i : goal.invariant-loop-i
invariant-loop-i l = record {
  within : l.i ≤ l.first;
  power : l.here ≡ 10 ^ (l.first - l.i);
  left : (end : Page) → Wrote l.page (digits_from (l.first - l.i) l.n) end → Wrote l.initial.page (digits_from l.first l.n) end;
}
