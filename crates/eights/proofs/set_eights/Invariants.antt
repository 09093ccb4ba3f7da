-- `eights::set_eights` meets its contract: the loop's invariant: of the eights from `from` on those before k are set by the rule, and all others
-- are as they were.
use Rattle.std.proofs.Common.{◌≡◌, ℕ, ◌<◌, ◌≤◌, length, get_or}
use Rattle.eights.proofs.set_eights.Given as goal

abbrev pub invariant-loop-k : goal.invariant-loop-k
invariant-loop-k g l = record {
  begun : l.fn.run.start ≤ l.k;
  within : l.k ≤ l.fn.run.end;
  ten : length l.lanes ≡ 10;
  before : (j : ℕ) → j < l.fn.run.start → get_or l.lanes j 0 ≡ get_or l.initial.lanes j 0;
  laid : (j : ℕ) → l.fn.run.start ≤ j → j < l.k → goal.F-post g l.rule j (get_or l.initial.lanes j 0) (get_or l.lanes j 0);
  after : (j : ℕ) → l.k ≤ j → get_or l.lanes j 0 ≡ get_or l.initial.lanes j 0;
}
