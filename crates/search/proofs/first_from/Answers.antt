-- `search::first_from` meets its contract. The loop's invariant: the places passed do not fit, so that the answer is the first of those left.
use mathlib.Core.Path.{◌≡◌, sym, ◌∙◌}
use mathlib.Core.Bool.{cond}
use Prim.Native.Nat.{◌+◌, ◌<◌}
use native.Mathlib.Omega.{arith}
use lib.ListN.{length}
use Rattle.search.specs.Groups.{first_from}
use Rattle.std.specs.Prelude.{Ok}
use Rattle.search.proofs.PlaceLaws.{lent-part, first_none, first_step}
use Rattle.search.proofs.first_from.Goals as goal

pub returns-then-is_aligned : goal.returns-then-is_aligned
returns-then-is_aligned c =
    let is-by-test : (let a = c.args in
    first_from a.from a.recording.now ≡ cond c.is_aligned.result (Ok c.loop-at.at) (first_from (c.loop-at.at + 1) a.recording.now)) =
    let recording = c.args.recording.now in
    let inside : c.loop-at.at < length recording = omega arith in
    rw (c.is_aligned.ensures, lent-part c.loop-at.at recording) (c.loop-at.invariant ∙ first_step c.loop-at.at recording inside) in
    sym (rw c.if-is_aligned.true at is-by-test)

pub loop-at-preserved : goal.loop-at-preserved
loop-at-preserved c =
    let is-by-test : (let a = c.args in
    first_from a.from a.recording.now ≡ cond c.is_aligned.result (Ok c.loop-at.at) (first_from (c.loop-at.at + 1) a.recording.now)) =
    let recording = c.args.recording.now in
    let inside : c.loop-at.at < length recording = omega arith in
    rw (c.is_aligned.ensures, lent-part c.loop-at.at recording) (c.loop-at.invariant ∙ first_step c.loop-at.at recording inside) in
    rw c.if-is_aligned.false at is-by-test

pub returns : goal.returns
returns c =
    let l = c.loop-at in
    let recording = c.args.recording.now in
    sym (l.invariant ∙ first_none l.at recording (omega arith))
