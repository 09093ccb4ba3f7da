-- `reading::read` meets its contract: by the state and the answer of the call.
use Rattle.std.proofs.Common.{rules}
use Rattle.buffers.specs.Buffers.{each}
use Rattle.reading.specs.Step.{outcome_of}
use Rattle.reading.proofs.OutcomeLaws.{was_refused, was_taken, told_handed, taken-fitting}
use Rattle.reading.proofs.read.Goals as goal

pub returns-in_err-report : goal.returns-in_err-report
unfolding outcome_of
returns-in_err-report c =
    let a = c.args in
    let told = was_refused a.state.now a.line.now (each a.voice.now a.lsd.now) c.take.new.state _ (rw c.in_err-report.was at c.take.ensures) in
    search (rules, told)

pub hand-requires : goal.hand-requires
unfolding outcome_of
hand-requires c =
    let a = c.args in
    taken-fitting _ _ _ (was_taken a.state.now a.line.now (each a.voice.now a.lsd.now) c.take.new.state _ (rw c.in_ok-report.was at c.take.ensures))

pub returns : goal.returns
unfolding outcome_of
returns c =
    let a = c.args in
    told_handed a.state.now a.line.now (each a.voice.now a.lsd.now) c.take.new.state _ _ (rw c.in_ok-report.was at c.take.ensures) c.hand.ensures
