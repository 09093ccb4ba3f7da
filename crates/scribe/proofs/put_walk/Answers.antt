-- `scribe::put_walk` meets its contract: after `turn` turns of the loop, what they wrote stands in the text (`Going`).
use native.Mathlib.Omega.{arith}
use mathlib.Core.Path.{refl, sym, ◌∙◌}
use Rattle.recording.specs.Walk.{stepped}
use Rattle.scribe.proofs.ListingLaws.{begins, over, ends, goes_on}
use Rattle.scribe.proofs.put_walk.Goals as goal

pub loop-turn-init : goal.loop-turn-init
loop-turn-init c = record { same_buffer = refl; going = begins _ _ _ _ _ c.requires.1 c.requires.2 c.fresh-s.ensures }

pub step_on-answer-requires : goal.step_on-answer-requires
step_on-answer-requires c = let g = c.loop-turn.invariant.going in (g.range, c.requires.0, g.inside)

pub returns-then-is_last : goal.returns-then-is_last
returns-then-is_last c =
    let p = c.step_on-answer in
    record {
      same_buffer = c.put_answer.ensures.same_buffer ∙ c.loop-turn.invariant.same_buffer;
      written = ends _ _ _ _ _ _ _ _ _ _ _ c.loop-turn.invariant.going c.loop-turn-test.true (stepped p.new.stand p.new.s p.result) p.ensures _ _ c.put_answer.ensures.written
          (sym c.is_last.ensures ∙ c.if-is_last.true);
    }

pub count_after-count-requires : goal.count_after-count-requires
count_after-count-requires c = let g = c.loop-turn.invariant.going in let t = c.loop-turn-test.true in let m = c.requires.0 in omega (arith, g.low)

pub loop-turn-smaller : goal.loop-turn-smaller
loop-turn-smaller c = omega arith

pub loop-turn-preserved : goal.loop-turn-preserved
loop-turn-preserved c =
    let p = c.step_on-answer in
    record {
      same_buffer = c.put_answer.ensures.same_buffer ∙ c.loop-turn.invariant.same_buffer;
      going = rw c.count_after-count.ensures
          (goes_on _ _ _ _ _ _ _ _ _ _ _ c.loop-turn.invariant.going c.loop-turn-test.true (stepped p.new.stand p.new.s p.result) p.ensures _ _ c.put_answer.ensures.written
          (sym c.is_last.ensures ∙ c.if-is_last.false));
    }

pub returns : goal.returns
returns c = record {
  same_buffer = c.loop-turn.invariant.same_buffer;
  written = over _ _ _ _ _ _ _ _ _ _ _ c.loop-turn.invariant.going c.loop-turn-test.false;
}
