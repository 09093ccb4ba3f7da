-- `search::is_aligned` meets its contract: too short a part and a wrong first word end the test early.
use mathlib.Core.Path.{ap, sym, ◌∙◌}
use mathlib.Core.Bool.{not, not-not}
use Prim.Native.Nat.{◌%◌}
use Rattle.bits.specs.Bits.{odd}
use Rattle.search.specs.Finding.{spells, aligned}
use Rattle.search.proofs.PlaceLaws.{too_short}
use Rattle.search.proofs.PlaneLaws.{low_bit}
use Rattle.search.proofs.WrongLaws.{even_is}
use borrow.Author.Tests.{eq-eqb, not-true}
use Rattle.search.proofs.is_aligned.Goals as goal

pub returns-then-part-lt168 : goal.returns-then-part-lt168
returns-then-part-lt168 c = sym (too_short _ c.if-part-lt168.true)

pub returns-then-wrong_word-eq1 : goal.returns-then-wrong_word-eq1
unfolding aligned odd
returns-then-wrong_word-eq1 c =
    let w = c.wrong_word in
    let part = c.args.part.now in
    let wrong = low_bit w.result (λ p. not (spells 1 p)) part w.ensures in
    rw (not-true (spells 1 part) (sym wrong ∙ eq-eqb (w.result % 2) 1 c.if-wrong_word-eq1.true))

pub returns : goal.returns
returns c =
    let part = c.args.part.now in
    let wrong = low_bit c.wrong_at.result (λ p. not (aligned p)) part c.wrong_at.ensures in
    even_is c.wrong_at.result ∙ ap not wrong ∙ not-not (aligned part)
