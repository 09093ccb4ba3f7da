-- `Page::put` meets its contract: inside the buffer one octet is set, and past its end none.
use native.Mathlib.Omega.{arith}
use mathlib.Core.Path.{refl, sym, ◌∙◌}
use lib.Seq.{set_out}
use Rattle.text.proofs.OverLaws.{over_at_one, written_one}
use Rattle.text.proofs.Page.put.Goals as goal

pub returns-then-self-size : goal.returns-then-self-size
returns-then-self-size c =
    let page = c.args.self.now in
    record { same_buffer = refl; written = written_one page.place c.args.x page.octets.now (omega arith) }

pub returns : goal.returns
returns c =
    let page = c.args.self.now in
    record {
      same_buffer = refl;
      written = record {
        place = omega arith;
        octets = sym (over_at_one page.place c.args.x page.octets.now ∙ set_out page.octets.now page.place c.args.x c.if-self-size.false);
      };
    }
