-- `keeping::load_walk` meets its contract: the octets of a form are taken apart from the end.
use mathlib.Core.Path.{sym, ◌∙◌}
use Rattle.keeping.proofs.SavedWalkLaws.{walk_read}
use Rattle.keeping.proofs.load_walk.Goals as goal

pub returns : goal.returns
returns c =
    walk_read _ _ _ _ _ _ _
    c.type_inv.saved
    (sym c.is_walk_form.ensures ∙ c.if-not-is_walk_form.false)
    c.in_ok-rest.ensures.cases
    c.in_ok-lost.ensures.cases
    c.from_le_bytes.ensures
    c.reader_from.ensures
