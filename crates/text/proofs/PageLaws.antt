-- Pieces written on a page one after the other are one piece.
use mathlib.Core.Path.{◌≡◌, ◌∙◌}
use mathlib.Core.List.{List, ◌++◌}
use Prim.Native.Nat.{ℕ}
use Rattle.text.specs.declared.Page.{Page}
use Rattle.text.specs.Over.{Written}
use Rattle.text.specs.Pages.{Wrote}
use Rattle.text.proofs.OverLaws.{written_then}

-- this is all that a caller of several pieces cites
pub wrote_then : {a b c : Page} {xs ys : List ℕ} → Wrote a xs b → Wrote b ys c → Wrote a (xs ++ ys) c
wrote_then h k = record { same_buffer = k.same_buffer ∙ h.same_buffer; written = written_then h.written k.written }

-- a page that was begun at a buffer leaves in it what was written
pub wrote_back : {p q : Page} {xs a b : List ℕ} {r : ℕ} → (p.place ≡ 0) × (p.octets.now ≡ a) → Wrote p xs q → r ≡ q.place → b ≡ q.octets.now → Written 0 xs a r b
wrote_back {p} {q} {xs} begun h e f = rw (e, f, ← begun.0, ← begun.1) h.written
