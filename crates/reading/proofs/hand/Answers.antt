-- `reading::hand` meets its contract: the block is read, or its buffers are cleared.
use mathlib.Core.Path.{◌≡◌, ap, ◌∙◌}
use mathlib.Core.Bool.{true}
use mathlib.Core.List.{List}
use mathlib.Core.Logic.{◌⊎◌, inl, inr}
use Prim.Native.Nat.{ℕ}
use lib.ListN.{length, replicate}
use Rattle.modes.specs.declared.Mode.{Mode}
use Rattle.buffers.specs.Buffers.{Each, Buffers, each, lengths}
use Rattle.buffers.specs.Lengths.{zeroed, fitting}
use Rattle.reading.specs.Step.{handed_by}
use Rattle.track.specs.declared.Standing.{Standing}
use Rattle.track.specs.declared.Standing.TheVariants.{Waiting, Lost}
use Rattle.buffers.proofs.LengthLaws.{same_each, fit-lengths}
use Rattle.sorter.specs.Sorting.{streams_of, buffers_after}
use borrow.Author.Rules.{rules}
use Rattle.reading.proofs.hand.Goals as goal

-- buffers that fit and were cleared
zeros : (line : ℕ) (n : Each ℕ) (v d : List ℕ) → fitting line n ≡ true → v ≡ replicate n.voice 0 → d ≡ replicate n.lsd 0 → each v d ≡ zeroed
zeros line n v d f e g = same_each e g ∙ ap (λ (m : Each ℕ). each (replicate m.voice 0) (replicate m.lsd 0)) (fit-lengths line n f).1

-- where the lengths fit, the sorter has handed out
sorted : (m : Mode) (line : List ℕ) (b after : Buffers) → fitting (length line) (lengths b) ≡ true → after ≡ buffers_after m line b → after ≡ streams_of m line
unfolding buffers_after
sorted m line b after f e = e ∙ rw f

-- a block that is waiting or lost hands out zeros
nothing : (standing : Standing) (m : Mode) (line : List ℕ) → (standing ≡ Waiting) ⊎ (standing ≡ Lost) → handed_by standing m line ≡ zeroed
nothing standing m line (inl e) = rw e
nothing standing m line (inr e) = rw e

pub returns-in-Waiting : goal.returns-in-Waiting
returns-in-Waiting c =
    let a = c.args in
    rw (nothing a.standing a.mode a.line.now c.in-Waiting.is) (search (rules, zeros))

pub returns-in-Read : goal.returns-in-Read
returns-in-Read c = rw c.in-Read.is (search (rules, sorted))
