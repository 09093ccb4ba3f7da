-- `halves::own_eights` meets its contract: the law of data's own eights; where they are cut, data has no columns.
use mathlib.Core.Path.{◌≡◌, sym, ap, ◌∙◌}
use mathlib.Core.Logic.{◌⊎◌, inl, inr}
use mathlib.Core.Bool.{true, false, false≢true}
use Prim.Native.Nat.{◌+◌, ◌-◌, ◌*◌, ◌/◌, ◌≤◌}
use native.Mathlib.Nat.{mul-add, mul-one}
use native.Mathlib.Omega.{arith}
use lib.ListN.{drop}
use Rattle.bits.specs.Bits.{bits_of}
use Rattle.eights.specs.Eight.{raised_by}
use Rattle.places.specs.Layout.{in_eights}
use Rattle.places.specs.declared.Layout.{Layout}
use Rattle.halves.proofs.PartLaws.{eight-cut}
use Rattle.halves.proofs.TailLaws.{columns_to, columns_le, laid_owned, octets_on}
use Rattle.halves.proofs.own_eights.Goals as goal

none : (p : Layout) → in_eights p ≡ false → (p.columns ≡ 0) ⊎ (in_eights p ≡ true) → p.columns ≡ 0
none p f (inl z) = z
none p f (inr t) = absurd (false≢true (sym f ∙ t))

pub lay-requires : goal.lay-requires
lay-requires c =
    let a = c.args in
    let k = a.p.columns in
    let n : (a.run.end - a.run.start) * (k + 1) ≡ (a.run.end - a.run.start) * k + (a.run.end - a.run.start) = rw (mul-add (a.run.end - a.run.start) k 1, mul-one (a.run.end - a.run.start)) in
    let ordered : a.run.start ≤ a.run.end = omega (arith, c.requires.apart.runs) in
    record {
      run_in = (ordered, omega arith);
      n_in_bounds = omega (arith, n, ordered, c.requires.apart.after, columns_to k a.run.start a.run.end ordered, columns_le k a.run.end (omega arith) (omega arith));
    }

pub returns-then-in_eights : goal.returns-then-in_eights
returns-then-in_eights c =
    let a = c.args in
    let t : in_eights a.p ≡ true = sym c.in_eights.ensures ∙ c.if-in_eights.true in
    let call = c.lay.ensures in (
      call.0,
      λ k l m.
          call.1 k l m
          ∙ ap (raised_by (a.p.columns + 1) 0 0) (octets_on a.lsd.now (a.d / 8 + a.run.start * a.p.columns) ((k - a.run.start) * (a.p.columns + 1)))
          ∙ laid_owned a.p (bits_of a.lsd.now) a.run.start a.run.end k a.d c.requires.apart c.requires.lsd_len.2 t c.requires.run_is.0 c.requires.run_is.1 l m,
    )

pub cut-requires : goal.cut-requires
cut-requires c =
    let a = c.args in
    (omega (arith, c.requires.apart.runs), omega arith, omega arith, omega (arith, c.requires.lsd_len.0))

pub returns : goal.returns
returns c =
    let a = c.args in
    let f : in_eights a.p ≡ false = sym c.in_eights.ensures ∙ c.if-in_eights.false in
    let call = c.cut.ensures in (
      call.0,
      λ k l m.
          call.1 k l m
          ∙ eight-cut a.p (drop a.d (bits_of a.lsd.now)) k (none a.p f c.requires.apart.even) (omega (arith, c.requires.apart.after)),
    )
