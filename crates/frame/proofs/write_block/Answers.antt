-- `frame::write_block` meets its contract: by whether the lengths fit, and by the block's law.
use mathlib.Core.Path.{refl, sym, ap, ap₂, ◌∙◌}
use mathlib.Core.Bool.{Bool, true, false}
use mathlib.Core.List.{List, ◌++◌}
use Prim.Native.Nat.{ℕ}
use native.Mathlib.Omega.{arith}
use Rattle.bits.specs.Bits.{bits_of, octets}
use Rattle.places.specs.Streams.{fill}
use Rattle.halves.specs.Sources.{heard, by_owner}
use Rattle.places.specs.Layout.{rows_by}
use Rattle.places.specs.declared.Layout.{Layout}
use Rattle.buffers.specs.Buffers.{Each, each}
use Rattle.buffers.specs.Lengths.{line_octets}
use Rattle.buffers.proofs.LengthLaws.{fit-lengths}
use Rattle.frame.proofs.BlockLaws.{told, block_is}
use Rattle.places.proofs.LayoutLaws.{apart_of}
use Rattle.frame.proofs.write_block.Goals as goal

pub returns-then-not-lengths_fit : goal.returns-then-not-lengths_fit
returns-then-not-lengths_fit c =
    let a = c.args in
    told a.mode a.header a.mute (each a.voice.now a.lsd.now) a.line.now false (sym c.lengths_fit.ensures ∙ c.if-not-lengths_fit.true)

pub fill_block-requires : goal.fill_block-requires
fill_block-requires c =
    let fit = fit-lengths _ _ (sym c.lengths_fit.ensures ∙ c.if-not-lengths_fit.false) in
    record {
      line_len = fit.0;
      ready = record {
        apart = rw c.layout_of-p.ensures (apart_of c.args.mode);
        spoken = ap (λ (n : Each ℕ). n.voice) fit.1;
        given = ap (λ (n : Each ℕ). n.lsd) fit.1;
        from = omega arith;
        whole = omega arith;
        on = omega arith;
        begun = λ e. refl;
      };
    }

pub returns : goal.returns
returns c =
    let a = c.args in
    let said = told a.mode a.header a.mute (each a.voice.now a.lsd.now) a.line.now true (sym c.lengths_fit.ensures ∙ c.if-not-lengths_fit.false) in (
      said.0,
      c.fill_block.ensures
          ∙ ap₂ (λ (p : Layout) (bits : List Bool). octets line_octets (fill (rows_by p 80 ++ rows_by p 80) (by_owner bits (heard a.mute (bits_of a.voice.now)) (bits_of a.lsd.now))))
          c.layout_of-p.ensures c.service_of.ensures
          ∙ block_is a.mode a.header a.mute (each a.voice.now a.lsd.now)
          ∙ said.1,
    )
