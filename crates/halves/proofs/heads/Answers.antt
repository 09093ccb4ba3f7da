-- `halves::heads` meets its contract: ones alone where voice is muted, else voice laid over all ten eights.
use mathlib.Core.Path.{sym, ap, ◌∙◌}
use mathlib.Core.Bool.{Bool}
use Prim.Native.Nat.{◌+◌, ◌-◌, ◌*◌, ◌/◌, ◌^◌}
use native.Mathlib.Omega.{arith}
use lib.ListN.{length, take, drop}
use Rattle.bits.specs.Bits.{bits_of}
use Rattle.halves.specs.Sources.{heard}
use Rattle.halves.specs.Parts.{word_at, head_at}
use Rattle.eights.specs.Eight.{raised_by}
use Rattle.halves.proofs.TailLaws.{octets_on}
use Rattle.halves.proofs.PartLaws.{heads-muted, heads-laid}
use Rattle.halves.proofs.heads.Goals as goal

pub returns-then-mute : goal.returns-then-mute
returns-then-mute c =
    let a = c.args in
    let bits = bits_of a.voice.now in
    λ k h.
    c.lay_top.ensures k h
    ∙ heads-muted a.p (drop (8 * (k * 0)) (bits_of (take (length a.voice.now - a.v / 8) (drop (a.v / 8) a.voice.now)))) a.v k c.requires.0
    ∙ ap (λ (m : Bool). word_at (head_at a.p (drop a.v (heard m bits))) k) (sym c.if-mute.true)

pub returns : goal.returns
returns c =
    let a = c.args in
    let bits = bits_of a.voice.now in
    λ k h.
    c.lay_top-2.ensures k h
    ∙ ap (raised_by a.p.width (8 - a.p.width) ((2 ^ (7 - (a.p.width + a.p.columns)) - 1) * 2 ^ (a.p.columns + 1))) (octets_on a.voice.now (a.v / 8) (k * a.p.width))
    ∙ heads-laid a.p bits (a.v / 8) a.v k c.requires.0 (omega arith)
    ∙ ap (λ (m : Bool). word_at (head_at a.p (drop a.v (heard m bits))) k) (sym c.if-mute.false)
