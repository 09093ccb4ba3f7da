-- `table::audio_listed` meets its contract: the source's table is that of the definition's entries, which antt computes.
use mathlib.Core.Path.{sym}
use native.Mathlib.Omega.{arith}
use Rattle.std.proofs.Common.{◌<◌}
use Rattle.bits.proofs.Table.{entry}
use Rattle.table.specs.Table.{audio_table, beside, audio_listed, audio_places}
use Rattle.table.proofs.TableLaws.{audio_past, audio_entry, audio_given, audio_missing}
use Rattle.table.proofs.audio_listed.Goals as goal

pub returns-then-v-ge32 : goal.returns-then-v-ge32
returns-then-v-ge32 c = sym (audio_past c.args.v c.if-v-ge32.true)

pub returns-then-w-ge8 : goal.returns-then-w-ge8
unfolding audio_entry audio_places audio_listed audio_table beside
returns-then-w-ge8 c =
    let v = c.args.v in
    let inside : v < 32 = omega (arith, c.if-v-ge32.false) in
    audio_missing v _ inside (entry 32 audio_entry 0 v inside) c.if-w-ge8.true

pub returns : goal.returns
unfolding audio_entry audio_places audio_listed audio_table beside
returns c =
    let v = c.args.v in
    let inside : v < 32 = omega (arith, c.if-v-ge32.false) in
    rw c.octet_bits_to.ensures (audio_given v _ inside (entry 32 audio_entry 0 v inside) (omega (arith, c.if-w-ge8.false)))
