-- The starred figures of document 01, by computation.
use mathlib.Core.Path.{refl}
use mathlib.Core.Bool.{xor}
use Rattle.bits.specs.Bits.{odd, low_bits, sc_bit, without_sc, bits_of, number, xors}
use Rattle.bits.specs.Remainder.{scaled, fed, continued, remainder}
use Rattle.crc.specs.Crc.{crc4_of, summed, summed_from, block_crc_of}
use Rattle.bas.specs.Words.{check_of, word_bits, even_order, odd_order, line_order}
use Rattle.table.specs.Table.{audio_table, lsd_table, beside, audio_places, lsd_places, audio_listed, lsd_listed}
use Rattle.modes.specs.Owners.{holds, held_by, some, clash, overlaps}
use Rattle.modes.specs.Modes.{in_range}
use Rattle.codes.specs.Carried.{carried, sender_carries}
use Rattle.sender.specs.State.{state_in_range}
use Rattle.control.specs.Rules.{rule_of}
use Rattle.control.specs.Plans.{plan_by}
use Rattle.control.specs.Refusals.{clashes, ruling_of}
use Rattle.control.specs.Decisions.{decision_of}
use Rattle.sending.specs.Step.{outcome_of}
use Rattle.promises.specs.Figures.{figures, AllAsSaid}

pub figures_hold : AllAsSaid
unfolding figures check_of remainder continued fed scaled xors xor odd low_bits sc_bit without_sc number word_bits even_order odd_order line_order block_crc_of summed_from summed crc4_of bits_of audio_listed audio_table lsd_listed lsd_table beside audio_places lsd_places holds held_by some clash overlaps carried sender_carries in_range state_in_range rule_of plan_by clashes ruling_of decision_of outcome_of
figures_hold = refl
