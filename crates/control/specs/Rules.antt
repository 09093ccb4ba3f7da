-- Document 01, 'Sending a block': which word goes, and by which rule.
use Rattle.std.specs.Prelude.{Bool, not, cond, ◌&&◌}
use Rattle.slots.specs.Slots.{is_item}
use Rattle.sender.specs.State.{word_due, sounding, choosing}
use Rattle.sender.specs.declared.Sender.{Sender}
use Rattle.control.specs.declared.Rule.{Rule}
use Rattle.control.specs.declared.Rule.TheVariants.{AsItem, MuteOff, Release, Offered}

-- if an item is due, the offered code goes as that item. If none is due: with mute set and audio in force at entry, "audio off" goes;
-- with mute clear, in force off and chosen not, the chosen command goes. In all others the offered code goes (DECISIONS S1, S2)
unfoldable pub rule_of : Sender → Bool → Rule
rule_of s mute =
    cond (is_item (word_due s)) AsItem
    (cond (mute && sounding s) MuteOff
    (cond (not mute && not (sounding s) && choosing s) Release
    Offered))
