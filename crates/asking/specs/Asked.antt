-- Document 01, 'Codes and bit places' and 'Slots': what a driver can ask.
use Rattle.std.specs.Prelude.{Bool, cond, ℕ, ◌/◌, eqb}
use Rattle.bits.specs.Bits.{digit}
use Rattle.table.specs.Table.{audio_places, lsd_places}
use Rattle.modes.specs.Owners.{counting}
use Rattle.modes.specs.declared.Mode.{Mode}
use Rattle.table.specs.declared.Places.{Places}
use Rattle.modes.specs.declared.Owner.TheVariants.{Voice, Lsd}
use Rattle.codes.specs.Carried.{sender_carries, opening_of}
use Rattle.codes.specs.Commands.{command_of}
use Rattle.codes.specs.declared.Command.{Command}
use Rattle.codes.specs.declared.Command.TheVariants.{Neutral, SetAudio, SetLsd, NoEffect}
use Rattle.codes.specs.declared.Opening.{Opening}
use Rattle.codes.specs.declared.Opening.TheVariants.{Nothing, Item, Message}
use Rattle.slots.specs.Slots.{due_now, slot_of, due_of}
use Rattle.sender.specs.State.{word_due}
use Rattle.sender.specs.declared.Sender.{Sender}
use Rattle.reader.specs.declared.Reader.{Reader}
use Rattle.asking.specs.declared.Library.{Library}
use Rattle.asking.specs.declared.SenderTold.{SenderTold}
use Rattle.asking.specs.declared.ReaderTold.{ReaderTold}
use Rattle.asking.specs.declared.Counts.{Counts}
use Rattle.asking.specs.declared.CodeTold.{CodeTold}

-- ---- which library this is; tools/boundary and c/check.c hold these numbers to the header
-- version 0.2.0, and the octets of a sender, a reader and a walk
abbrev pub library : Library
library = record { version = 200; sender = 6; reader = 12; walk = 24; reserved = 0 }

-- a driver fits that was compiled for this version, and no other
abbrev pub is_this_version : ℕ → Bool
is_this_version version = eqb version library.version

abbrev pub fits_version : ℕ → ℕ
fits_version version = cond (is_this_version version) 1 0

-- ---- states, modes and codes
-- a sender: what is in force, what is chosen, and the kind of word that is due
abbrev pub sender_told : Sender → SenderTold
sender_told s = record { mode = s.mode; chosen = s.chosen; due = (slot_of (word_due s)).kind }

-- a reader: what is in force, the next block, and what is due; a message with no words left is over
abbrev pub reader_told : Reader → ReaderTold
reader_told s =
    let due = slot_of (due_now (due_of s.slot)) in
    record { mode = s.mode; block = s.block; due = due.kind; words = due.words }

-- voice 140 octets, of which 20w count; data 156 octets, of which twice the bits per frame count
abbrev pub counts_of : Mode → Counts
counts_of m = record { voice = counting Voice m / 8; lsd = counting Lsd m }

-- what a code is: neutral, a command of audio or of data, or what it opens
abbrev pub code_kind : Command → Opening → ℕ
code_kind Neutral opening = 1
code_kind (SetAudio v) opening = 2
code_kind (SetLsd v) opening = 3
code_kind NoEffect Nothing = 0
code_kind NoEffect Item = 4
code_kind NoEffect Message = 5

-- the places that a command gives to its stream; audio [0] holds none, and so does every other code
abbrev pub code_places : Command → Places
code_places Neutral = audio_places 0
code_places (SetAudio v) = audio_places v
code_places (SetLsd v) = lsd_places v
code_places NoEffect = audio_places 0

abbrev pub code_told : ℕ → CodeTold
code_told code =
    let p = code_places (command_of code) in
    record {
      kind = code_kind (command_of code) (opening_of code);
      carried = digit (sender_carries code);
      first_bit = p.from;
      last_bit = p.to;
      first_sc = p.first.0;
      last_sc = p.last.0;
    }
