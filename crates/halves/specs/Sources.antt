-- Document 01, 'Codes and bit places' and 'Sending a block': what each owner sends.
use Rattle.std.specs.Prelude.{Bool, cond, List, []}
use Rattle.modes.specs.declared.Owner.TheVariants.{Service, Voice, Lsd, Nobody}
use Rattle.places.specs.Streams.{Streams}

-- with mute set, voice has no bits to send, and so its places carry ones (DECISIONS F13)
abbrev pub heard : Bool → List Bool → List Bool
heard mute voice = cond mute [] voice

-- the stream of each owner; nobody has no bits
abbrev pub by_owner : List Bool → List Bool → List Bool → Streams
by_owner service voice lsd Service = service
by_owner service voice lsd Voice = voice
by_owner service voice lsd Lsd = lsd
by_owner service voice lsd Nobody = []
