-- Saved forms: a state that was saved comes back when it is loaded.
use mathlib.Core.Path.{◌≡◌, refl}
use Rattle.sender.specs.declared.Sender.{Sender}
use Rattle.reader.specs.declared.Reader.{Reader}
use Rattle.saving.specs.Saved.{sender_octets, sender_loaded, reader_octets, reader_loaded}

-- ---- a state that was saved comes back, whatever state it is loaded over
pub sender-back : (s was : Sender) → sender_loaded was (sender_octets s) ≡ record { state = s; answer = 1 }
sender-back s was = refl

pub reader-back : (s was : Reader) → reader_loaded was (reader_octets s) ≡ record { state = s; answer = 1 }
reader-back s was = refl
