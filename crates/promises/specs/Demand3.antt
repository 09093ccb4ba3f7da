-- Demand 3: what is silent stays silent, and mute's own "audio off" goes out in time, as a command.
use Rattle.std.specs.Prelude.{◌≡◌, Bool, true, false, not, ◌||◌, List, [], ◌∷◌, ◌⊎◌, ℕ, zero, suc, length, Ok}
use Rattle.modes.specs.Modes.{audio_off}
use Rattle.codes.specs.Codes.{written, audio_attribute}
use Rattle.sender.specs.State.{word_due, sounding}
use Rattle.sending.specs.Step.{block_for}
use Rattle.sender.specs.declared.Sender.{Sender}
use Rattle.control.specs.declared.Call.{Call}
use Rattle.control.specs.declared.Went.TheVariants.{Held}
use Rattle.slots.specs.declared.Due.TheVariants.{Plain}
use Rattle.words.specs.declared.Reading.TheVariants.{Mended}
use Rattle.reader.specs.declared.Reader.{Reader}
use Rattle.reading.specs.Step.{Outcome}
use Rattle.buffers.specs.Buffers.{Buffers}
use Rattle.promises.specs.Demand2.{answer_to, InStep, reader_after, HandedBack, EightBits}
use Rattle.promises.specs.Session.{Turn, Left, turned, after, Allowed, Entry, log}

-- a block is silent when mute is set in its call or no audio is in force as that call finds it
abbrev pub silent : Sender → Call → Bool
silent s c = c.mute || not (sounding s)

-- two calls that differ only in microphone contents (never length), and only where the block is silent
pub record AlikeTurn (s : Sender) (x y : Turn) : Type 0 where
  pub call : x.call ≡ y.call
  pub lsd : x.lent.lsd ≡ y.lent.lsd
  pub line : x.line ≡ y.line
  pub lengths : length x.lent.voice ≡ length y.lent.voice
  pub heard : silent s x.call ≡ false → x.lent.voice ≡ y.lent.voice

abbrev pub Alike : Sender → List Turn → List Turn → Type 0
Alike s [] [] = Unit {0}
Alike s [] (y ∷ ys) = ⊥
Alike s (x ∷ xs) [] = ⊥
Alike s (x ∷ xs) (y ∷ ys) = AlikeTurn s x y × Alike (after s x) xs ys

-- two such sessions from one state: every octet sent, answer, refusal and state is the same
abbrev pub Silence : Type 0
Silence = (s : Sender) (xs ys : List Turn) (ls ms : List Left) → Allowed s xs ls → Allowed s ys ms → Alike s xs ys → ls ≡ ms

-- mute stays set
abbrev pub MuteStaysSet : List Turn → Type 0
MuteStaysSet [] = Unit {0}
MuteStaysSet (x ∷ xs) = (x.call.mute ≡ true) × MuteStaysSet xs

-- mute's own "audio off" has gone out as a command, never as an item: a plain word was due, mute was set, the offered code was held for it, and the
-- block that was written is the one that demand 2 lays down for the word "audio off"
pub record MuteGone (e : Entry) : Type 0 where
  pub command : word_due e.found ≡ Plain
  pub muted : e.turn.call.mute ≡ true
  pub held : answer_to e ≡ Ok Held
  pub octets : (turned e.found e.turn).line
      ≡ block_for e.found e.turn.call (written audio_attribute audio_off) e.turn.lent

-- one of the first n entries is so, if there are n
abbrev pub By : ℕ → (Entry → Type 0) → List Entry → Type 0
By zero P es = ⊥
By (suc n) P [] = Unit {0}
By (suc n) P (e ∷ es) = P e ⊎ By n P es

-- if audio is in force when mute is first set and mute stays set, it has by the second accepted call
abbrev pub MuteBound : Type 0
MuteBound = (s : Sender) (xs : List Turn) → sounding s ≡ true → MuteStaysSet xs → By 2 MuteGone (log s xs)

-- where a reader in step reads it: as the command "audio off", which closes the stream
pub record MuteHeard (e : Entry) (r : Reader) : Type 0 where
  pub gone : MuteGone e
  pub read : (o : Outcome) (out : Buffers) (back : HandedBack e r o out) → back.report.reading ≡ Mended (written audio_attribute audio_off)
  pub closed : (reader_after r e).mode.audio ≡ audio_off

abbrev pub HeardBy : ℕ → Reader → List Entry → Type 0
HeardBy zero r es = ⊥
HeardBy (suc n) r [] = Unit {0}
HeardBy (suc n) r (e ∷ es) = MuteHeard e r ⊎ HeardBy n (reader_after r e) es

abbrev pub MuteIsHeard : Type 0
MuteIsHeard = (s : Sender) (r : Reader) (xs : List Turn) → sounding s ≡ true → MuteStaysSet xs → EightBits xs → InStep s r → HeardBy 2 r (log s xs)
