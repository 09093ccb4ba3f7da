-- Demands 2 and 3 at the boundary. What `delampuk_send` leaves of calls over one lent state is what a session of `sending::send` leaves, in
-- the numbers that cross to C; and what `delampuk_read` gives of a block is what a reader in step hands back, in these numbers.
use Rattle.std.specs.Prelude.{◌≡◌, List, [], ◌∷◌, map, ℕ, Some}
use Rattle.words.specs.Readings.{reading_in, reading_kind, reading_code}
use Rattle.sender.specs.State.{word_due}
use Rattle.sender.specs.declared.Sender.{Sender}
use Rattle.track.specs.Parts.{standing_number, verdict_number}
use Rattle.reader.specs.declared.Reader.{Reader}
use Rattle.track.specs.declared.Standing.TheVariants.{Read}
use Rattle.track.specs.declared.Verdict.TheVariants.{None, Good}
use Rattle.answers.specs.Answers.{send_answer_of}
use Rattle.buffers.specs.Buffers.{Buffers, lengths}
use Rattle.buffers.specs.Lengths.{stream_octets}
use Rattle.calls.specs.Sending.{call_of}
use Rattle.card.specs.Told.{SendTold, ReadTold}
use Rattle.answers.specs.declared.SendAnswer.{SendAnswer}
use Rattle.answers.specs.declared.ReadAnswer.{ReadAnswer}
use Rattle.promises.specs.Session.{Turn, Left, Allowed, Entry, block_sent}
use Rattle.promises.specs.Demand2.{word_sent, Agrees, reader_after, handed_back, Back}
use Rattle.promises.specs.Demand3.{Alike}
use Rattle.promises.specs.EntryPoints.{call_in_c}

-- what a call in C is given, beside the lent state
pub record Given : Type 0 where
  pub mute : ℕ
  pub code : ℕ
  pub a : ℕ
  pub e : ℕ
  pub t : ℕ
  pub lent : Buffers
  pub line : List ℕ

-- what it leaves: the lent state, the answer, and the line block
pub record LeftInC : Type 0 where
  pub state : Sender
  pub answer : SendAnswer
  pub line : List ℕ

-- each leaves what the contract of `delampuk_send` says
abbrev pub LeavesInC : Sender → Given → LeftInC → Type 0
LeavesInC s x l =
    SendTold s (call_of x.mute x.code x.a x.e x.t) x.lent x.line l.answer l.state l.line

-- a session that it allows: each call finds the state that the one before left in its place
abbrev pub AllowedInC : Sender → List Given → List LeftInC → Type 0
AllowedInC s [] [] = Unit {0}
AllowedInC s [] (l ∷ ls) = ⊥
AllowedInC s (x ∷ xs) [] = ⊥
AllowedInC s (x ∷ xs) (l ∷ ls) = LeavesInC s x l × AllowedInC l.state xs ls

-- the same call by value, and what it leaves, in numbers
abbrev pub turn_of : Given → Turn
turn_of x =
    record { call = call_in_c x.mute x.code x.a x.e x.t; lent = x.lent; line = x.line }

abbrev pub in_c : Left → LeftInC
in_c l = record { state = l.outcome.state; answer = send_answer_of l.outcome.answer; line = l.line }

abbrev pub LentIsSession : Type 0
LentIsSession = (s : Sender) (xs : List Given) (ls : List LeftInC) → AllowedInC s xs ls
    → (ms : List Left) × Allowed s (map turn_of xs) ms × (ls ≡ map in_c ms)

-- so silence holds of the lent state
abbrev pub LentSilence : Type 0
LentSilence = (s : Sender) (xs ys : List Given) (ls ms : List LeftInC) → AllowedInC s xs ls → AllowedInC s ys ms
    → Alike s (map turn_of xs) (map turn_of ys) → ls ≡ ms

-- ---- reading
-- what a reader in step hands back of a block, in numbers: the block is read, its word is the word sent under the reading that its slot gives
-- it, voice and data are the sender's, and every verdict but a first is good once the remainder agrees
pub record BackInC (e : Entry) (r : Reader) (a : ReadAnswer) (next : Reader) (out : Buffers) : Type 0 where
  pub accepted : (a.kind ≡ 0) × (a.number ≡ 0)
  pub read : a.block.standing ≡ standing_number Read
  pub kind : a.block.reading ≡ reading_kind (reading_in (word_due e.found) (Some (word_sent e)))
  pub code : a.block.code ≡ reading_code (reading_in (word_due e.found) (Some (word_sent e)))
  pub first : r.before ≡ 0 → a.block.verdict ≡ verdict_number None
  pub good : Agrees e.found r → a.block.verdict ≡ verdict_number Good
  pub streams : out ≡ handed_back e
  pub state : next ≡ reader_after r e

abbrev pub ReadBackInC : Type 0
ReadBackInC = (e : Entry) (r : Reader) → Back e r → (b : Buffers) (a : ReadAnswer) (next : Reader) (out : Buffers) → lengths b ≡ stream_octets
    → ReadTold r (block_sent e) b a next out → BackInC e r a next out
