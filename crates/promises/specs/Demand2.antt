-- Demand 2: the octets sent are those that 01 lays down; the reader mends BAS words and sorts bits by the same rules (that it finds alignment
-- is said in Recordings). A reader in step hands back every code, each data bit, each voice bit of an open block, and ones for a block
-- muted before "audio off" takes hold.
use Rattle.std.specs.Prelude.{◌≡◌, Bool, true, false, cond, List, [], ◌∷◌, ℕ, zero, suc, ◌-◌, ◌%◌, ◌^◌, ◌<◌, ◌≤◌, eqb, length, take, drop, replicate, Some, Ok, Err}
use Rattle.std.specs.Int.Bits.{bit_xor}
use Rattle.bits.specs.Bits.{bits_of, low_bits, number, octets}
use Rattle.crc.specs.Crc.{block_crc_of}
use Rattle.bas.specs.Words as bas
use Rattle.bas.specs.Reading.{weight, reading_of}
use Rattle.buffers.specs.Buffers.{Buffers, each, lengths}
use Rattle.buffers.specs.Lengths.{stream_octets}
use Rattle.numbers.specs.Numbers.{following}
use Rattle.modes.specs.Owners.{counting}
use Rattle.modes.specs.Modes.{audio_off, off}
use Rattle.modes.specs.declared.Mode.{Mode}
use Rattle.modes.specs.declared.Owner.{Owner}
use Rattle.modes.specs.declared.Owner.TheVariants.{Service, Voice, Lsd, Nobody}
use Rattle.codes.specs.Codes.{neutral, written, audio_attribute}
use Rattle.codes.specs.Commands.{command_of, offered}
use Rattle.codes.specs.declared.Command.{Command}
use Rattle.codes.specs.declared.Command.TheVariants.{Neutral, SetAudio, SetLsd, NoEffect}
use Rattle.slots.specs.Slots.{due_now, due_after, slot_of, due_of}
use Rattle.words.specs.Readings.{reading_in}
use Rattle.slots.specs.declared.Due.{Due}
use Rattle.slots.specs.declared.Due.TheVariants.{Plain, AnItem, N, Words}
use Rattle.frame.specs.Block.{block_of}
use Rattle.sender.specs.State as sending
use Rattle.sender.specs.State.{word_due}
use Rattle.sending.specs.Step.{header_for}
use Rattle.sender.specs.declared.Sender.{Sender}
use Rattle.control.specs.Refusals.{Answer}
use Rattle.control.specs.declared.Went.TheVariants.{Sent, Held}
use Rattle.reader.specs.State.{unknown, known, state_in_range, fresh_in}
use Rattle.track.specs.Signs.{signs_of}
use Rattle.track.specs.Step.{step_of}
use Rattle.reading.specs.Step as reading
use Rattle.reader.specs.declared.Reader.{Reader}
use Rattle.track.specs.declared.Report.{Report}
use Rattle.track.specs.declared.Standing.TheVariants.{Read}
use Rattle.track.specs.declared.Verdict.TheVariants.{None, Good}
use Rattle.promises.specs.Demand1.{held, plain}
use Rattle.promises.specs.Session.{Turn, turned, after, accepted, Entry, log, block_sent, entry_of}

-- ---- the octets
-- the answer to a call of the session
abbrev pub answer_to : Entry → Answer
answer_to e = (turned e.found e.turn).outcome.answer

-- where mute's "audio off" or the chosen command goes, the offered code is held and the answer says so; in all others it goes
abbrev pub Answered : Entry → Type 0
Answered e = answer_to e ≡ Ok (cond (held e.found e.turn.call) Held Sent)

-- the word that an answer says has gone: answered "sent", the offered code; answered "held", mute's "audio off" where mute is set in that
-- call, else the chosen command. A refused call sends none, and no entry is refused
abbrev pub word_told : Answer → Bool → Sender → ℕ → ℕ
word_told (Ok Sent) mute s code = code
word_told (Ok Held) mute s code = written audio_attribute (cond mute audio_off s.chosen)
word_told (Err r) mute s code = 0

-- the word of an accepted call (DECISIONS F40)
abbrev pub word_sent : Entry → ℕ
word_sent e = word_told (answer_to e) e.turn.call.mute e.found e.turn.call.code

-- an accepted call writes the block that 01 lays down for its word, cut by the mode that the call finds
abbrev pub LaidDown : Entry → Type 0
LaidDown e =
    block_sent e ≡ block_of e.found.mode (header_for e.found e.turn.call (word_sent e)) e.turn.call.mute e.turn.lent

-- what an offered command makes of the chosen audio
abbrev pub chosen_by : Command → ℕ → ℕ
chosen_by Neutral audio = audio_off
chosen_by (SetAudio v) audio = v
chosen_by (SetLsd v) audio = audio
chosen_by NoEffect audio = audio

-- the mode that a word leaves, by what was due: only a plain word is a command
abbrev pub commanded : Due → ℕ → Mode → Mode
commanded Plain word m = offered (command_of word) m
commanded AnItem word m = m
commanded N word m = m
commanded (Words left) word m = m

-- what one accepted call leaves to the next: the next block's number, the remainder of the block that was written, the mode by the word
-- that went, and the word due after it, by the rule of the slots. Only an offered command that is neither held nor an item changes what is
-- chosen
pub record GoesOn (e : Entry) (s : Sender) : Type 0 where
  pub number : s.block ≡ following e.found.block
  pub remainder : s.remainder ≡ block_crc_of (block_sent e)
  pub mode : s.mode ≡ commanded (word_due e.found) (word_sent e) e.found.mode
  pub chosen : s.chosen ≡ cond (plain e.found e.turn.call) (chosen_by (command_of e.turn.call.code) e.found.chosen) e.found.chosen
  pub due : word_due s ≡ due_after (word_due e.found) (Some (word_sent e))

-- block after block: each is answered by what went, is laid down, and finds what the one before left
abbrev pub BlockAfterBlock : Sender → List Entry → Type 0
BlockAfterBlock s [] = Unit {0}
BlockAfterBlock s (e ∷ es) =
    (e.found ≡ s) × Answered e × LaidDown e × GoesOn e (after s e.turn) × BlockAfterBlock (after s e.turn) es

abbrev pub OctetsLaidDown : Type 0
OctetsLaidDown = (s : Sender) (xs : List Turn) → BlockAfterBlock s (log s xs)

-- ---- in step
-- the odd-frame first bits sent since block 1 of this multiframe, before this block
abbrev pub sent_since : ℕ → List Bool
sent_since block = take (block - 1) (false ∷ false ∷ true ∷ false ∷ true ∷ true ∷ false ∷ false ∷ [])

-- those of them among the last six
abbrev pub last_six : List Bool → List Bool
last_six bits = drop (length bits - 6) bits

-- the reader keeps first bits as a number: its low bits, as many as there are of these, spell those that were sent
abbrev pub KeptAsSent : ℕ → ℕ → Type 0
KeptAsSent block firsts = firsts % 2 ^ length (last_six (sent_since block)) ≡ number (last_six (sent_since block))

-- place known and equal to the sender's next block, the same word due, the odd-frame first bits kept since block 1 of this multiframe as
-- sent; and the reader's state is in range (DECISIONS F28, F38)
pub record Placed (s : Sender) (r : Reader) : Type 0 where
  pub range : state_in_range r ≡ true
  pub knows : known r ≡ true
  pub place : r.block ≡ s.block
  pub due : due_now (due_of r.slot) ≡ word_due s
  pub bits : KeptAsSent s.block.0 r.firsts

-- and the same audio and data in force
pub record InStep (s : Sender) (r : Reader) : Type 0 where
  pub placed : Placed s r
  pub mode : r.mode ≡ s.mode

-- the reader has a block before, which every number but 0 says, and its remainder is the one that the sender goes on with
pub record Agrees (s : Sender) (r : Reader) : Type 0 where
  pub before : r.before ≡ 0 → ⊥
  pub remainder : r.remainder ≡ s.remainder

-- ---- what a reader in step hands back of a block that arrives unharmed
abbrev pub reader_after : Reader → Entry → Reader
reader_after r e = (step_of r (signs_of (block_sent e))).state

-- what a stream hands back: each voice bit of an open block, and ones for a muted one; each data bit
abbrev pub stream_bits : Owner → Entry → List Bool
stream_bits Voice e =
    let n = counting Voice e.found.mode in
    cond e.turn.call.mute (replicate n true) (take n (bits_of e.turn.lent.voice))
stream_bits Lsd e = take (counting Lsd e.found.mode) (bits_of e.turn.lent.lsd)
stream_bits Service e = []
stream_bits Nobody e = []

-- and the buffers with it, and zeros after it
abbrev pub handed_back : Entry → Buffers
handed_back e = each (octets stream_octets.voice (stream_bits Voice e)) (octets stream_octets.lsd (stream_bits Lsd e))

-- whatever the reader's contract allows, with buffers of the right lengths: the block is read; its word is the word sent, under the
-- reading that its slot gives it; voice and data are the sender's, and zeros after them; every verdict but a first is good once the
-- remainder agrees
pub record HandedBack (e : Entry) (r : Reader) (o : reading.Outcome) (out : Buffers) : Type 0 where
  pub report : Report
  pub answer : o.answer ≡ Ok report
  pub read : report.standing ≡ Read
  pub word : report.reading ≡ reading_in (word_due e.found) (Some (word_sent e))
  pub first : r.before ≡ 0 → report.verdict ≡ None
  pub good : Agrees e.found r → report.verdict ≡ Good
  pub streams : out ≡ handed_back e
  pub state : o.state ≡ reader_after r e

pub record Back (e : Entry) (r : Reader) : Type 0 where
  pub hands : (b : Buffers) (o : reading.Outcome) (out : Buffers) → lengths b ≡ stream_octets
      → reading.Told r (block_sent e) b o out → HandedBack e r o out
  pub step : InStep (after e.found e.turn) (reader_after r e)
  pub agrees : Agrees (after e.found e.turn) (reader_after r e)

abbrev pub AllBack : Reader → List Entry → Type 0
AllBack r [] = Unit {0}
AllBack r (e ∷ es) = Back e r × AllBack (reader_after r e) es

-- codes are eight bits
abbrev pub EightBits : List Turn → Type 0
EightBits [] = Unit {0}
EightBits (x ∷ xs) = (x.call.code < 256) × EightBits xs

-- from a reader in step with the sender, over any session of calls: after each block the two are in step again
abbrev pub StaysInStep : Type 0
StaysInStep = (s : Sender) (r : Reader) (xs : List Turn) → EightBits xs → InStep s r → AllBack r (log s xs)

-- ---- the reader mends BAS words
-- a word of which at most two bits came wrong is read as the code that was sent, and one of which more did never is
pub record Mends (code wrong : ℕ) : Type 0 where
  pub few : weight (low_bits 16 wrong) ≤ 2 → reading_of (bit_xor (bas.word_of code) wrong) ≡ Some code
  pub many : 2 < weight (low_bits 16 wrong) → reading_of (bit_xor (bas.word_of code) wrong) ≡ Some code → ⊥

abbrev pub MendsWords : Type 0
MendsWords = (code wrong : ℕ) → code < 256 → Mends code wrong

-- ---- coming into step
-- a reader that waits: place unknown, no word due, no first bits kept
pub record Waits (r : Reader) : Type 0 where
  pub range : state_in_range r ≡ true
  pub place : r.block ≡ unknown
  pub due : r.slot ≡ slot_of Plain
  pub bits : r.firsts ≡ 0b111111

-- a fresh reader waits
abbrev pub FreshWaits : Type 0
FreshWaits = Waits (fresh_in off)

-- how many blocks there are up to block 6 of the first multiframe that a reader hears whole
abbrev pub until_six : ℕ → ℕ
until_six block = cond (eqb block 1) 6 (15 - block)

-- sender and reader after n accepted calls
abbrev pub sender_on : ℕ → Sender → List Entry → Sender
sender_on zero s es = s
sender_on (suc n) s [] = s
sender_on (suc n) s (e ∷ es) = sender_on n (after s e.turn) es

abbrev pub reader_on : ℕ → Reader → List Entry → Reader
reader_on zero r es = r
reader_on (suc n) r [] = r
reader_on (suc n) r (e ∷ es) = reader_on n (reader_after r e) es

-- a reader that begins to read at any block knows its place after `until_six` blocks, where a plain word is due then; its mode is still the one that it
-- began with, since it read no word
abbrev pub FindsPlace : Type 0
FindsPlace = (s : Sender) (r : Reader) (xs : List Turn) → sending.state_in_range s ≡ true → EightBits xs → Waits r
    → (let n = until_six s.block.0 in
    let s₁ = sender_on n s (log s xs) in
    let r₁ = reader_on n r (log s xs) in
    n ≤ length (log s xs) → word_due s₁ ≡ Plain → Placed s₁ r₁ × (r₁.mode ≡ r.mode))

-- so it is in step if it missed no command
abbrev pub ComesIntoStep : Type 0
ComesIntoStep = (s : Sender) (r : Reader) (xs : List Turn) → sending.state_in_range s ≡ true → EightBits xs → Waits r
    → (let n = until_six s.block.0 in
    let s₁ = sender_on n s (log s xs) in
    let r₁ = reader_on n r (log s xs) in
    n ≤ length (log s xs) → word_due s₁ ≡ Plain → s₁.mode ≡ r.mode → InStep s₁ r₁)

-- and one that missed commands is in step after neutral
abbrev pub JoinsAtNeutral : Type 0
JoinsAtNeutral = (s : Sender) (r : Reader) (x : Turn) → x.call.code < 256 → accepted (turned s x).outcome.answer ≡ true
    → (let e = entry_of s x in
    Placed s r → word_due s ≡ Plain → word_sent e ≡ neutral → InStep (after s x) (reader_after r e))
