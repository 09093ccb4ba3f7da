-- Demand 2 of recordings: the reader finds alignment. The octets that a session sent are found by a search, and a walk over them answers
-- block after block what the reader answers of these blocks.
use Rattle.std.specs.Prelude.{◌≡◌, Bool, true, false, List, [], ◌∷◌, ◌++◌, ℕ, zero, suc, ◌+◌, ◌≤◌, ◌<◌, length, get_or, drop, Ok, Err}
use Rattle.bits.specs.Bits.{sc_bit}
use Rattle.search.specs.Finding.{search_of}
use Rattle.refusals.specs.declared.Refusal.TheVariants.{NoPlace}
use Rattle.sender.specs.State as sending
use Rattle.slots.specs.declared.Due.TheVariants.{Plain}
use Rattle.sender.specs.State.{word_due}
use Rattle.sender.specs.declared.Sender.{Sender}
use Rattle.reader.specs.State.{state_in_range}
use Rattle.reading.specs.Step as reading
use Rattle.reader.specs.declared.Reader.{Reader}
use Rattle.track.specs.declared.Report.{Report}
use Rattle.buffers.specs.Buffers.{Buffers, lengths}
use Rattle.buffers.specs.Lengths.{line_octets, stream_octets}
use Rattle.recording.specs.Walk.{step_at, look_at, buffers_at}
use Rattle.recording.specs.declared.Met.TheVariants.{Block}
use Rattle.recording.specs.Walk.{Stepped}
use Rattle.promises.specs.Session.{Turn, Entry, log, block_sent}
use Rattle.promises.specs.Demand2.{InStep, Waits, EightBits, reader_after, HandedBack, until_six, sender_on}

-- ---- what a search answers, in 01's own words
-- the SC bit of the octet at an offset
abbrev pub sc_at : List ℕ → ℕ → Bool
sc_at part offset = sc_bit (get_or part offset 0)

-- SC has 0011011 at offsets 1-7, 1 at 81, 0011011 at 161-167, all 168 octets inside
pub record Aligned (part : List ℕ) : Type 0 where
  pub first : sc_at part 1 ∷ sc_at part 2 ∷ sc_at part 3 ∷ sc_at part 4 ∷ sc_at part 5 ∷ sc_at part 6 ∷ sc_at part 7 ∷ []
      ≡ false ∷ false ∷ true ∷ true ∷ false ∷ true ∷ true ∷ []
  pub one : sc_at part 81 ≡ true
  pub second : sc_at part 161 ∷ sc_at part 162 ∷ sc_at part 163 ∷ sc_at part 164 ∷ sc_at part 165 ∷ sc_at part 166 ∷ sc_at part 167 ∷ []
      ≡ false ∷ false ∷ true ∷ true ∷ false ∷ true ∷ true ∷ []
  pub inside : 168 ≤ length part

-- a place is answered only if alignment stands there and at no place before it, from the start on; and "no such place" only if it stands at none
pub record Finds (recording : List ℕ) (start : ℕ) : Type 0 where
  pub begins : (p : ℕ) → search_of recording start ≡ Ok p → start ≤ p
  pub fits : (p : ℕ) → search_of recording start ≡ Ok p → Aligned (drop p recording)
  pub smallest : (p q : ℕ) → search_of recording start ≡ Ok p → start ≤ q → q < p → Aligned (drop q recording) → ⊥
  pub none : (q : ℕ) → search_of recording start ≡ Err NoPlace → start ≤ q → Aligned (drop q recording) → ⊥

abbrev pub SearchFinds : Type 0
SearchFinds = (recording : List ℕ) (start : ℕ) → Finds recording start

-- ---- a recorded session
-- the octets that it sent, block after block
abbrev pub octets_sent : List Entry → List ℕ
octets_sent [] = []
octets_sent (e ∷ es) = block_sent e ++ octets_sent es

-- recorded with any octets before and after them
abbrev pub recorded : List ℕ → List Entry → List ℕ → List ℕ
recorded before es more = before ++ octets_sent es ++ more

-- any two accepted calls in a row leave octets that a search finds: with none before them, a search from 0 answers place 0
abbrev pub FindsAlignment : Type 0
FindsAlignment = (s : Sender) (xs : List Turn) (before more : List ℕ)
    → (let recording = recorded before (log s xs) more in
    2 ≤ length (log s xs) → length recording ≤ 65536 → search_of recording (length before) ≡ Ok (length before))

-- ---- a walk over it
-- a step over a recorded block: it answers what the reader answers of that block, hands out what the reader hands out, leaves the reader as
-- the block leaves it, and stands at the block's end, with nothing lost
pub record AsRead (place : ℕ) (r : Reader) (e : Entry) (b : Buffers) (x : Stepped) (out : Buffers) : Type 0 where
  pub report : Report
  pub answer : x.answer ≡ Ok (Block report)
  pub told : reading.Told r (block_sent e) b (reading.outcome x.reader (Ok report)) out
  pub state : x.reader ≡ reader_after r e
  pub stands : x.place ≡ place + line_octets
  pub lost : x.lost ≡ false

-- whatever the step's contract allows, with buffers of the right lengths
abbrev pub Steps : List ℕ → ℕ → Reader → (Buffers → Stepped → Buffers → Type 0) → Type 0
Steps recording place r P = (b : Buffers) (x : Stepped) (out : Buffers) → lengths b ≡ stream_octets
    → x ≡ step_at recording place false r b
    → out ≡ buffers_at recording place false r b
    → P b x out

-- block after block
abbrev pub AllAsRead : List ℕ → ℕ → Reader → List Entry → Type 0
AllAsRead recording place r [] = Unit {0}
AllAsRead recording place r (e ∷ es) = Steps recording place r (AsRead place r e) × AllAsRead recording (place + line_octets) (reader_after r e) es

abbrev pub WalksAsRead : Type 0
WalksAsRead = (s : Sender) (r : Reader) (xs : List Turn) (before more : List ℕ) → state_in_range r ≡ true
    → (let recording = recorded before (log s xs) more in
    length recording ≤ 65536 → AllAsRead recording (length before) r (log s xs))

-- ---- so `StaysInStep` and `ComesIntoStep` hold of recordings
-- a step hands back what a reader in step hands back
pub record StepBack (e : Entry) (r : Reader) (x : Stepped) (out : Buffers) : Type 0 where
  pub outcome : reading.Outcome
  pub back : HandedBack e r outcome out
  pub answer : x.answer ≡ Ok (Block back.report)

abbrev pub AllStepsBack : List ℕ → ℕ → Reader → List Entry → Type 0
AllStepsBack recording place r [] = Unit {0}
AllStepsBack recording place r (e ∷ es) =
    Steps recording place r (λ b. StepBack e r) × AllStepsBack recording (place + line_octets) (reader_after r e) es

abbrev pub WalkStaysInStep : Type 0
WalkStaysInStep = (s : Sender) (r : Reader) (xs : List Turn) (before more : List ℕ) → EightBits xs → InStep s r
    → (let recording = recorded before (log s xs) more in
    length recording ≤ 65536 → AllStepsBack recording (length before) r (log s xs))

-- the reader of a walk after n steps; with buffers of the right lengths a step leaves what a look leaves
abbrev pub walkedOn : ℕ → List ℕ → ℕ → Bool → Reader → Reader
walkedOn zero recording place lost r = r
walkedOn (suc n) recording place lost r =
    let x = look_at recording place lost r in
    walkedOn n recording x.place x.lost x.reader

abbrev pub WalkComesIntoStep : Type 0
WalkComesIntoStep = (s : Sender) (r : Reader) (xs : List Turn) (before more : List ℕ) → sending.state_in_range s ≡ true → EightBits xs → Waits r
    → (let recording = recorded before (log s xs) more in
    let n = until_six s.block.0 in
    let s₁ = sender_on n s (log s xs) in
    let r₁ = walkedOn n recording (length before) false r in
    length recording ≤ 65536 → n ≤ length (log s xs) → word_due s₁ ≡ Plain → s₁.mode ≡ r.mode → InStep s₁ r₁)
