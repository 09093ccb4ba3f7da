-- Demand 1 of the other entry points: the looks, the walk's functions, every exported call in C that can refuse, and what the listings
-- promise instead. The rows of each are those of `Demand1`.
use Rattle.std.specs.Prelude.{◌≡◌, Bool, not, cond, ◌||◌, List, [], ◌∷◌, ◌++◌, ℕ, ◌+◌, ◌≤◌, ◌<◌, eqb, ltb, length, take, drop, Ok}
use Rattle.text.specs.Over.{Written}
use Rattle.search.specs.Finding.{search_of}
use Rattle.sender.specs.State as sender
use Rattle.presets.specs.Presets.{is_preset}
use Rattle.sender.specs.declared.Sender.{Sender}
use Rattle.control.specs.declared.Call.{Call}
use Rattle.reader.specs.State as reader
use Rattle.reading.specs.Refusals as reader-list
use Rattle.reading.specs.Step as reading
use Rattle.reader.specs.declared.Reader.{Reader}
use Rattle.recording.specs.Refusals as walk-list
use Rattle.recording.specs.Walk.{Stepped, stepped, step_at, look_at, buffers_at}
use Rattle.walk.specs.Walks.{onward}
use Rattle.walk.specs.declared.Walk.{Walk}
use Rattle.wording.specs.Lines.{number_line}
use Rattle.scribe.specs.Listing.{listing_of}
use Rattle.buffers.specs.Buffers.{Buffers}
use Rattle.answers.specs.Answers.{search_answer_of}
use Rattle.answers.specs.declared.SendAnswer.{SendAnswer}
use Rattle.answers.specs.declared.ReadAnswer.{ReadAnswer}
use Rattle.answers.specs.declared.SearchAnswer.{SearchAnswer}
use Rattle.answers.specs.declared.StepAnswer.{StepAnswer}
use Rattle.presetting.specs.declared.PresetAnswer.{PresetAnswer}
use Rattle.presetting.specs.declared.PresetBits.{PresetBits}
use Rattle.calls.specs.Sending.{call_of}
use Rattle.card.specs.Told.{SendTold, ReadTold, StepTold, PresetTold}
use Rattle.presetting.specs.Presetting.{preset_given}
use Rattle.keeping.specs.declared.WalkState.{WalkState}
use Rattle.promises.specs.Demand1.{Row, row, first, Refuses, held, sending_rows, reading_rows, searching_rows, stepping_rows}

-- ---- `reading::look`: rows 1 and 2, for it is lent no buffers
abbrev pub looking_rows : Reader → List ℕ → List Row
looking_rows s line = row 1 (not (reader.state_in_range s)) ∷ row 2 (not (eqb (length line) 160)) ∷ []

abbrev pub Looking : Type 0
Looking = (s : Reader) (line : List ℕ) (r : reading.Outcome) → r ≡ reading.look_of s line
    → Refuses (reader-list.number_in r.answer) (looking_rows s line) (r.state ≡ s)

-- ---- `recording::look` and `looking::look_from`: rows 1 and 9
abbrev pub walking_rows : List ℕ → ℕ → Reader → List Row
walking_rows recording place s =
    row 1 (not (reader.state_in_range s)) ∷ row 9 (ltb 65536 (length recording) || ltb (length recording) place) ∷ []

abbrev pub WalkLooking : Type 0
WalkLooking = (recording : List ℕ) (place : ℕ) (lost : Bool) (s : Reader) (r : Stepped) → r ≡ look_at recording place lost s
    → Refuses (walk-list.number_in r.answer) (walking_rows recording place s) ((r.reader ≡ s) × (r.place ≡ place) × (r.lost ≡ lost))

-- ---- `walk::step` and `looking::look`, over a walk that holds its recording. `walk::step_from` has the contract of `recording::step`, so
-- `Stepping` is said of it too
abbrev pub StepOfWalk : Type 0
StepOfWalk = (w v : Walk) (s n : Reader) (b : Buffers) (r : walk-list.Answer) (out : Buffers)
    → v ≡ onward w (step_at w.recording.now w.stand.place w.stand.lost s b)
    → stepped v.stand n r ≡ step_at w.recording.now w.stand.place w.stand.lost s b
    → out ≡ buffers_at w.recording.now w.stand.place w.stand.lost s b
    → Refuses (walk-list.number_in r) (stepping_rows w.recording.now w.stand.place s b) ((v ≡ w) × (n ≡ s) × (out ≡ b))

abbrev pub LookOfWalk : Type 0
LookOfWalk = (w v : Walk) (s n : Reader) (r : walk-list.Answer)
    → v ≡ onward w (look_at w.recording.now w.stand.place w.stand.lost s)
    → stepped v.stand n r ≡ look_at w.recording.now w.stand.place w.stand.lost s
    → Refuses (walk-list.number_in r) (walking_rows w.recording.now w.stand.place s) ((v ≡ w) × (n ≡ s))

-- ---- the exported calls. A call in C answers a kind and a number: it refuses as `Refuses` says, and its kind is that of a refusal exactly then
pub record RefusesInC (kind refused n : ℕ) (rows : List Row) (untouched : Type 0) : Type 0 where
  pub refuses : Refuses n rows untouched
  pub told : eqb kind refused ≡ not (eqb n 0)

-- a switch of C: 0 is no, every other number yes
abbrev pub yes : ℕ → Bool
yes switch = not (eqb switch 0)

-- what a sending call says beside its buffers
abbrev pub call_in_c : ℕ → ℕ → ℕ → ℕ → ℕ → Call
call_in_c mute code a e t = record { mute = yes mute; code = code; a = yes a; e = yes e; t = yes t }

-- `delampuk_send`: kind 2 is refused, 1 held and 0 sent
abbrev pub SendingInC : Type 0
SendingInC = (s : Sender) (mute code a e t : ℕ) (b : Buffers) (line : List ℕ) (r : SendAnswer) (next : Sender) (l : List ℕ)
    → SendTold s (call_of mute code a e t) b line r next l
    → RefusesInC r.kind 2 r.number (sending_rows s (call_in_c mute code a e t) b line) ((next ≡ s) × (l ≡ line))
    × (r.number ≡ 0 → r.kind ≡ cond (held s (call_in_c mute code a e t)) 1 0)

-- `delampuk_read`: kind 1 is refused
abbrev pub ReadingInC : Type 0
ReadingInC = (s : Reader) (line : List ℕ) (b : Buffers) (r : ReadAnswer) (next : Reader) (out : Buffers)
    → ReadTold s line b r next out
    → RefusesInC r.kind 1 r.number (reading_rows s line b) ((next ≡ s) × (out ≡ b))

-- `delampuk_search`: where it does not refuse, its place is the one that the search found
abbrev pub SearchingInC : Type 0
SearchingInC = (recording : List ℕ) (start : ℕ) (r : SearchAnswer) → r ≡ search_answer_of (search_of recording start)
    → Refuses r.number (searching_rows recording start) (Unit {0}) × (r.number ≡ 0 → search_of recording start ≡ Ok r.place)

-- `delampuk_step`: kind 3 is refused, and then the whole walk is as it was, its mark and its reserved octets too
abbrev pub SteppingInC : Type 0
SteppingInC = (w : WalkState) (recording : List ℕ) (b : Buffers) (r : StepAnswer) (next : WalkState) (out : Buffers)
    → StepTold w recording b r next out
    → RefusesInC r.kind 3 r.number (stepping_rows recording w.place w.reader b) ((next ≡ w) × (out ≡ b))

-- `delampuk_read_preset` and `delampuk_write_preset`
abbrev pub ReadingPresetInC : Type 0
ReadingPresetInC = (s : Sender) (bits : ℕ) (r : PresetAnswer) (next : Sender) → PresetTold s bits r next
    → Refuses r.number (row 11 (not (is_preset bits)) ∷ []) (next ≡ s)

abbrev pub WritingPresetInC : Type 0
WritingPresetInC = (s : Sender) (r : PresetBits) → r ≡ preset_given s
    → Refuses r.number (row 1 (not (sender.state_in_range s)) ∷ []) (Unit {0})

-- ---- `scribe::list` and `delampuk_list` refuse nothing: they take every recording and every text, and the listing says which row of a
-- search is given
pub record Lists (recording text : List ℕ) (r : ℕ) (t : List ℕ) : Type 0 where
  -- line 1 is "none" and the refusal number, and then nothing more
  pub none : (first (searching_rows recording 0) ≡ 0 → ⊥) → listing_of recording ≡ number_line "none " (first (searching_rows recording 0))
  -- or "found" and the place; and the last line is the octets left
  pub begins : first (searching_rows recording 0) ≡ 0
      → (p : ℕ) × (rest : List ℕ) × (search_of recording 0 ≡ Ok p) × (listing_of recording ≡ number_line "found " p ++ rest)
  pub ends : first (searching_rows recording 0) ≡ 0 → (done : List ℕ) × (left : ℕ) × (listing_of recording ≡ done ++ number_line "left " left)
  -- a text that is long enough holds it whole and keeps the rest; a shorter one holds what fits, and one more than its length is answered
  pub whole : length (listing_of recording) ≤ length text
      → (r ≡ length (listing_of recording)) × (t ≡ listing_of recording ++ drop (length (listing_of recording)) text)
  pub cut : length text < length (listing_of recording) → (r ≡ length text + 1) × (t ≡ take (length text) (listing_of recording))

abbrev pub Listing : Type 0
Listing = (recording text : List ℕ) (r : ℕ) (t : List ℕ) → Written 0 (listing_of recording) text r t → Lists recording text r t
