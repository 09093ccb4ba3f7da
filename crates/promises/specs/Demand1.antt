-- Demand 1: every entry point takes any octets, lengths and saved state; it refuses by document 01's numbered list, only then, and a
-- refusal leaves state and buffers untouched.
use Rattle.std.specs.Prelude.{◌≡◌, Bool, true, false, not, cond, ◌&&◌, ◌||◌, List, [], ◌∷◌, map, ℕ, eqb, ltb, length, drop, Result}
use Rattle.codes.specs.Codes.{attribute}
use Rattle.codes.specs.Carried.{sender_carries}
use Rattle.refusals.specs.Numbers.{ranked}
use Rattle.refusals.specs.declared.Refusal.{Refusal}
use Rattle.slots.specs.Slots.{is_item}
use Rattle.sender.specs.State.{word_due, sounding, choosing}
use Rattle.sender.specs.State as sender
use Rattle.control.specs.Refusals as sender-list
use Rattle.sending.specs.Step as sending
use Rattle.presets.specs.Presets.{is_preset, preset_read, preset_written, preset_number, written_number}
use Rattle.sender.specs.declared.Sender.{Sender}
use Rattle.control.specs.declared.Call.{Call}
use Rattle.presets.specs.declared.PresetRead.{PresetRead}
use Rattle.presets.specs.declared.PresetUnread.{PresetUnread}
use Rattle.buffers.specs.Buffers.{Buffers}
use Rattle.reader.specs.State as reader
use Rattle.reading.specs.Refusals as reader-list
use Rattle.reading.specs.Step as reading
use Rattle.reader.specs.declared.Reader.{Reader}
use Rattle.search.specs.Finding as finding
use Rattle.recording.specs.Refusals as walk-list
use Rattle.recording.specs.Walk.{step_at, buffers_at}
use Rattle.recording.specs.Walk.{Stepped}

-- a row of the list: its number, and whether it is given
pub record Row : Type 0 where
  pub number : ℕ
  pub given : Bool

abbrev pub row : ℕ → Bool → Row
row n b = record { number = n; given = b }

-- the number of the first row that is given, 0 where none is
abbrev pub first : List Row → ℕ
first [] = 0
first (r ∷ rs) = cond r.given r.number (first rs)

-- a call answers with a refusal's number, or with 0 where it does not refuse: by these rows, which stand in the order in which refusals are
-- given, exactly when one of them is given; and a refusal leaves all untouched
pub record Refuses (n : ℕ) (rows : List Row) (untouched : Type 0) : Type 0 where
  pub ordered : ranked (map (λ (r : Row). r.number) rows) ≡ true
  pub exact : n ≡ first rows
  pub kept : (n ≡ 0 → ⊥) → untouched

-- ---- `sending::send`: rows 1 to 8
-- the offered code is held: no item is due, and mute's "audio off" or the chosen command goes
abbrev pub held : Sender → Call → Bool
held s c = not (is_item (word_due s)) && (c.mute && sounding s || not c.mute && not (sounding s) && choosing s)

-- rows 5 to 8 look only at an offered code that is not held; 5, 7 and 8 only where no item is due. Where one is, the code is never held
abbrev pub plain : Sender → Call → Bool
plain s c = not (held s c) && not (is_item (word_due s))

abbrev pub sending_rows : Sender → Call → Buffers → List ℕ → List Row
sending_rows s c b line =
    row 1 (not (sender.state_in_range s))
    ∷ row 2 (not (eqb (length line) 160))
    ∷ row 3 (not (eqb (length b.voice) 140))
    ∷ row 4 (not (eqb (length b.lsd) 156))
    ∷ row 5 (plain s c && not (sender_carries c.code))
    ∷ row 6 (is_item (word_due s) && eqb (attribute c.code) 0b111)
    ∷ row 7 (plain s c && sender-list.is_audio c.code && c.mute)
    ∷ row 8 (plain s c && sender-list.clashes s c.code)
    ∷ []

abbrev pub Sending : Type 0
Sending = (s : Sender) (c : Call) (b : Buffers) (line : List ℕ) (r : sending.Outcome) (l : List ℕ)
    → sending.Told s c b line r l
    → Refuses (sender-list.number_in r.answer) (sending_rows s c b line) ((r.state ≡ s) × (l ≡ line))

-- ---- `reading::read`: rows 1 to 4
abbrev pub reading_rows : Reader → List ℕ → Buffers → List Row
reading_rows s line b =
    row 1 (not (reader.state_in_range s))
    ∷ row 2 (not (eqb (length line) 160))
    ∷ row 3 (not (eqb (length b.voice) 140))
    ∷ row 4 (not (eqb (length b.lsd) 156))
    ∷ []

abbrev pub Reading : Type 0
Reading = (s : Reader) (line : List ℕ) (b : Buffers) (r : reading.Outcome) (out : Buffers)
    → reading.Told s line b r out
    → Refuses (reader-list.number_in r.answer) (reading_rows s line b) ((r.state ≡ s) × (out ≡ b))

-- ---- `search::search`: rows 9 and 10; it is lent nothing that it could change
-- alignment stands at the first octet of this part of a recording, or at a later one
unfoldable pub somewhere : List ℕ → Bool
somewhere [] = false
somewhere (x ∷ xs) = finding.aligned (x ∷ xs) || somewhere xs

abbrev pub searching_rows : List ℕ → ℕ → List Row
searching_rows recording start =
    let part = drop start recording in
    row 9 (ltb 65536 (length recording) || ltb (length part) 168)
    ∷ row 10 (not (somewhere part))
    ∷ []

abbrev pub Searching : Type 0
Searching = (recording : List ℕ) (start : ℕ) (r : finding.Found) → r ≡ finding.search_of recording start
    → Refuses (finding.found_number r) (searching_rows recording start) (Unit {0})

-- ---- `recording::step`: rows 1, 3, 4 and 9
abbrev pub stepping_rows : List ℕ → ℕ → Reader → Buffers → List Row
stepping_rows recording place s b =
    row 1 (not (reader.state_in_range s))
    ∷ row 3 (not (eqb (length b.voice) 140))
    ∷ row 4 (not (eqb (length b.lsd) 156))
    ∷ row 9 (ltb 65536 (length recording) || ltb (length recording) place)
    ∷ []

abbrev pub Stepping : Type 0
Stepping = (recording : List ℕ) (place : ℕ) (lost : Bool) (s : Reader) (b : Buffers) (r : Stepped) (out : Buffers)
    → r ≡ step_at recording place lost s b
    → out ≡ buffers_at recording place lost s b
    → Refuses (walk-list.number_in r.answer) (stepping_rows recording place s b)
    ((r.reader ≡ s) × (r.place ≡ place) × (r.lost ≡ lost) × (out ≡ b))

-- ---- `presets::read_preset`: row 11; `presets::write_preset`: row 1. Neither is lent anything or gives back a state that it took
abbrev pub ReadingPreset : Type 0
ReadingPreset = (bits : ℕ) (r : Result PresetRead PresetUnread) → r ≡ preset_read bits
    → Refuses (preset_number r) (row 11 (not (is_preset bits)) ∷ []) (Unit {0})

abbrev pub WritingPreset : Type 0
WritingPreset = (s : Sender) (r : Result ℕ Refusal) → r ≡ preset_written s
    → Refuses (written_number r) (row 1 (not (sender.state_in_range s)) ∷ []) (Unit {0})
