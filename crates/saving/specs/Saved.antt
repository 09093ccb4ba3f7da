-- Saved forms of a sender and of a reader: their octets in order, and a state back from them. docs/SAVED.md has a row for each form.
use Rattle.std.specs.Prelude.{Bool, false, cond, ◌||◌, List, [], ◌∷◌, ℕ, eqb, length, get_or, Option, Some, None}
use Rattle.sender.specs.declared.Sender.{Sender}
use Rattle.reader.specs.declared.Reader.{Reader}

-- ---- what loading leaves: the state, and 1 where the octets were a saved form, 0 where they were none
pub record Load (State : Type 0) : Type 0 where
  pub state : State
  pub answer : ℕ

-- what is no saved form leaves the state as it was
abbrev pub loaded_over : {State : Type 0} → State → Option State → Load State
loaded_over was (Some s) = record { state = s; answer = 1 }
loaded_over was None = record { state = was; answer = 0 }

abbrev pub SenderLoad : Type 0
SenderLoad = Load Sender

abbrev pub ReaderLoad : Type 0
ReaderLoad = Load Reader

-- ---- a form is written over a buffer of its own length, and over no other
abbrev pub fits : List ℕ → List ℕ → Bool
fits octets buffer = eqb (length buffer) (length octets)

abbrev pub save_answer : List ℕ → List ℕ → ℕ
save_answer octets buffer = cond (fits octets buffer) 1 0

abbrev pub saved_over : List ℕ → List ℕ → List ℕ
saved_over octets buffer = cond (fits octets buffer) octets buffer

-- ---- octets are a form by how many they are: `forms` are the lengths that load
abbrev pub is_form : List ℕ → ℕ → Bool
is_form [] n = false
is_form (m ∷ forms) n = eqb n m || is_form forms n

-- ---- a sender: 6 octets
abbrev pub sender_forms : List ℕ
sender_forms = 6 ∷ []

abbrev pub sender_octets : Sender → List ℕ
sender_octets s = s.chosen ∷ s.mode.audio ∷ s.mode.lsd ∷ s.block.0 ∷ s.due ∷ s.remainder ∷ []

-- what saving one answers, and what the buffer holds then
abbrev pub sender_saved : Sender → List ℕ → ℕ
sender_saved s buffer = save_answer (sender_octets s) buffer

abbrev pub sender_kept : Sender → List ℕ → List ℕ
sender_kept s buffer = saved_over (sender_octets s) buffer

-- a state from the octets of a form: those that a shorter form has not are 0, which says of each field what was so without it (DECISIONS B11)
abbrev pub sender_in : List ℕ → Sender
sender_in xs =
    record {
      chosen = get_or xs 0 0;
      mode = record { audio = get_or xs 1 0; lsd = get_or xs 2 0 };
      block = record { 0 = get_or xs 3 0 };
      due = get_or xs 4 0;
      remainder = get_or xs 5 0;
    }

-- what is no saved form is no state
abbrev pub sender_of : List ℕ → Option Sender
sender_of xs = cond (is_form sender_forms (length xs)) (Some (sender_in xs)) None

abbrev pub sender_loaded : Sender → List ℕ → SenderLoad
sender_loaded s xs = loaded_over s (sender_of xs)

-- ---- a reader: 12 octets
abbrev pub reader_forms : List ℕ
reader_forms = 12 ∷ []

abbrev pub reader_octets : Reader → List ℕ
reader_octets s =
    s.mode.audio
    ∷ s.mode.lsd
    ∷ s.kept.audio
    ∷ s.kept.lsd
    ∷ s.wrong
    ∷ s.block.0
    ∷ s.firsts
    ∷ s.misses
    ∷ s.slot.kind
    ∷ s.slot.words
    ∷ s.before
    ∷ s.remainder
    ∷ []

-- what saving one answers, and what the buffer holds then
abbrev pub reader_saved : Reader → List ℕ → ℕ
reader_saved s buffer = save_answer (reader_octets s) buffer

abbrev pub reader_kept : Reader → List ℕ → List ℕ
reader_kept s buffer = saved_over (reader_octets s) buffer

abbrev pub reader_in : List ℕ → Reader
reader_in xs =
    record {
      mode = record { audio = get_or xs 0 0; lsd = get_or xs 1 0 };
      kept = record { audio = get_or xs 2 0; lsd = get_or xs 3 0 };
      wrong = get_or xs 4 0;
      block = record { 0 = get_or xs 5 0 };
      firsts = get_or xs 6 0;
      misses = get_or xs 7 0;
      slot = record { kind = get_or xs 8 0; words = get_or xs 9 0 };
      before = get_or xs 10 0;
      remainder = get_or xs 11 0;
    }

abbrev pub reader_of : List ℕ → Option Reader
reader_of xs = cond (is_form reader_forms (length xs)) (Some (reader_in xs)) None

abbrev pub reader_loaded : Reader → List ℕ → ReaderLoad
reader_loaded s xs = loaded_over s (reader_of xs)
