-- Saved states. A state that was saved comes back when it is loaded, whatever stood where it is loaded; a buffer of another length than the form's is
-- not written; octets that are no saved form change nothing; and each octet of a form is what docs/SAVED.md says of it, so that a state which was
-- saved once loads with every later version. Lengths and octets are written out once more.
use Rattle.std.specs.Prelude.{◌≡◌, List, [], ◌∷◌, ℕ, ◌+◌, ◌*◌, ◌<◌, ◌^◌, length, replicate}
use Rattle.sender.specs.declared.Sender.{Sender}
use Rattle.reader.specs.declared.Reader.{Reader}
use Rattle.keeping.specs.declared.WalkState.{WalkState}
use Rattle.saving.specs.Saved.{Load, sender_saved, sender_kept, sender_loaded, reader_saved, reader_kept, reader_loaded}
use Rattle.keeping.specs.SavedWalk.{walk_saved, walk_kept, walk_loaded}

-- a length is none of these
abbrev pub NoneOf : List ℕ → ℕ → Type 0
NoneOf [] n = Unit {0}
NoneOf (m ∷ ms) n = (n ≡ m → ⊥) × NoneOf ms n

-- what loading leaves: a state, and its answer
abbrev pub loaded : {S : Type 0} → S → ℕ → Load S
loaded state answer = record { state = state; answer = answer }

-- of states S: `octets` is the length of the form that is written, `older` are the lengths of those before it, `answer` and `after` are what saving
-- answers and leaves in the buffer, and `load` is what loading leaves. Said of the states that the library itself leaves, `whole`
pub record Saves (S : Type 0) (octets : ℕ) (older : List ℕ) (answer : S → List ℕ → ℕ) (after : S → List ℕ → List ℕ) (load : S → List ℕ → Load S) (whole : S → Type 0) : Type 0 where
  pub back : (s was : S) (buffer : List ℕ) → whole s → length buffer ≡ octets → (answer s buffer ≡ 1) × (load was (after s buffer) ≡ loaded s 1)
  pub room : (s : S) (buffer : List ℕ) → (length buffer ≡ octets → ⊥) → (answer s buffer ≡ 0) × (after s buffer ≡ buffer)
  pub none : (was : S) (xs : List ℕ) → NoneOf (octets ∷ older) (length xs) → load was xs ≡ loaded was 0

abbrev pub SavesSender : Type 0
SavesSender = Saves Sender 6 [] sender_saved sender_kept sender_loaded (λ s. Unit {0})

abbrev pub SavesReader : Type 0
SavesReader = Saves Reader 12 [] reader_saved reader_kept reader_loaded (λ s. Unit {0})

-- a walk's place is a number of 64 bits, and its reserved octets are not saved
abbrev pub SavesWalk : Type 0
SavesWalk =
    Saves WalkState 21 [] walk_saved walk_kept walk_loaded
    (λ w. (w.place < 2 ^ 64) × (w.reserved ≡ replicate 3 0))

-- ---- which octet is which. A saving and a loading call that both put the octets in another order would meet `Saves`, and not this
abbrev pub SenderForm : Type 0
SenderForm = (was : Sender) (chosen audio lsd block due remainder : ℕ)
    → sender_loaded was (chosen ∷ audio ∷ lsd ∷ block ∷ due ∷ remainder ∷ [])
    ≡ record {
      state = record { chosen = chosen; mode = record { audio = audio; lsd = lsd }; block = record { 0 = block }; due = due; remainder = remainder };
      answer = 1;
    }

abbrev pub ReaderForm : Type 0
ReaderForm = (was : Reader) (audio lsd audioKept lsdKept wrong block firsts misses kind words before remainder : ℕ)
    → reader_loaded was
    (audio ∷ lsd ∷ audioKept ∷ lsdKept ∷ wrong ∷ block ∷ firsts ∷ misses ∷ kind ∷ words ∷ before ∷ remainder ∷ [])
    ≡ record {
      state =
          record {
            mode = record { audio = audio; lsd = lsd };
            kept = record { audio = audioKept; lsd = lsdKept };
            wrong = wrong;
            block = record { 0 = block };
            firsts = firsts;
            misses = misses;
            slot = record { kind = kind; words = words };
            before = before;
            remainder = remainder;
          };
      answer = 1;
    }

-- a walk `w` from twelve octets, those of its reader `r`, the mark of a lost block, and the place in eight octets, the lowest first
pub record WalkFormed (w : WalkState) (r : Reader) (mark p0 p1 p2 p3 p4 p5 p6 p7 : ℕ) : Type 0 where
  pub reader : w.reader ≡ r
  pub lost : w.lost ≡ mark
  pub place : (p0 < 256) × (p1 < 256) × (p2 < 256) × (p3 < 256) × (p4 < 256) × (p5 < 256) × (p6 < 256) × (p7 < 256)
      → w.place ≡ p0 + 256 * (p1 + 256 * (p2 + 256 * (p3 + 256 * (p4 + 256 * (p5 + 256 * (p6 + 256 * p7))))))

abbrev pub WalkForm : Type 0
WalkForm = (was : WalkState) (s : Reader) (a b c d e f g h i j k l mark p0 p1 p2 p3 p4 p5 p6 p7 : ℕ)
    → WalkFormed
    (walk_loaded was (a ∷ b ∷ c ∷ d ∷ e ∷ f ∷ g ∷ h ∷ i ∷ j ∷ k ∷ l ∷ mark ∷ p0 ∷ p1 ∷ p2 ∷ p3 ∷ p4 ∷ p5 ∷ p6 ∷ p7 ∷ [])).state
    (reader_loaded s (a ∷ b ∷ c ∷ d ∷ e ∷ f ∷ g ∷ h ∷ i ∷ j ∷ k ∷ l ∷ [])).state
    mark p0 p1 p2 p3 p4 p5 p6 p7
