-- Demand 3, its first part: what the microphone hears during silent blocks leaves no trace in a session.
use mathlib.Core.Path.{◌≡◌, refl, sym, ap, ◌∙◌}
use mathlib.Core.Bool.{Bool, true, false, false≢true, not, ◌||◌}
use mathlib.Core.List.{List, [], ◌∷◌}
use Prim.Native.Nat.{ℕ}
use borrow.Author.Tests.{eqb-true, not-false}
use lib.ListN.{length}
use Rattle.std.specs.Prelude.{Result}
use Rattle.table.specs.Table.{audio_table, audio_places, beside, audio_listed}
use Rattle.modes.specs.Owners.{held_by}
use Rattle.modes.specs.Modes.{audio_off}
use Rattle.modes.specs.declared.Mode.{Mode}
use Rattle.places.specs.Layout.{layout_of}
use Rattle.frame.proofs.BlockLaws.{silent-muted, silent-off}
use Rattle.sender.specs.State.{sounding}
use Rattle.sending.specs.Step.{header_for, block_for, state_by, answer_by, line_by, decided, outcome_of, line_of, Told}
use Rattle.sender.specs.declared.Sender.{Sender}
use Rattle.control.specs.declared.Call.{Call}
use Rattle.control.specs.declared.Decision.{Decision}
use Rattle.control.specs.declared.Refused.{Refused}
use Rattle.sending.proofs.OutcomeLaws.{told}
use Rattle.buffers.specs.Buffers.{Buffers, lengths}
use Rattle.buffers.proofs.LengthLaws.{same_each}
use Rattle.promises.specs.Session.{Turn, Left, turned, after, run, Allowed}
use Rattle.promises.specs.Demand3.{silent, AlikeTurn, Alike, Silence}

-- ---- a silent block does not depend on the voice
-- with no audio in force, voice holds no places
no_width : (m : Mode) → m.audio ≡ audio_off → (layout_of m).width ≡ 0
unfolding layout_of held_by audio_places audio_listed audio_table beside
no_width m e = ap (λ (v : ℕ). (audio_places v).to) e

block-silent : (s : Sender) (c : Call) (word : ℕ) (b other : Buffers) → b.lsd ≡ other.lsd → silent s c ≡ true
    → block_for s c word b ≡ block_for s c word other
unfolding block_for
block-silent s c word b other same h = go c.mute (sounding s) refl refl h
  where
    go : (mute on : Bool) → c.mute ≡ mute → sounding s ≡ on → (mute || not on) ≡ true → block_for s c word b ≡ block_for s c word other
    go true on e f q = rw e (silent-muted s.mode (header_for s c word) b other same)
    go false true e f q = absurd (false≢true q)
    go false false e f q =
        silent-off s.mode (header_for s c word) c.mute b other (no_width s.mode (eqb-true _ _ (not-false _ f))) same

-- ---- one call: the buffers matter by their lengths and by the block, and by nothing else
abbrev lending : Turn → Buffers → Turn
lending x b = record { call = x.call; lent = b; line = x.line }

turn_same : (s : Sender) (x : Turn) (other : Buffers) → lengths x.lent ≡ lengths other
    → ((word : ℕ) → block_for s x.call word x.lent ≡ block_for s x.call word other)
    → turned s x ≡ turned s (lending x other)
unfolding turned outcome_of line_of
turn_same s x other fit blocks =
    rw fit (ap (left (decided s x.call other x.line)) (λ i word. blocks word i))
  where
    left : Result Decision Refused → (ℕ → List ℕ) → Left
    left d block = record { outcome = record { state = state_by d block; answer = answer_by d }; line = line_by d x.line block }

turn-alike : (s : Sender) (x y : Turn) → AlikeTurn s x y → turned s x ≡ turned s y
turn-alike s x y h =
    turn_same s x y.lent (same_each h.lengths (ap length h.lsd)) (λ word. go word (silent s x.call) refl)
    ∙ ap (turned s) (λ i. record { call = h.call i; lent = y.lent; line = h.line i })
  where
    go : (word : ℕ) (on : Bool) → silent s x.call ≡ on → block_for s x.call word x.lent ≡ block_for s x.call word y.lent
    go word true e = block-silent s x.call word x.lent y.lent h.lsd e
    go word false e = ap (block_for s x.call word) (same_each (h.heard e) h.lsd)

-- ---- whole sessions
run-alike : (s : Sender) (xs ys : List Turn) → Alike s xs ys → run s xs ≡ run s ys
run-alike s [] [] h = refl
run-alike s [] (y ∷ ys) h = absurd h
run-alike s (x ∷ xs) [] h = absurd h
run-alike s (x ∷ xs) (y ∷ ys) h = cc (turn-alike s x y h.0, run-alike (after s x) xs ys h.1)

left_is : (s : Sender) (x : Turn) (l : Left) → Told s x.call x.lent x.line l.outcome l.line → l ≡ turned s x
unfolding turned
left_is s x l h = λ i. record { outcome = h.outcome i; line = h.octets i }

pub turn_told : (s : Sender) (x : Turn) → Told s x.call x.lent x.line (turned s x).outcome (turned s x).line
unfolding turned
turn_told s x = told s x.call x.lent x.line

-- the contract leaves nothing open over a whole session: what it allows is `run`
pub session_is : (s : Sender) (xs : List Turn) (ls : List Left) → Allowed s xs ls → ls ≡ run s xs
session_is s [] [] h = refl
session_is s [] (l ∷ ls) h = absurd h
session_is s (x ∷ xs) [] h = absurd h
session_is s (x ∷ xs) (l ∷ ls) h = joined (left_is s x l h.0) (session_is l.outcome.state xs ls h.1)
  where
    joined : l ≡ turned s x → ls ≡ run l.outcome.state xs → l ∷ ls ≡ run s (x ∷ xs)
    joined e i = cc

-- and it allows every session, as it runs
pub run_allowed : (s : Sender) (xs : List Turn) → Allowed s xs (run s xs)
run_allowed s [] = tt
run_allowed s (x ∷ xs) = (turn_told s x, run_allowed (after s x) xs)

pub silence : Silence
silence s xs ys ls ms p q h = session_is s xs ls p ∙ run-alike s xs ys h ∙ sym (session_is s ys ms q)
