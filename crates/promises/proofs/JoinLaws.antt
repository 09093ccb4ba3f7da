-- Demand 2: a reader that begins to read at any block comes into step by itself.
use mathlib.Core.Path.{◌≡◌, refl, sym, ap, subst, ◌∙◌}
use mathlib.Core.Bool.{Bool, true, false, not, ◌&&◌, false≢true}
use mathlib.Core.List.{List, [], ◌∷◌}
use mathlib.Core.Logic.{◌⊎◌, inl, inr}
use Prim.Native.Nat.{ℕ, zero, suc, ◌<◌, ◌≤◌}
use native.Mathlib.Omega.{arith}
use lib.Dec.{eqb, leb}
use lib.ListN.{length}
use borrow.Author.Tests.{eqb-true, leb-true, not-true}
use Rattle.bits.specs.Bits.{number}
use Rattle.bits.proofs.BoolLaws.{and_left, and_right}
use Rattle.numbers.specs.Numbers.{following}
use Rattle.numbers.specs.declared.BlockNumber.{BlockNumber}
use Rattle.slots.specs.Slots.{due_now, slot_of, due_of}
use Rattle.words.specs.Readings.{obeyed}
use Rattle.slots.specs.declared.Due.TheVariants.{Plain}
use Rattle.sender.specs.State.{word_due}
use Rattle.sender.specs.declared.Sender.{Sender}
use Rattle.control.specs.declared.Rule.{Rule}
use Rattle.sender.proofs.StateLaws.{kept}
use Rattle.reader.specs.State.{block, unknown, known, state_in_range}
use Rattle.track.specs.Parts as parts
use Rattle.track.specs.Parts.{multiframe_after}
use Rattle.track.specs.Step.{Stepped, next_of}
use Rattle.reader.specs.declared.Reader.{Reader}
use Rattle.slots.specs.declared.Slot.{Slot}
use Rattle.reader.proofs.StateLaws.{fresh_in_range}
use Rattle.track.proofs.RangeLaws.{step_in_range}
use Rattle.promises.specs.Session.{Turn, after, Entry, log, block_sent, entry_of}
use Rattle.promises.specs.Demand2.{KeptAsSent, Placed, reader_after, EightBits, FreshWaits, until_six, sender_on, reader_on, FindsPlace, ComesIntoStep}
use Rattle.promises.proofs.TurnLaws.{Stayed, Moved, turn_cases, log-stayed, log_went}
use Rattle.promises.proofs.InStepLaws.{each, bit_of, shown, stepped, plan, shows}

pub fresh_waits : FreshWaits
fresh_waits = record { range = fresh_in_range; place = refl; due = refl; bits = refl }

-- a reader that waits, with these first bits
record Seeks (r : Reader) (f : ℕ) : Type 0 where
  range : state_in_range r ≡ true
  place : r.block ≡ unknown
  due : r.slot ≡ slot_of Plain
  bits : r.firsts ≡ f

-- the first bits after a block
abbrev on : ℕ → ℕ → ℕ
on b f = parts.six_after f (bit_of b)

-- the pattern comes with the nth block from block b on, which is block 6, and not before
abbrev found_at : ℕ → ℕ → ℕ → Bool
found_at zero b f = false
found_at (suc zero) b f = eqb b 6 && parts.spelled (on b f)
found_at (suc (suc n)) b f = not (parts.spelled (on b f)) && found_at (suc n) (following (block b)).0 (on b f)

-- from no bits, which a reader holds as ones, and any block of the eight: antt computes it
found_in_time : (b : ℕ) → 1 ≤ b → b ≤ 8 → found_at (until_six b) b 0b111111 ≡ true
unfolding following
found_in_time = each (λ (b : ℕ). found_at (until_six b) b 0b111111 ≡ true) refl refl refl refl refl refl refl refl

-- ---- one block heard while waiting
module _ (s : Sender) (x : Turn) (rule : Rule) (w : Moved s x rule) (small : x.call.code < 256) (r : Reader) (f : ℕ) (k : Seeks r f) where
  abbrev heard : Entry
  heard = entry_of s x

  next : reader_after r heard ≡ next_of r (shown s.block (plan s x rule w).word (block_sent heard)) 0
  next = ap (λ (q : Stepped). q.state) (stepped s.block (plan s x rule w).word (block_sent heard) (shows s x rule w small) r)

  not_known : known r ≡ false
  not_known = ap (λ (q : BlockNumber). not (eqb q.0 0)) k.place

  firsts_on : (reader_after r heard).firsts ≡ on s.block.0 f
  unfolding next_of
  firsts_on = ap (λ (q : Reader). q.firsts) next ∙ ap (λ (n : ℕ). on s.block.0 n) k.bits

  mode_on : (reader_after r heard).mode ≡ r.mode
  unfolding next_of obeyed
  mode_on = ap (λ (q : Reader). q.mode) next ∙ rw not_known

  block_on : (reader_after r heard).block ≡ parts.sought (parts.spelled (on s.block.0 f))
  unfolding next_of multiframe_after
  block_on = ap (λ (q : Reader). q.block) next ∙ rw (not_known, k.bits)

  slot_on : (reader_after r heard).slot ≡ slot_of Plain
  unfolding next_of multiframe_after
  slot_on = ap (λ (q : Reader). q.slot) next ∙ rw (not_known, k.due)

  seeks_on : parts.spelled (on s.block.0 f) ≡ false → Seeks (reader_after r heard) (on s.block.0 f)
  seeks_on e =
      record { range = step_in_range r (block_sent heard) k.range; place = block_on ∙ rw e; due = slot_on; bits = firsts_on }

  finds : s.block.0 ≡ 6 → parts.spelled (on s.block.0 f) ≡ true → word_due (after s x) ≡ Plain → Placed (after s x) (reader_after r heard)
  unfolding following number
  finds six e none =
      let seventh : (reader_after r heard).block ≡ block 7 = block_on ∙ rw e in
      let number_on : (after s x).block ≡ block 7 = ap (λ (q : Sender). q.block) w.state ∙ ap (λ (n : ℕ). following (block n)) six in
      let eleven : (reader_after r heard).firsts ≡ 11 = firsts_on ∙ eqb-true (on s.block.0 f) 11 e in
      record {
        range = step_in_range r (block_sent heard) k.range;
        knows = ap (λ (q : BlockNumber). not (eqb q.0 0)) seventh;
        place = seventh ∙ sym number_on;
        due = ap (λ (q : Slot). due_now (due_of q)) slot_on ∙ sym none;
        bits =
            subst (λ (q : BlockNumber). KeptAsSent q.0 (reader_after r heard).firsts) (sym number_on)
            (subst (λ (n : ℕ). KeptAsSent 7 n) (sym eleven) refl);
      }

-- ---- over a session
abbrev Joins : ℕ → Sender → Reader → List Entry → Type 0
Joins n s r es =
    n ≤ length es → word_due (sender_on n s es) ≡ Plain → Placed (sender_on n s es) (reader_on n r es) × ((reader_on n r es).mode ≡ r.mode)

module _ (s : Sender) (x : Turn) (rule : Rule) (w : Moved s x rule) (small : x.call.code < 256) (r : Reader) (f : ℕ) (k : Seeks r f)
    (es : List Entry) where
  abbrev one : Entry
  one = entry_of s x

  -- the block was the last one wanted
  last_block : found_at 1 s.block.0 f ≡ true → Joins 1 s r (one ∷ es)
  last_block e many none =
      let six = eqb-true s.block.0 6 (and_left (eqb s.block.0 6) (parts.spelled (on s.block.0 f)) e) in
      let right = and_right (eqb s.block.0 6) (parts.spelled (on s.block.0 f)) e in
      (finds s x rule w small r f k six right none, mode_on s x rule w small r f k)

  -- or more are to come
  more_blocks : (n : ℕ) → found_at (suc (suc n)) s.block.0 f ≡ true
      → (Seeks (reader_after r one) (on s.block.0 f) → found_at (suc n) (after s x).block.0 (on s.block.0 f) ≡ true → Joins (suc n) (after s x) (reader_after r one) es)
      → Joins (suc (suc n)) s r (one ∷ es)
  more_blocks n e later many none =
      let spelled = parts.spelled (on s.block.0 f) in
      let rest = found_at (suc n) (following s.block).0 (on s.block.0 f) in
      let wrong = not-true spelled (and_left (not spelled) rest e) in
      let number_on = ap (λ (q : Sender). q.block) w.state in
      let found = later (seeks_on s x rule w small r f k wrong)
      (ap (λ (q : BlockNumber). found_at (suc n) q.0 (on s.block.0 f)) number_on ∙ and_right (not spelled) rest e)
      (omega arith) none in
      (found.0, found.1 ∙ mode_on s x rule w small r f k)

  -- by how many are wanted
  one_more : (n : ℕ) → found_at n s.block.0 f ≡ true
      → ((m : ℕ) → Seeks (reader_after r one) (on s.block.0 f) → found_at m (after s x).block.0 (on s.block.0 f) ≡ true → Joins m (after s x) (reader_after r one) es)
      → Joins n s r (one ∷ es)
  one_more zero e later = absurd (false≢true e)
  one_more (suc zero) e later = last_block e
  one_more (suc (suc n)) e later = more_blocks n e (later (suc n))

joins : (xs : List Turn) (n : ℕ) (s : Sender) (r : Reader) (f : ℕ) → EightBits xs → Seeks r f → found_at n s.block.0 f ≡ true → Joins n s r (log s xs)
joins [] zero s r f bits k e = absurd (false≢true e)
joins [] (suc n) s r f bits k e = λ many. absurd (omega arith)
joins (x ∷ xs) n s r f bits k e =
    go (turn_cases s x) (joins xs n s r f bits.1 k e) (λ m q g kq eq. joins xs m (after s x) q g bits.1 kq eq)
  where
    go : Stayed s x ⊎ ((rule : Rule) × Moved s x rule) → Joins n s r (log s xs)
        → ((m : ℕ) (q : Reader) (g : ℕ) → Seeks q g → found_at m (after s x).block.0 g ≡ true → Joins m (after s x) q (log (after s x) xs))
        → Joins n s r (log s (x ∷ xs))
    go (inl stayed) same later = subst (Joins n s r) (sym (log-stayed s x xs stayed)) same
    go (inr (rule, w)) same later =
        subst (Joins n s r) (sym (log_went s x xs rule w))
        (one_more s x rule w bits.0 r f k (log (after s x) xs) n e (λ m kq eq. later m _ _ kq eq))

pub finds-place : FindsPlace
finds-place s r xs range bits wait =
    let b = s.block.0 in
    let within = (kept s range).block in
    let lo = leb-true 1 b (and_left (leb 1 b) (leb b 8) within) in
    let hi = leb-true b 8 (and_right (leb 1 b) (leb b 8) within) in
    let k : Seeks r 63 = record { range = wait.range; place = wait.place; due = wait.due; bits = wait.bits } in
    joins xs (until_six b) s r 63 bits k (found_in_time b lo hi)

pub comes_into_step : ComesIntoStep
comes_into_step s r xs range bits wait many none same =
    let found = finds-place s r xs range bits wait many none in
    record { placed = found.0; mode = found.1 ∙ sym same }
