-- Demand 2: octets block after block, and a reader in step stays in step and hands back what was sent.
use mathlib.Core.Path.{◌≡◌, refl, sym, ap, ap₂, subst, ◌∙◌}
use mathlib.Core.Bool.{Bool, true, false, not, cond, false≢true}
use mathlib.Core.List.{List, [], ◌∷◌}
use mathlib.Core.Logic.{◌⊎◌, inl, inr}
use Prim.Native.Nat.{ℕ, zero, suc, ◌+◌, ◌-◌, ◌*◌, ◌%◌, ◌<◌, ◌≤◌}
use native.Mathlib.Omega.{arith}
use lib.Dec.{eqb, leb}
use lib.ListN.{length, take, replicate}
use borrow.Author.Tests.{eqb-true, eq-eqb, ne_eqb, leb-true}
use Rattle.bits.specs.Bits.{bits_of, number, octets}
use Rattle.crc.specs.Crc.{block_crc_of}
use Rattle.bits.proofs.BoolLaws.{and_left, and_right}
use Rattle.bits.proofs.PackLaws.{length-octets}
use Rattle.bas.specs.Reading.{reading_of}
use Rattle.std.specs.Prelude.{Some, Ok}
use Rattle.bas.proofs.ReadingLaws.{two_wrong, three_wrong}
use Rattle.numbers.specs.Numbers.{following}
use Rattle.table.specs.Table.{audio_table, beside, audio_places, audio_listed}
use Rattle.numbers.specs.declared.BlockNumber.{BlockNumber}
use Rattle.modes.specs.declared.Mode.{Mode}
use Rattle.modes.specs.declared.Owner.TheVariants.{Voice, Lsd}
use Rattle.numbers.proofs.NumberLaws.{following-low}
use Rattle.codes.specs.Codes.{neutral}
use Rattle.codes.specs.Carried.{carried, reader_carries}
use Rattle.codes.specs.Commands.{command_of, offered, followed}
use Rattle.slots.specs.Slots.{due_now, due_after_now, due_after, due_of}
use Rattle.words.specs.Readings.{code_reading, reading_in, obeyed}
use Rattle.slots.specs.declared.Due.{Due}
use Rattle.slots.specs.declared.Due.TheVariants.{Plain, AnItem}
use Rattle.words.specs.declared.Reading.{Reading}
use Rattle.frame.specs.Block.{block_of}
use Rattle.service.specs.Channel.{wrong_bits, odd_first, c_bits, bas_word}
use Rattle.frame.specs.declared.Header.{Header}
use Rattle.round.proofs.HeaderLaws.{each8, odd_bit, right_alignment, first_bit_back, remainder-back, code-back}
use Rattle.sender.specs.State.{word_due}
use Rattle.control.specs.Plans.{plan_by}
use Rattle.control.specs.Rules.{rule_of}
use Rattle.control.specs.Refusals.{Answer, goes_plain, goes_as_item}
use Rattle.sending.specs.Step.{header_for, block_for}
use Rattle.sender.specs.declared.Sender.{Sender}
use Rattle.control.specs.declared.Plan.{Plan}
use Rattle.control.specs.declared.Rule.{Rule}
use Rattle.sender.proofs.StateLaws as sending
use Rattle.reader.specs.State.{block, known}
use Rattle.track.specs.Signs.{signs_of}
use Rattle.track.specs.Parts as parts
use Rattle.track.specs.Parts.{multiframe_after}
use Rattle.track.specs.Step.{Stepped, report_of, next_of, step_of}
use Rattle.reading.specs.Step.{Outcome, handed_by, Told}
use Rattle.reader.specs.declared.Reader.{Reader}
use Rattle.track.specs.declared.Signs.{Signs}
use Rattle.track.specs.declared.Multiframe.{Multiframe}
use Rattle.track.specs.declared.Report.{Report}
use Rattle.track.specs.declared.Standing.{Standing}
use Rattle.track.specs.declared.Standing.TheVariants.{Read}
use Rattle.reading.proofs.OutcomeLaws.{takes, told_taken}
use Rattle.slots.proofs.SlotLaws.{due-back}
use Rattle.track.proofs.RangeLaws.{step_in_range}
use Rattle.sorter.specs.Sorting.{sorted_of, streams_of}
use Rattle.places.proofs.CountLaws.{voice_twice, lsd_twice}
use Rattle.round.proofs.RoundLaws.{voice-bits-back, lsd-back}
use Rattle.buffers.specs.Buffers.{Each, Buffers, lengths}
use Rattle.buffers.specs.Lengths.{line_octets, stream_octets}
use Rattle.buffers.proofs.LengthLaws.{same_each}
use Rattle.promises.specs.Session.{Turn, after, Entry, log, block_sent, entry_of}
use Rattle.promises.specs.Demand2.{word_told, word_sent, Answered, LaidDown, commanded, GoesOn, BlockAfterBlock, OctetsLaidDown, KeptAsSent, Placed, InStep, Agrees, reader_after, HandedBack, Back, AllBack, StaysInStep, MendsWords, JoinsAtNeutral}
use Rattle.promises.proofs.TurnLaws.{Stayed, Moved, turn_cases, log-stayed, log_went}
use Rattle.promises.proofs.RuleLaws.{due_cases, due_by_rule, rule_answer, rule_word, rule_chosen}
use Rattle.promises.proofs.WordLaws.{force-apart, Sends, word_small, plan-mode, mode-follows, due-after_same}

-- ---- the eight blocks of a multiframe
pub each : (P : ℕ → Type 0) → P 1 → P 2 → P 3 → P 4 → P 5 → P 6 → P 7 → P 8 → (b : ℕ) → 1 ≤ b → b ≤ 8 → P b
each P p₁ p₂ p₃ p₄ p₅ p₆ p₇ p₈ zero l u = absurd (omega arith)
each P p₁ p₂ p₃ p₄ p₅ p₆ p₇ p₈ (suc k) l u = each8 (λ (n : ℕ). P (suc n)) p₁ p₂ p₃ p₄ p₅ p₆ p₇ p₈ k (omega arith)

-- the first bit of the odd frame of a block, as it is sent
abbrev pub bit_of : ℕ → Bool
bit_of b = odd_bit ((b - 1) % 8)

-- bits kept as sent, and one block more
abbrev OneMore : ℕ → Type 0
OneMore b = (f : ℕ) → KeptAsSent b f → KeptAsSent (following (block b)).0 (parts.six_after f (bit_of b))

bits-go_on : (b : ℕ) → 1 ≤ b → b ≤ 8 → OneMore b
unfolding following number
bits-go_on =
    each OneMore
    (λ f e. let g : (f % 32 * 2 + 0) % 2 ≡ 0 = omega arith in g)
    (λ f e. let h : f % 2 ≡ 0 = e in let g : (f % 32 * 2 + 0) % 4 ≡ 0 = omega arith in g)
    (λ f e. let h : f % 4 ≡ 0 = e in let g : (f % 32 * 2 + 1) % 8 ≡ 1 = omega arith in g)
    (λ f e. let h : f % 8 ≡ 1 = e in let g : (f % 32 * 2 + 0) % 16 ≡ 2 = omega arith in g)
    (λ f e. let h : f % 16 ≡ 2 = e in let g : (f % 32 * 2 + 1) % 32 ≡ 5 = omega arith in g)
    (λ f e. let h : f % 32 ≡ 5 = e in let g : (f % 32 * 2 + 1) % 64 ≡ 11 = omega arith in g)
    (λ f e. let h : f % 64 ≡ 11 = e in let g : (f % 32 * 2 + 0) % 64 ≡ 22 = omega arith in g)
    (λ f e. let g : (f % 32 * 2 + 0) % 1 ≡ 0 = omega arith in g)

-- after block 6 they are 001011
six-spelled : (f : ℕ) → KeptAsSent 6 f → parts.spelled (parts.six_after f (bit_of 6)) ≡ true
unfolding number
six-spelled f e = let h : f % 32 ≡ 5 = e in let g : f % 32 * 2 + 1 ≡ 11 = omega arith in eq-eqb (f % 32 * 2 + 1) 11 g

-- ---- what is due at a sender stands as it is
due-now : (s : Sender) → due_now (word_due s) ≡ word_due s
due-now = due_cases (λ d. due_now d ≡ d) refl refl

reading_same : (d e : Due) (n : ℕ) → due_now d ≡ e → due_now e ≡ e → reading_in d (Some n) ≡ reading_in e (Some n)
unfolding reading_in
reading_same d e n p q = ap (λ (x : Due). code_reading x n) (p ∙ sym q)

after_same : (d e : Due) (n : ℕ) → due_now d ≡ e → due_after d (Some n) ≡ due_after_now e (Some n)
unfolding due_after
after_same d e n p = ap (λ (x : Due). due_after_now x (Some n)) p

-- ---- a place that is known goes on to the next block, and loses nothing that is due
module _ (r : Reader) (b : BlockNumber) (due : Due) (same : r.block ≡ b) (bits : KeptAsSent b.0 r.firsts) where
  abbrev six : ℕ
  six = parts.six_after r.firsts (bit_of b.0)

  abbrev Onward : Multiframe → Type 0
  Onward p = (p.block ≡ following b) × (p.due ≡ due)

  onward_by : (t : Bool) → eqb r.block.0 6 ≡ t
      → Onward (cond t (parts.compared r.misses (parts.spelled six) due) (record { block = following r.block; misses = r.misses; due = due }))
  unfolding following
  onward_by true t =
      let n : b.0 ≡ 6 = ap (λ (q : BlockNumber). q.0) (sym same) ∙ eqb-true r.block.0 6 t in
      let right : parts.spelled six ≡ true =
      subst (λ (k : ℕ). KeptAsSent k r.firsts → parts.spelled (parts.six_after r.firsts (bit_of k)) ≡ true) (sym n) (six-spelled r.firsts) bits in
      let seven : block 7 ≡ following b = sym (ap (λ (k : ℕ). following (block k)) n) in
      rw right (seven, refl)
  onward_by false t = (ap following same, refl)

  onward : known r ≡ true → Onward (multiframe_after r (parts.spelled six) due)
  unfolding multiframe_after
  onward k = rw k (onward_by (eqb r.block.0 6) refl)

-- ---- a line that shows a reader this block and this word: no alignment bit is wrong, the first bit is the block's and the word reads as the
-- code. Its C bits, its remainder and all else may be anything
pub record Shows (b : BlockNumber) (code : ℕ) (line : List ℕ) : Type 0 where
  pub wrong : wrong_bits line ≡ 0
  pub first : odd_first line ≡ bit_of b.0
  pub word : reading_of (bas_word line) ≡ Some code

abbrev pub shown : BlockNumber → ℕ → List ℕ → Signs
shown b code line = record { wrong = 0; c = c_bits line; first = bit_of b.0; word = Some code; remainder = block_crc_of line }

pub stepped : (b : BlockNumber) (code : ℕ) (line : List ℕ) → Shows b code line
    → (r : Reader) → step_of r (signs_of line) ≡ record { state = next_of r (shown b code line) 0; report = report_of r (shown b code line) }
unfolding step_of
stepped b code line h r = ap (step_of r) signs
  where
    signs : signs_of line ≡ shown b code line
    signs = rw (h.wrong, h.first, h.word)

-- ---- an accepted call
module _ (s : Sender) (x : Turn) (rule : Rule) (w : Moved s x rule) where
  abbrev pub entry : Entry
  entry = entry_of s x

  abbrev pub plan : Plan
  plan = plan_by rule s x.call.code

  abbrev header : Header
  header = header_for s x.call plan.word

  pub sends : Sends s x.call.code rule
  sends = record { kept = sending.kept s w.goes.range; known = λ g. w.goes.known (plain g); apart = λ g. w.goes.apart (plain g) }
    where
      plain : goes_plain rule ≡ true → goes_plain (rule_of s x.call.mute) ≡ true
      plain g = rw w.rule_is at g

  item_is : word_due s ≡ cond (goes_as_item rule) AnItem Plain
  item_is = due_by_rule s x.call.mute ∙ ap (λ (q : Rule). cond (goes_as_item q) AnItem Plain) (sym w.rule_is)

  word_is : word_sent entry ≡ plan.word
  word_is =
      ap (λ (a : Answer). word_told a x.call.mute s x.call.code) w.answer
      ∙ ap (λ (q : Rule). word_told (Ok (plan_by q s x.call.code).went) x.call.mute s x.call.code) w.rule_is
      ∙ rule_word s x.call
      ∙ ap (λ (q : Rule). (plan_by q s x.call.code).word) (sym w.rule_is)

  pub answered : Answered entry
  answered =
      w.answer ∙ ap (λ (q : Rule). Ok (plan_by q s x.call.code).went) w.rule_is ∙ ap Ok (rule_answer s x.call)

  pub line_is : block_sent entry ≡ block_of s.mode header x.call.mute x.lent
  unfolding block_for
  line_is = w.line

  -- the word due after the call is the one that the slots' rule gives
  due_on : due_after_now (word_due s) (Some plan.word) ≡ word_due (after s x)
  due_on =
      ap (λ (d : Due). due_after_now d (Some plan.word)) item_is
      ∙ due-after_same s x.call.code rule sends
      ∙ ap (λ (q : Sender). cond (not (eqb q.due 0)) AnItem Plain) (sym w.state)

  -- ---- the octets, and what the call leaves to the next
  laid-down : LaidDown entry
  laid-down =
      line_is
      ∙ ap (λ (n : ℕ). block_of s.mode (header_for s x.call n) x.call.mute x.lent) (sym word_is)

  pub goes_on : GoesOn entry (after s x)
  unfolding due_after
  goes_on =
      record {
        number = ap (λ (q : Sender). q.block) w.state;
        remainder = ap (λ (q : Sender). q.remainder) w.state;
        mode =
            ap (λ (q : Sender). q.mode) w.state ∙ plan-mode s x.call.code rule sends
            ∙ ap₂ (λ (d : Due) (n : ℕ). commanded d n s.mode) (sym item_is) (sym word_is);
        chosen =
            ap (λ (q : Sender). q.chosen) w.state
            ∙ ap (λ (q : Rule). (plan_by q s x.call.code).chosen) w.rule_is ∙ rule_chosen s x.call;
        due =
            sym
            (ap₂ (λ (d : Due) (n : ℕ). due_after_now d (Some n)) (due-now s) word_is ∙ due_on);
      }

  -- ---- what the block shows a reader
  pub shows : x.call.code < 256 → Shows s.block plan.word (block_sent entry)
  shows small =
      let m = s.mode in
      record {
        wrong = ap wrong_bits line_is ∙ right_alignment m header x.call.mute x.lent;
        first = ap odd_first line_is ∙ first_bit_back m header x.call.mute x.lent;
        word =
            ap (λ (l : List ℕ). reading_of (bas_word l)) line_is
            ∙ code-back m header x.call.mute x.lent (word_small s x.call.code rule sends small);
      }

  c-sent : c_bits (block_sent entry) ≡ s.remainder
  c-sent =
      let low = leb-true s.remainder 15 sends.kept.rest in
      ap c_bits line_is ∙ remainder-back s.mode header x.call.mute x.lent (omega arith)

  pub line-length : length (block_sent entry) ≡ line_octets
  unfolding block_of
  line-length = ap length line_is ∙ length-octets line_octets _

  -- ---- a reader that stands where the sender does, and any line that shows it the block
  module _ (line : List ℕ) (h : Shows s.block plan.word line) (r : Reader) (st : Placed s r) where
    abbrev onward-reader : Reader
    onward-reader = (step_of r (signs_of line)).state

    abbrev seen : Signs
    seen = shown s.block plan.word line

    reading_is : parts.word_read r (Some plan.word) ≡ reading_in (word_due s) (Some plan.word)
    reading_is = rw st.knows (reading_same (due_of r.slot) (word_due s) plan.word st.due (due-now s))

    -- the word due after the block is the sender's
    due_is : parts.due_read r (Some plan.word) ≡ word_due (after s x)
    due_is =
        rw st.knows
        (after_same (due_of r.slot) (word_due s) plan.word st.due ∙ due_on)

    next : onward-reader ≡ next_of r seen 0
    next = ap (λ (q : Stepped). q.state) (stepped s.block plan.word line h r)

    number_on : (after s x).block ≡ following s.block
    number_on = ap (λ (q : Sender). q.block) w.state

    -- the place goes on
    placed_again : Placed (after s x) onward-reader
    unfolding next_of
    placed_again =
        let here = onward r s.block _ st.place st.bits st.knows in
        let n = (following s.block).0 in
        let one = leb-true 1 n (and_left (leb 1 n) (leb n 8) (following-low s.block)) in
        let b = s.block.0 in
        let within = sends.kept.block in
        let lo = leb-true 1 b (and_left (leb 1 b) (leb b 8) within) in
        let hi = leb-true b 8 (and_right (leb 1 b) (leb b 8) within) in
        let place = ap (λ (q : Reader). q.block) next ∙ here.0 in
        record {
          range = step_in_range r line st.range;
          knows = ap (λ (q : BlockNumber). not (eqb q.0 0)) place ∙ ap not (ne_eqb n 0 (omega arith));
          place = place ∙ sym number_on;
          due =
              ap (λ (q : Reader). due_now (due_of q.slot)) next ∙ ap due_now (due-back _ ∙ here.1 ∙ due_is) ∙ due-now (after s x);
          bits =
              subst (λ (q : Reader). KeptAsSent (after s x).block.0 q.firsts) (sym next)
              (subst (λ (q : BlockNumber). KeptAsSent q.0 (parts.six_after r.firsts (bit_of b))) (sym number_on) (bits-go_on b lo hi r.firsts st.bits));
        }

    -- the reader's mode is what the word made of it
    mode-read : onward-reader.mode ≡ obeyed (reading_in (word_due s) (Some plan.word)) r.mode
    unfolding next_of
    mode-read = ap (λ (q : Reader). q.mode) next ∙ ap (λ (q : Reading). obeyed q r.mode) reading_is

    mode_again : r.mode ≡ s.mode → onward-reader.mode ≡ (after s x).mode
    mode_again same =
        mode-read
        ∙ ap₂ (λ (d : Due) (m : Mode). obeyed (reading_in d (Some plan.word)) m) item_is same
        ∙ mode-follows s x.call.code rule sends ∙ sym (ap (λ (q : Sender). q.mode) w.state)

    -- neutral makes any two modes the same
    neutral_again : word_due s ≡ Plain → plan.word ≡ neutral → onward-reader.mode ≡ (after s x).mode
    unfolding obeyed followed offered reading_in command_of reader_carries carried audio_places audio_listed audio_table beside
    neutral_again none is =
        mode-read
        ∙ ap₂ (λ (d : Due) (n : ℕ). obeyed (reading_in d (Some n)) r.mode) none is
        ∙ sym (goes_on.mode
        ∙ ap₂ (λ (d : Due) (n : ℕ). commanded d n s.mode) none (word_is ∙ is))

  -- ---- and the line as it was sent
  module _ (small : x.call.code < 256) (r : Reader) (st : Placed s r) where
    abbrev sent : Shows s.block plan.word (block_sent entry)
    sent = shows small

    agrees_again : Agrees (after s x) (reader_after r entry)
    unfolding next_of
    agrees_again =
        record {
          before = λ none. let one : ◌≡◌ {A = ℕ} 1 0 = sym (ap (λ (q : Reader). q.before) (next (block_sent entry) sent r st)) ∙ none in absurd (omega arith);
          remainder = ap (λ (q : Reader). q.remainder) (next (block_sent entry) sent r st) ∙ sym (ap (λ (q : Sender). q.remainder) w.state);
        }

    -- what it hands out is what was sent
    hands-back : r.mode ≡ s.mode → (b : Buffers) (o : Outcome) (out : Buffers) → lengths b ≡ stream_octets
        → Told r (block_sent entry) b o out → HandedBack entry r o out
    unfolding report_of streams_of
    hands-back same b o out fit told =
        let fits = takes r _ _ (record { range = st.range; line-fits = line-length; streams = fit }) in
        let t = told_taken r (block_sent entry) b o out fits told in
        let is = ap (λ (q : Stepped). q.report) (stepped s.block plan.word (block_sent entry) sent r) in
        let read : parts.standing_of r ≡ Read = rw st.knows in
        let standing = ap (λ (q : Report). q.standing) is ∙ read in
        let handed = t.1 ∙ ap₂ (λ (q : Standing) (m : Mode). handed_by q m (block_sent entry)) standing same in
        let apart = force-apart s sends.kept s.mode.lsd sends.kept.ranges.apart in
        record {
          report = report_of r (shown s.block plan.word (block_sent entry));
          answer = ap (λ (q : Outcome). q.answer) t.0 ∙ ap Ok is;
          read = read;
          word = reading_is (block_sent entry) sent r st ∙ ap (λ (k : ℕ). reading_in (word_due s) (Some k)) (sym word_is);
          first = λ z. rw (eq-eqb r.before 0 z);
          good = λ a. rw (ne_eqb r.before 0 a.before, c-sent, eq-eqb s.remainder r.remainder (sym a.remainder));
          streams =
              same_each
              (ap (λ (z : Buffers). z.voice) handed
              ∙ ap (sorted_of s.mode Voice stream_octets.voice) line_is
              ∙ voice-bits-back s.mode header x.call.mute x.lent (ap (λ (n : Each ℕ). n.voice) w.goes.streams)
              ∙ ap (λ (n : ℕ). octets stream_octets.voice (cond x.call.mute (replicate n true) (take n (bits_of x.lent.voice)))) (voice_twice s.mode))
              (ap (λ (z : Buffers). z.lsd) handed
              ∙ ap (sorted_of s.mode Lsd stream_octets.lsd) line_is
              ∙ lsd-back s.mode header x.call.mute x.lent (ap (λ (n : Each ℕ). n.lsd) w.goes.streams)
              ∙ ap (λ (n : ℕ). octets stream_octets.lsd (take n (bits_of x.lent.lsd))) (lsd_twice s.mode apart));
          state = ap (λ (q : Outcome). q.state) t.0;
        }

  back : x.call.code < 256 → (r : Reader) → InStep s r → Back entry r
  back small r st =
      record {
        hands = hands-back small r st.placed st.mode;
        step =
            record {
              placed = placed_again (block_sent entry) (shows small) r st.placed;
              mode = mode_again (block_sent entry) (shows small) r st.placed st.mode;
            };
        agrees = agrees_again small r st.placed;
      }

-- ---- whole sessions
pub octets-laid-down : OctetsLaidDown
octets-laid-down s [] = tt
octets-laid-down s (x ∷ xs) = go (turn_cases s x) (octets-laid-down s xs) (octets-laid-down (after s x) xs)
  where
    go : Stayed s x ⊎ ((rule : Rule) × Moved s x rule) → BlockAfterBlock s (log s xs) → BlockAfterBlock (after s x) (log (after s x) xs)
        → BlockAfterBlock s (log s (x ∷ xs))
    go (inl k) same next = rw (log-stayed s x xs k) same
    go (inr (rule, w)) same next = rw (log_went s x xs rule w) (refl, answered s x rule w, laid-down s x rule w, goes_on s x rule w, next)

pub stays_in_step : StaysInStep
stays_in_step s r [] bits st = tt
stays_in_step s r (x ∷ xs) bits st = go (turn_cases s x) (stays_in_step s r xs bits.1 st) (λ q u. stays_in_step (after s x) q xs bits.1 u)
  where
    go : Stayed s x ⊎ ((rule : Rule) × Moved s x rule)
        → AllBack r (log s xs)
        → ((q : Reader) → InStep (after s x) q → AllBack q (log (after s x) xs))
        → AllBack r (log s (x ∷ xs))
    go (inl k) same next = rw (log-stayed s x xs k) same
    go (inr (rule, w)) same next =
        let b = back s x rule w bits.0 r st in
        rw (log_went s x xs rule w) (b, next (reader_after r (entry_of s x)) b.step)

pub mends_words : MendsWords
mends_words code wrong small = record { few = two_wrong code wrong small; many = three_wrong code wrong }

-- ---- coming into step
pub joins_at_neutral : JoinsAtNeutral
joins_at_neutral s r x small taken st none is = go (turn_cases s x)
  where
    go : Stayed s x ⊎ ((rule : Rule) × Moved s x rule) → InStep (after s x) (reader_after r (entry_of s x))
    go (inl k) = absurd (false≢true (rw k.answer at taken))
    go (inr (rule, w)) =
        record {
          placed = placed_again s x rule w (block_sent (entry_of s x)) (shows s x rule w small) r st;
          mode = neutral_again s x rule w (block_sent (entry_of s x)) (shows s x rule w small) r st none (sym (word_is s x rule w) ∙ is);
        }
