-- Demand 2 of recordings: what was sent is found by a search and walked over block by block.
use mathlib.Core.Path.{◌≡◌, refl, sym, ap, ap₂, subst, ◌∙◌}
use mathlib.Core.Bool.{Bool, true, false, cond, ◌&&◌, xor, false≢true}
use mathlib.Core.List.{List, [], ◌∷◌, ◌++◌, append_assoc}
use mathlib.Core.Logic.{◌⊎◌, inl, inr}
use Prim.Native.Nat.{ℕ, zero, suc, ◌+◌, ◌-◌, ◌≤◌}
use native.Mathlib.Omega.{arith}
use lib.Dec.{leb}
use lib.ListN.{length, get_or, take, drop, length-append, length-drop, get_or-append}
use lib.Seq.{take_at, drop_at, drop-drop, get_or-append-add, drop-append_seam}
use borrow.Author.Tests.{eq-eqb, le-leb, le-ltb, leb-true}
use Rattle.std.specs.Prelude.{Ok}
use Rattle.track.specs.declared.Report.{Report}
use Rattle.bits.specs.Bits.{sc_bit, number, xors}
use Rattle.bits.proofs.BoolLaws.{and_left, and_right}
use Rattle.bas.specs.Reading.{weight}
use Rattle.service.specs.Service.{even_alignment}
use Rattle.service.specs.Channel.{channel_bits, alignment_bits, wrong_bits}
use Rattle.search.specs.Finding.{spells, aligned, bad_length, search_of}
use Rattle.search.proofs.PlaceLaws.{spelled-bits, first_step, found-fits, found-smallest, none_fits}
use Rattle.round.proofs.HeaderLaws.{alignment_back}
use Rattle.sender.specs.declared.Sender.{Sender}
use Rattle.control.specs.declared.Rule.{Rule}
use Rattle.reader.specs.State.{known, state_in_range}
use Rattle.track.specs.Signs.{signs_of}
use Rattle.reading.specs.Step as reading
use Rattle.track.specs.Step as tracking
use Rattle.track.specs.Step.{report_of, step_of}
use Rattle.reader.specs.declared.Reader.{Reader}
use Rattle.track.specs.declared.Standing.TheVariants.{Waiting, Read}
use Rattle.track.specs.declared.Verdict.TheVariants.{None}
use Rattle.words.specs.declared.Reading.TheVariants.{NotRead}
use Rattle.reading.proofs.OutcomeLaws.{takes, told_handed}
use Rattle.track.proofs.RangeLaws.{step_in_range}
use Rattle.recording.specs.Walk.{left_from, block_at, is_lost, buffers_by, stepped_by, answer_at, step_at, look_at, buffers_at}
use Rattle.recording.specs.Refusals.{Answer}
use Rattle.recording.specs.declared.Met.TheVariants.{Block}
use Rattle.recording.specs.Walk.{Stepped}
use Rattle.recording.proofs.StepLaws.{look-step, rules_go}
use Rattle.buffers.specs.Buffers.{Buffers, lengths}
use Rattle.buffers.specs.Lengths.{line_octets, stream_octets, zeroed}
use Rattle.promises.specs.Session.{Turn, after, Entry, log, block_sent}
use Rattle.promises.specs.Demand2.{reader_after, reader_on, AllBack, InStep, until_six, sender_on}
use Rattle.promises.specs.Recordings.{Aligned, SearchFinds, octets_sent, FindsAlignment, Steps, AsRead, AllAsRead, WalksAsRead, AllStepsBack, WalkStaysInStep, walkedOn, WalkComesIntoStep}
use Rattle.promises.proofs.TurnLaws.{Stayed, Moved, turn_cases, log-stayed, log_went}
use Rattle.promises.proofs.InStepLaws.{line_is, line-length, stays_in_step}
use Rattle.promises.proofs.JoinLaws.{comes_into_step}

-- ---- the definition's test and 01's words are the same
spelled : (at : ℕ) (part : List ℕ) → channel_bits 7 at part ≡ even_alignment → spells at part ≡ true
unfolding spells
spelled at part e = eq-eqb _ _ (ap number e)

aligned_is : (part : List ℕ) → Aligned part → aligned part ≡ true
unfolding aligned channel_bits
aligned_is part a = rw (spelled 1 part a.first, a.one, spelled 161 part a.second, le-leb 168 (length part) a.inside)

is_aligned : (part : List ℕ) → aligned part ≡ true → Aligned part
unfolding aligned channel_bits
is_aligned part e =
    let a = spells 1 part in
    let b = sc_bit (get_or part 81 0) in
    let c = spells 161 part in
    let abc = and_left (a && b && c) (leb 168 (length part)) e in
    let ab = and_left (a && b) c abc in
    record {
      first = spelled-bits 1 part (and_left a b ab);
      one = and_right a b ab;
      second = spelled-bits 161 part (and_right (a && b) c abc);
      inside = leb-true 168 (length part) (and_right (a && b && c) (leb 168 (length part)) e);
    }

pub search-finds : SearchFinds
search-finds recording start =
    record {
      begins = λ p e. (found-fits recording start p e).1;
      fits = λ p e. is_aligned (drop p recording) (found-fits recording start p e).0;
      smallest = λ p q e h k a. let no = found-smallest recording start p e q h k in false≢true (sym no ∙ aligned_is (drop q recording) a);
      none = λ q e h a. let no = none_fits recording start e q h in false≢true (sym no ∙ aligned_is (drop q recording) a);
    }

-- ---- a block that was sent
record Framed (b : List ℕ) : Type 0 where
  length : length b ≡ line_octets
  word : alignment_bits b ≡ even_alignment ++ (true ∷ [])

abbrev AllFramed : List Entry → Type 0
AllFramed [] = Unit {0}
AllFramed (e ∷ es) = Framed (block_sent e) × AllFramed es

log-framed : (s : Sender) (xs : List Turn) → AllFramed (log s xs)
log-framed s [] = tt
log-framed s (x ∷ xs) = go (turn_cases s x) (log-framed s xs) (log-framed (after s x) xs)
  where
    go : Stayed s x ⊎ ((rule : Rule) × Moved s x rule) → AllFramed (log s xs) → AllFramed (log (after s x) xs) → AllFramed (log s (x ∷ xs))
    go (inl k) same next = rw (log-stayed s x xs k) same
    go (inr (rule, w)) same next =
        let word = ap alignment_bits (line_is s x rule w) ∙ alignment_back s.mode _ x.call.mute x.lent in
        rw (log_went s x xs rule w) (record { length = line-length s x rule w; word = word }, next)

-- ---- the channel of octets that stand in a row
channel_in : (n at : ℕ) (b z : List ℕ) → at + n ≤ length b → channel_bits n at (b ++ z) ≡ channel_bits n at b
unfolding channel_bits
channel_in zero at b z h = refl
channel_in (suc n) at b z h =
    ap₂ (λ (x : ℕ) (l : List Bool). sc_bit x ∷ l) (get_or-append b z 0 at (omega arith)) (channel_in n (at + 1) b z (omega arith))

channel_past : (n at : ℕ) (b z : List ℕ) → channel_bits n (length b + at) (b ++ z) ≡ channel_bits n at z
unfolding channel_bits
channel_past zero at b z = refl
channel_past (suc n) at b z =
    let e : length b + at + 1 ≡ length b + (at + 1) = omega arith in
    ap₂ (λ (x : ℕ) (l : List Bool). sc_bit x ∷ l) (get_or-append-add b z at 0)
    (ap (λ (k : ℕ). channel_bits n k (b ++ z)) e ∙ channel_past n (at + 1) b z)

-- ---- alignment stands at the first of two blocks in a row, whatever follows
word_first : (b : List ℕ) → Framed b → channel_bits 7 1 b ≡ even_alignment
unfolding alignment_bits channel_bits
word_first b f = ap (take 7) f.word

word_one : (b : List ℕ) → Framed b → sc_bit (get_or b 81 0) ≡ true
unfolding alignment_bits channel_bits
word_one b f = ap (λ (l : List Bool). get_or l 7 false) f.word

two_aligned : (b c z : List ℕ) → Framed b → Framed c → aligned (b ++ c ++ z) ≡ true
unfolding aligned
two_aligned b c z f g =
    let here : channel_bits 7 1 (b ++ c ++ z) ≡ even_alignment =
    ap (λ (l : List ℕ). channel_bits 7 1 l) (append_assoc b c z) ∙ channel_in 7 1 b (c ++ z) (omega (arith, f.length)) ∙ word_first b f in
    let next : channel_bits 7 161 (b ++ c ++ z) ≡ even_alignment =
    ap₂ (λ (k : ℕ) (l : List ℕ). channel_bits 7 (k + 1) l) (sym f.length) (append_assoc b c z)
    ∙ channel_past 7 1 b (c ++ z) ∙ channel_in 7 1 c z (omega (arith, g.length)) ∙ word_first c g in
    let one : sc_bit (get_or (b ++ c ++ z) 81 0) ≡ true =
    ap (λ (l : List ℕ). sc_bit (get_or l 81 0)) (append_assoc b c z)
    ∙ ap sc_bit (get_or-append b (c ++ z) 0 81 (omega (arith, f.length))) ∙ word_one b f in
    let long : 168 ≤ length (b ++ c ++ z) = omega (arith, length-append (b ++ c) z, length-append b c, f.length, g.length) in
    rw (spelled 1 (b ++ c ++ z) here, one, spelled 161 (b ++ c ++ z) next, le-leb 168 (length (b ++ c ++ z)) long)

-- ---- a search finds it
found_at : (recording : List ℕ) (at : ℕ) → aligned (drop at recording) ≡ true → length recording ≤ 65536 → search_of recording at ≡ Ok at
unfolding search_of bad_length
found_at recording at a small =
    let inside : 168 ≤ length recording - at = omega (arith, (is_aligned (drop at recording) a).inside, length-drop at recording) in
    rw (le-ltb 65536 (length recording) small, le-ltb (length recording - at) 168 inside) (first_step at recording (omega arith) ∙ rw a)

-- from its place on, a recorded session is what was sent and what follows
from_place : (before more : List ℕ) (es : List Entry) → drop (length before) (before ++ octets_sent es ++ more) ≡ octets_sent es ++ more
from_place before more es = ap (drop (length before)) (append_assoc before (octets_sent es) more) ∙ drop-append_seam before (octets_sent es ++ more)

pub finds_alignment : FindsAlignment
finds_alignment s xs before more = go (log s xs) (log-framed s xs)
  where
    go : (es : List Entry) → AllFramed es → 2 ≤ length es → length (before ++ octets_sent es ++ more) ≤ 65536
        → search_of (before ++ octets_sent es ++ more) (length before) ≡ Ok (length before)
    go [] f two small = absurd (omega arith)
    go (e ∷ []) f two small = absurd (omega arith)
    go (e ∷ g ∷ es) f two small =
        let part = from_place before more (e ∷ g ∷ es)
        ∙ ap (λ (l : List ℕ). l ++ more) (sym (append_assoc (block_sent e) (block_sent g) (octets_sent es)))
        ∙ append_assoc (block_sent e ++ block_sent g) (octets_sent es) more in
        found_at _ (length before) (ap aligned part ∙ two_aligned (block_sent e) (block_sent g) (octets_sent es ++ more) f.0 f.1.0) small

-- ---- a walk's step over a block that was sent
-- its alignment word is right, so nothing is lost
no_wrong : (b : List ℕ) → Framed b → wrong_bits b ≡ 0
unfolding wrong_bits xors xor weight
no_wrong b f = ap (λ (l : List Bool). weight (xors l (even_alignment ++ (true ∷ [])))) f.word

not_lost : (r : Reader) (b : List ℕ) → Framed b → is_lost (step_of r (signs_of b)).report ≡ false
unfolding step_of report_of
not_lost r b f = rw (no_wrong b f) (go (known r))
  where
    go : (k : Bool) → is_lost (record { standing = cond k Read Waiting; verdict = None; reading = NotRead }) ≡ false
    go true = refl
    go false = refl

module _ (recording : List ℕ) (place : ℕ) (r : Reader) (e : Entry) (rest : List ℕ)
    (framed : Framed (block_sent e)) (here : drop place recording ≡ block_sent e ++ rest)
    (small : length recording ≤ 65536) (range : state_in_range r ≡ true)
  where
    block_inside : place + line_octets ≤ length recording
    block_inside =
        let left : length recording - place ≡ line_octets + length rest =
        sym (length-drop place recording) ∙ ap length here ∙ length-append (block_sent e) rest ∙ ap (λ (n : ℕ). n + length rest) framed.length in
        omega arith

    block_here : block_at recording place ≡ block_sent e
    block_here = ap (take line_octets) here ∙ take_at (block_sent e) rest line_octets framed.length

    abbrev p : tracking.Stepped
    p = step_of r (signs_of (block_sent e))

    answered : (b : Buffers) → lengths b ≡ stream_octets → answer_at recording place false r b ≡ Ok (Block p.report)
    unfolding answer_at
    answered b fit =
        let go = rules_go (length recording) place r (lengths b) (record { range = range; streams = fit; small = small; inside = omega (arith, block_inside) }) in
        rw (go, le-ltb (left_from recording place) line_octets (omega (arith, block_inside)), block_here)

    as_read : Steps recording place r (AsRead place r e)
    unfolding step_at buffers_at reading.outcome_of
    as_read b x out fit ex eb =
        let a = answered b fit in
        let is = p.report in
        let x-is = ex ∙ ap (λ (q : Answer). stepped_by q recording place false r) a
        ∙ ap (λ (l : List ℕ). record { answer = Ok (Block is); reader = (step_of r (signs_of l)).state; place = place + line_octets; lost = is_lost is }) block_here in
        let out-is = eb ∙ ap (λ (q : Answer). buffers_by q recording place r b) a ∙ ap (reading.handed_by is.standing r.mode) block_here in
        let fits = takes r _ _ (record { range = range; line-fits = framed.length; streams = fit }) in
        let state = ap (λ (y : Stepped). y.reader) x-is in
        record {
          report = is;
          answer = ap (λ (y : Stepped). y.answer) x-is;
          told = told_handed r (block_sent e) b x.reader is out (ap (λ (q : Reader). reading.outcome q (Ok is)) state ∙ rw fits) out-is;
          state = state;
          stands = ap (λ (y : Stepped). y.place) x-is;
          lost = ap (λ (y : Stepped). y.lost) x-is ∙ not_lost r (block_sent e) framed;
        }

    -- the next block follows
    next_here : (z : List ℕ) → rest ≡ z → drop (place + line_octets) recording ≡ z
    next_here z h = sym (drop-drop line_octets place recording) ∙ ap (drop line_octets) here ∙ drop_at (block_sent e) rest line_octets framed.length ∙ h

    next-range : state_in_range (reader_after r e) ≡ true
    next-range = step_in_range r (block_sent e) range

-- ---- block after block
all_as_read : (recording more : List ℕ) → length recording ≤ 65536 → (es : List Entry) → AllFramed es → (place : ℕ) (r : Reader)
    → drop place recording ≡ octets_sent es ++ more → state_in_range r ≡ true → AllAsRead recording place r es
all_as_read recording more small [] f place r here range = tt
all_as_read recording more small (e ∷ es) f place r here range =
    let at = here ∙ append_assoc (block_sent e) (octets_sent es) more in
    let rest = octets_sent es ++ more in (
      as_read recording place r e rest f.0 at small range,
      all_as_read recording more small es f.1 (place + line_octets) (reader_after r e)
          (next_here recording place r e rest f.0 at small range rest refl)
          (next-range recording place r e rest f.0 at small range),
    )

pub walks_as_read : WalksAsRead
walks_as_read s r xs before more range small =
    all_as_read _ more small (log s xs) (log-framed s xs) (length before) r (from_place before more (log s xs)) range

-- ---- in step over recordings
all_steps_back : (recording : List ℕ) (es : List Entry) (place : ℕ) (r : Reader) → AllAsRead recording place r es → AllBack r es
    → AllStepsBack recording place r es
all_steps_back recording [] place r a b = tt
all_steps_back recording (e ∷ es) place r a b = (
  λ c x out fit ex ec.
      let read = a.0 c x out fit ex ec in
      let back = b.0.hands c _ out fit read.told in
      let told = back.answer in
      let same : read.report ≡ back.report = cc in
      record { outcome = _; back = back; answer = read.answer ∙ ap (λ (x : Report). Ok (Block x)) same },
  all_steps_back recording es (place + line_octets) (reader_after r e) a.1 b.1,
)

pub walk_stays_in_step : WalkStaysInStep
walk_stays_in_step s r xs before more bits st small =
    all_steps_back _ (log s xs) (length before) r
    (walks_as_read s r xs before more st.placed.range small) (stays_in_step s r xs bits st)

-- ---- and coming into step
walked_on : (n : ℕ) (recording : List ℕ) (es : List Entry) (place : ℕ) (r : Reader) → AllAsRead recording place r es → n ≤ length es
    → walkedOn n recording place false r ≡ reader_on n r es
walked_on zero recording es place r a h = refl
walked_on (suc n) recording [] place r a h = absurd (omega arith)
walked_on (suc n) recording (e ∷ es) place r a h =
    let x = a.0 zeroed (look_at recording place false r) (buffers_at recording place false r zeroed) refl
    (look-step recording place false r zeroed refl) refl in
    rw (x.stands, x.lost, x.state) (walked_on n recording es (place + line_octets) (reader_after r e) a.1 (omega arith))

pub walk_comes_into_step : WalkComesIntoStep
walk_comes_into_step s r xs before more range bits waits small enough none same =
    subst (InStep (sender_on (until_six s.block.0) s (log s xs)))
    (sym (walked_on (until_six s.block.0) _ (log s xs) (length before) r (walks_as_read s r xs before more waits.range small) enough))
    (comes_into_step s r xs range bits waits enough none same)
