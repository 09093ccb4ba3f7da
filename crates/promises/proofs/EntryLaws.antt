-- Demand 1 of the other entry points, each from the call that it is thin over.
use mathlib.Core.Path.{◌≡◌, refl, sym, ap, ◌∙◌}
use mathlib.Core.Bool.{Bool, true, false, not, cond, false≢true}
use mathlib.Core.List.{List, ◌++◌}
use mathlib.Core.Logic.{◌⊎◌, inl, inr}
use Prim.Native.Nat.{ℕ}
use native.Mathlib.Omega.{arith}
use lib.Dec.{eqb}
use Rattle.std.specs.Prelude.{Result, Ok, Err}
use Rattle.refusals.specs.declared.Refusal.{Refusal}
use Rattle.reader.specs.declared.Reader.{Reader}
use Rattle.text.proofs.OverLaws.{written-fits, written-cut}
use Rattle.refusals.proofs.RowLaws.{number-within, numbered}
use Rattle.search.specs.Finding as finding
use Rattle.search.specs.Finding.{Found, search_of}
use Rattle.control.specs.Refusals as sender-list
use Rattle.sender.specs.declared.Sender.{Sender}
use Rattle.control.specs.declared.Rule.{Rule}
use Rattle.control.specs.declared.Went.TheVariants.{Sent, Held}
use Rattle.reading.specs.Refusals as reader-list
use Rattle.reading.specs.Step as reading
use Rattle.reading.proofs.OutcomeLaws.{told, look-read}
use Rattle.recording.specs.Refusals as walk-list
use Rattle.recording.specs.Walk.{Stepped, step_at}
use Rattle.recording.specs.declared.Met.TheVariants.{Block, Place, End}
use Rattle.recording.proofs.StepLaws.{look-step}
use Rattle.walk.specs.declared.Walk.{Walk}
use Rattle.wording.specs.Lines.{number_line}
use Rattle.scribe.specs.Listing.{listing_by, listing_of}
use Rattle.scribe.proofs.ListingLaws.{listing-ends}
use Rattle.answers.specs.declared.SendAnswer.{SendAnswer}
use Rattle.answers.specs.declared.ReadAnswer.{ReadAnswer}
use Rattle.answers.specs.declared.SearchAnswer.{SearchAnswer}
use Rattle.answers.specs.declared.StepAnswer.{StepAnswer}
use Rattle.presetting.specs.declared.PresetAnswer.{PresetAnswer}
use Rattle.presetting.specs.declared.PresetBits.{PresetBits}
use Rattle.presets.specs.Presets.{preset_read, preset_number}
use Rattle.presets.specs.declared.PresetRead.{PresetRead}
use Rattle.presets.specs.declared.PresetUnread.{PresetUnread}
use Rattle.presetting.specs.Presetting.{preset_answer_of, preset_state_of}
use Rattle.calls.specs.Sending.{on}
use Rattle.calls.specs.Sending as call-sends
use Rattle.calls.specs.Walking.{mark_after}
use Rattle.keeping.specs.declared.WalkState.{WalkState}
use Rattle.calls.proofs.ReadLaws.{mark_still}
use Rattle.buffers.specs.Lengths.{zeroed}
use Rattle.promises.specs.Session.{Turn, turned}
use Rattle.promises.specs.Demand1.{Row, first, Refuses, held, searching_rows}
use Rattle.promises.specs.EntryPoints.{Looking, WalkLooking, StepOfWalk, LookOfWalk, call_in_c, SendingInC, ReadingInC, SearchingInC, SteppingInC, ReadingPresetInC, WritingPresetInC, Listing}
use Rattle.promises.proofs.TurnLaws.{Stayed, Moved, turn_cases}
use Rattle.promises.proofs.RefusalLaws.{sending_refuses, reading_refuses, searching_refuses, stepping_refuses, reading_preset_refuses, writing_preset_refuses}
use Rattle.promises.proofs.InStepLaws.{answered}
use Rattle.promises.proofs.SilenceLaws.{turn_told}

-- ---- one refusal told by another call: the same rows, the same number, and no more is touched
refuses_as : {n m : ℕ} {rows : List Row} {kept more : Type 0} → Refuses n rows kept → m ≡ n → (kept → more) → Refuses m rows more
refuses_as r e f = record { ordered = r.ordered; exact = e ∙ r.exact; kept = λ h. f (r.kept (λ z. h (e ∙ z))) }

-- ---- the looks
pub looking : Looking
looking s line r e =
    let t = reading_refuses s line zeroed r _ (told s line zeroed r _ (e ∙ look-read s line zeroed refl) refl) in
    record { ordered = refl; exact = t.exact; kept = λ h. (t.kept h).0 }

pub walk-looking : WalkLooking
walk-looking recording place lost s r e =
    let t = stepping_refuses recording place lost s zeroed r _ (e ∙ look-step recording place lost s zeroed refl) refl in
    record { ordered = refl; exact = t.exact; kept = λ h. let k = t.kept h in (k.0, k.1, k.2) }

-- ---- the walk's functions: what they give is what the step gives, with the walk where the step leaves it
moved : (w : Walk) (place : ℕ) (lost : Bool) → place ≡ w.stand.place → lost ≡ w.stand.lost
    → record { recording = w.recording; stand = record { place = place; lost = lost } } ≡ w
moved w place lost p l = λ i. record { recording = w.recording; stand = record { place = p i; lost = l i } }

pub step_of_walk : StepOfWalk
step_of_walk w v s n b r out e t f =
    refuses_as (stepping_refuses w.recording.now w.stand.place w.stand.lost s b _ out refl f)
    (ap (λ (o : Stepped). walk-list.number_in o.answer) t)
    (λ k. (e ∙ moved w _ _ k.1 k.2, ap (λ (o : Stepped). o.reader) t ∙ k.0, k.3))

pub look_of_walk : LookOfWalk
look_of_walk w v s n r e t =
    refuses_as (walk-looking w.recording.now w.stand.place w.stand.lost s _ refl)
    (ap (λ (o : Stepped). walk-list.number_in o.answer) t)
    (λ k. (e ∙ moved w _ _ k.1 k.2, ap (λ (o : Stepped). o.reader) t ∙ k.0))

-- ---- a kind says that a call is refused exactly where its number is not 0
kind-sent : (a : sender-list.Answer) → eqb (sender-list.kind_of a) 2 ≡ not (eqb (sender-list.number_in a) 0)
kind-sent (Ok Sent) = refl
kind-sent (Ok Held) = refl
kind-sent (Err r) = rw (numbered r)

kind-read : (a : reader-list.Answer) → eqb (reader-list.kind_of a) 1 ≡ not (eqb (reader-list.number_in a) 0)
kind-read (Ok report) = refl
kind-read (Err r) = rw (numbered r)

kind-walked : (a : walk-list.Answer) → eqb (walk-list.kind_of a) 3 ≡ not (eqb (walk-list.number_in a) 0)
kind-walked (Ok (Block report)) = refl
kind-walked (Ok (Place p)) = refl
kind-walked (Ok (End left)) = refl
kind-walked (Err r) = rw (numbered r)

tells_as : {k n m : ℕ} (kind refused : ℕ) → kind ≡ k → n ≡ m → eqb k refused ≡ not (eqb m 0) → eqb kind refused ≡ not (eqb n 0)
tells_as kind refused e f h = rw (e, f) h

-- ---- the exported calls
-- an accepted call says whether its code is held
held_or_sent : (s : Sender) (x : Turn) → sender-list.number_in (turned s x).outcome.answer ≡ 0
    → sender-list.kind_of (turned s x).outcome.answer ≡ cond (held s x.call) 1 0
held_or_sent s x none = go (turn_cases s x)
  where
    kind : (b : Bool) → sender-list.kind_of (Ok (cond b Held Sent)) ≡ cond b 1 0
    kind true = refl
    kind false = refl

    go : Stayed s x ⊎ ((rule : Rule) × Moved s x rule) → sender-list.kind_of (turned s x).outcome.answer ≡ cond (held s x.call) 1 0
    go (inl k) =
        let numbered = kind-sent (Err k.why) in
        absurd (false≢true (sym (ap (λ (n : ℕ). not (eqb n 0)) (ap sender-list.number_in (sym k.answer) ∙ none)) ∙ sym numbered))
    go (inr (rule, w)) = ap sender-list.kind_of (answered s x rule w) ∙ kind (held s x.call)

pub sending_in_C : SendingInC
unfolding call-sends.sent turned
sending_in_C s mute code a e t b line r next l (er, en, el) =
    let x : Turn = record { call = call_in_c mute code a e t; lent = b; line = line } in
    let number = ap (λ (q : SendAnswer). q.number) er in
    let kind = ap (λ (q : SendAnswer). q.kind) er in (
      record {
        refuses = refuses_as (sending_refuses s x.call b line _ _ (turn_told s x)) number (λ k. (en ∙ k.0, el ∙ k.1));
        told = tells_as r.kind 2 kind number (kind-sent (turned s x).outcome.answer);
      },
      λ z. kind ∙ held_or_sent s x (sym number ∙ z),
    )

pub reading_in_C : ReadingInC
reading_in_C s line b r next out (er, en, eb) =
    let number = ap (λ (q : ReadAnswer). q.number) er in
    record {
      refuses = refuses_as (reading_refuses s line b _ out (told s line b _ out refl eb)) number (λ k. (en ∙ k.0, k.1));
      told = tells_as r.kind 1 (ap (λ (q : ReadAnswer). q.kind) er) number (kind-read (reading.outcome_of s line b).answer);
    }

-- an answer without a number is the place
place_told : (f : Found) → finding.found_number f ≡ 0 → f ≡ Ok (finding.found_place f)
place_told (Ok p) e = refl
place_told (Err why) e = absurd (omega (arith, (number-within why).0))

pub searching_in_C : SearchingInC
searching_in_C recording start r e =
    let number = ap (λ (q : SearchAnswer). q.number) e in (
      refuses_as (searching_refuses recording start _ refl) number (λ k. k),
      λ z. place_told (search_of recording start) (sym number ∙ z) ∙ ap Ok (sym (ap (λ (q : SearchAnswer). q.place) e)),
    )

-- a walk whose reader, place and mark are as they were
still : (w : WalkState) (s : Reader) (place : ℕ) (lost : Bool) → s ≡ w.reader → place ≡ w.place → lost ≡ on w.lost
    → record { place = place; reader = s; lost = mark_after w.lost lost; reserved = w.reserved } ≡ w
still w s place lost es ep el =
    let mark : mark_after w.lost lost ≡ w.lost = ap (mark_after w.lost) el ∙ mark_still w.lost in
    λ i. record { place = ep i; reader = es i; lost = mark i; reserved = w.reserved }

pub stepping_in_C : SteppingInC
stepping_in_C w recording b r next out (er, en, eb) =
    let number = ap (λ (q : StepAnswer). q.number) er in
    let x = step_at recording w.place (on w.lost) w.reader b in
    record {
      refuses =
          refuses_as (stepping_refuses recording w.place (on w.lost) w.reader b x out refl eb) number
          (λ k. (en ∙ still w _ _ _ k.0 k.1 k.2, k.3));
      told = tells_as r.kind 3 (ap (λ (q : StepAnswer). q.kind) er) number (kind-walked x.answer);
    }

-- a preset's answer has the number of its reading, and one that is refused keeps the state
preset_numbered : (p : Result PresetRead PresetUnread) → (preset_answer_of p).number ≡ preset_number p
preset_numbered (Ok p) = refl
preset_numbered (Err why) = refl

preset_kept : (p : Result PresetRead PresetUnread) (s : Sender) → (preset_number p ≡ 0 → ⊥) → preset_state_of p s ≡ s
preset_kept (Ok p) s h = absurd (h refl)
preset_kept (Err why) s h = refl

pub reading_preset_in_C : ReadingPresetInC
reading_preset_in_C s bits r next (er, en) =
    let t = reading_preset_refuses bits _ refl in
    let number = ap (λ (q : PresetAnswer). q.number) er ∙ preset_numbered (preset_read bits) in
    record {
      ordered = t.ordered;
      exact = number ∙ t.exact;
      kept = λ h. en ∙ preset_kept (preset_read bits) s (λ z. h (number ∙ z));
    }

pub writing_preset_in_C : WritingPresetInC
writing_preset_in_C s r e = refuses_as (writing_preset_refuses s _ refl) (ap (λ (q : PresetBits). q.number) e) (λ k. k)

-- ---- the listings
-- by what the search answers
module _ (recording : List ℕ) where
  abbrev why_none : ℕ
  why_none = first (searching_rows recording 0)

  none_listed : (why_none ≡ 0 → ⊥) → listing_of recording ≡ number_line "none " why_none
  unfolding listing_of
  none_listed some = go (search_of recording 0) refl
    where
      go : (f : Found) → search_of recording 0 ≡ f → listing_by (search_of recording 0) recording ≡ number_line "none " why_none
      go (Ok p) e = absurd (some (sym (searching_refuses recording 0 _ refl).exact ∙ ap finding.found_number e))
      go (Err why) e =
          ap (λ (f : Found). listing_by f recording) e
          ∙ ap (number_line "none ") (sym (ap finding.found_number e) ∙ (searching_refuses recording 0 _ refl).exact)

  place_found : why_none ≡ 0 → search_of recording 0 ≡ Ok (finding.found_place (search_of recording 0))
  place_found none = place_told (search_of recording 0) ((searching_refuses recording 0 _ refl).exact ∙ none)

  found-listed : (p : ℕ) → search_of recording 0 ≡ Ok p → (rest : List ℕ) × (listing_of recording ≡ number_line "found " p ++ rest)
  unfolding listing_of
  found-listed p e = (_, ap (λ (f : Found). listing_by f recording) e)

pub listing : Listing
listing recording text r t w =
    record {
      none = none_listed recording;
      begins = λ z. let f = place_found recording z in let l = found-listed recording _ f in (_, l.0, f, l.1);
      ends = λ z. listing-ends recording _ (place_found recording z);
      whole = λ h. written-fits w (omega (arith, w.place));
      cut = written-cut w;
    }
