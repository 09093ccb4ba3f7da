-- A session over the lent state is a session by value, and a block read in C is a block read, in the numbers that cross to C.
use mathlib.Core.Path.{◌≡◌, refl, sym, ap, ◌∙◌}
use mathlib.Core.List.{List, [], ◌∷◌, map}
use Rattle.std.specs.Prelude.{Ok}
use Rattle.words.specs.Readings.{reading_kind, reading_code}
use Rattle.sender.specs.declared.Sender.{Sender}
use Rattle.track.specs.Parts.{standing_number, verdict_number}
use Rattle.reading.specs.Step.{outcome_of}
use Rattle.reading.proofs.OutcomeLaws.{told}
use Rattle.calls.specs.Sending.{sent}
use Rattle.answers.specs.Answers.{read_answer_of}
use Rattle.answers.specs.declared.ReadAnswer.{ReadAnswer}
use Rattle.promises.specs.Session.{turned, run, block_sent}
use Rattle.promises.specs.Lent.{Given, LeftInC, LeavesInC, AllowedInC, turn_of, in_c, LentIsSession, LentSilence, ReadBackInC}
use Rattle.promises.proofs.SilenceLaws.{run_allowed, silence}

-- what one call leaves is what the same call by value leaves
left_is : (s : Sender) (x : Given) (l : LeftInC) → LeavesInC s x l → l ≡ in_c (turned s (turn_of x))
unfolding sent turned
left_is s x l h = λ i. record { state = h.1 i; answer = h.0 i; line = h.2 i }

lent-run : (s : Sender) (xs : List Given) (ls : List LeftInC) → AllowedInC s xs ls → ls ≡ map in_c (run s (map turn_of xs))
lent-run s [] [] h = refl
lent-run s [] (l ∷ ls) h = absurd h
lent-run s (x ∷ xs) [] h = absurd h
lent-run s (x ∷ xs) (l ∷ ls) h = joined (left_is s x l h.0) (lent-run l.state xs ls h.1)
  where
    joined : l ≡ in_c (turned s (turn_of x)) → ls ≡ map in_c (run l.state (map turn_of xs)) → l ∷ ls ≡ map in_c (run s (map turn_of (x ∷ xs)))
    joined e i = cc

pub lent_is_session : LentIsSession
lent_is_session s xs ls h = (run s (map turn_of xs), run_allowed s (map turn_of xs), lent-run s xs ls h)

pub lent-silence : LentSilence
lent-silence s xs ys ls ms h k alike =
    let p = run s (map turn_of xs) in
    let q = run s (map turn_of ys) in
    let same : p ≡ q = silence s (map turn_of xs) (map turn_of ys) p q (run_allowed s (map turn_of xs)) (run_allowed s (map turn_of ys)) alike in
    lent-run s xs ls h ∙ ap (map in_c) same ∙ sym (lent-run s ys ms k)

pub read-back_in_C : ReadBackInC
read-back_in_C e r back b a next out fit (ea, en, eb) =
    let h = back.hands b (outcome_of r (block_sent e) b) out fit (told r (block_sent e) b _ out refl eb) in
    let is : a ≡ read_answer_of (Ok h.report) = ea ∙ ap read_answer_of h.answer in
    record {
      accepted = (ap (λ (q : ReadAnswer). q.kind) is, ap (λ (q : ReadAnswer). q.number) is);
      read = ap (λ (q : ReadAnswer). q.block.standing) is ∙ ap standing_number h.read;
      kind = ap (λ (q : ReadAnswer). q.block.reading) is ∙ ap reading_kind h.word;
      code = ap (λ (q : ReadAnswer). q.block.code) is ∙ ap reading_code h.word;
      first = λ z. ap (λ (q : ReadAnswer). q.block.verdict) is ∙ ap verdict_number (h.first z);
      good = λ g. ap (λ (q : ReadAnswer). q.block.verdict) is ∙ ap verdict_number (h.good g);
      streams = h.streams;
      state = en ∙ h.state;
    }
