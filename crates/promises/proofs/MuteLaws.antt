-- Demand 3, its second part: where mute stays set, its own "audio off" has gone as a command by the second accepted call.
use mathlib.Core.Path.{◌≡◌, refl, subst, ◌∙◌}
use mathlib.Core.Bool.{true, cond}
use mathlib.Core.List.{List, [], ◌∷◌}
use mathlib.Core.Logic.{◌⊎◌, inl, inr}
use Prim.Native.Nat.{ℕ, zero, suc, ◌<◌, suc-le-suc}
use native.Mathlib.Nat.{not-suc-le-zero}
use native.Mathlib.Omega.{arith}
use Rattle.slots.specs.Slots.{is_item}
use Rattle.slots.specs.declared.Due.{Due}
use Rattle.slots.specs.declared.Due.TheVariants.{Plain, AnItem}
use Rattle.sender.specs.State.{word_due, sounding}
use Rattle.control.specs.Rules.{rule_of}
use Rattle.control.specs.Plans.{plan_by}
use Rattle.sender.specs.declared.Sender.{Sender}
use Rattle.control.specs.declared.Rule.{Rule}
use Rattle.control.specs.declared.Rule.TheVariants.{AsItem, MuteOff}
use Rattle.promises.specs.Session.{Turn, Entry, after, log, entry_of}
use Rattle.promises.specs.Demand3.{MuteStaysSet, MuteGone, By, MuteBound}
use Rattle.promises.proofs.RuleLaws.{due_cases}
use Rattle.promises.proofs.TurnLaws.{Stayed, Moved, turn_cases, log-stayed, log_went}

-- ---- one of the first n
by_none : (n : ℕ) (P : Entry → Type 0) → 0 < n → By n P []
by_none zero P h = absurd (not-suc-le-zero h)
by_none (suc n) P h = tt

by_here : (n : ℕ) (P : Entry → Type 0) (e : Entry) (es : List Entry) → 0 < n → P e → By n P (e ∷ es)
by_here zero P e es h p = absurd (not-suc-le-zero h)
by_here (suc n) P e es h p = inl p

by_more : (m n : ℕ) (P : Entry → Type 0) (es : List Entry) → m < suc n → By m P es → By n P es
by_more zero n P es h b = absurd b
by_more (suc m) n P [] h b = by_none n P (omega arith)
by_more (suc m) zero P (e ∷ es) (suc-le-suc h) b = absurd (not-suc-le-zero h)
by_more (suc m) (suc n) P (e ∷ es) (suc-le-suc h) (inl p) = inl p
by_more (suc m) (suc n) P (e ∷ es) (suc-le-suc h) (inr b) = inr (by_more m n P es h b)

by_later : (m n : ℕ) (P : Entry → Type 0) (e : Entry) (es : List Entry) → m < n → By m P es → By n P (e ∷ es)
by_later m zero P e es h b = absurd (not-suc-le-zero h)
by_later m (suc n) P e es h b = inr (by_more m n P es h b)

-- ---- the count_down, for any bound: while `Waits` holds, each accepted call with mute set has P or brings `left` down
module _ (P : Entry → Type 0) (Waits : Sender → Type 0) (left : Sender → ℕ)
    (some : (s : Sender) → Waits s → 0 < left s)
    (moves : (s : Sender) (x : Turn) (rule : Rule) → Waits s → x.call.mute ≡ true → Moved s x rule
    → P (entry_of s x) ⊎ (Waits (after s x) × (left (after s x) < left s)))
  where
    count_down : (xs : List Turn) (s : Sender) → Waits s → MuteStaysSet xs → By (left s) P (log s xs)
    count_down [] s w m = by_none (left s) P (some s w)
    count_down (x ∷ xs) s w m = go (count_down xs s w m.1) (λ v. count_down xs (after s x) v m.1) (turn_cases s x)
      where
        e : Entry
        e = entry_of s x

        sent : (Waits (after s x) → By (left (after s x)) P (log (after s x) xs))
            → P e ⊎ (Waits (after s x) × (left (after s x) < left s)) → By (left s) P (e ∷ log (after s x) xs)
        sent next (inl p) = by_here (left s) P e (log (after s x) xs) (some s w) p
        sent next (inr q) = by_later (left (after s x)) (left s) P e (log (after s x) xs) q.1 (next q.0)

        go : By (left s) P (log s xs) → (Waits (after s x) → By (left (after s x)) P (log (after s x) xs))
            → Stayed s x ⊎ ((rule : Rule) × Moved s x rule) → By (left s) P (log s (x ∷ xs))
        go here next (inl q) = rw (log-stayed s x xs q) here
        go here next (inr (rule, q)) = rw (log_went s x xs rule q) (sent next (moves s x rule w m.0 q))

-- ---- here: two calls where an item is due, since it goes first and leaves audio in force; else one
abbrev calls_left : Due → ℕ
calls_left due = cond (is_item due) 2 1

calls_few : (s : Sender) → (0 < calls_left (word_due s)) × (calls_left (word_due s) < 3)
calls_few = due_cases (λ d. (0 < calls_left d) × (calls_left d < 3)) (omega arith, omega arith) (omega arith, omega arith)

abbrev Moves : Sender → Turn → Type 0
Moves s x =
    MuteGone (entry_of s x)
    ⊎ ((sounding (after s x) ≡ true) × (calls_left (word_due (after s x)) < calls_left (word_due s)))

mute_moves : (s : Sender) (x : Turn) (rule : Rule) → sounding s ≡ true → x.call.mute ≡ true → Moved s x rule → Moves s x
unfolding plan_by rule_of
mute_moves s x rule h m w = due_cases (λ d. word_due s ≡ d → Moves s x) item plain s refl
  where
    item : word_due s ≡ AnItem → Moves s x
    item d =
        let own : rule_of s x.call.mute ≡ AsItem = rw d in
        let i : Moved s x AsItem = subst (λ (q : Rule). Moved s x q) (w.rule_is ∙ own) w in
        inr (rw i.state h, rw (i.state, d) (omega arith))

    plain : word_due s ≡ Plain → Moves s x
    plain d =
        let own : rule_of s x.call.mute ≡ MuteOff = rw (d, h, m) in
        let o : Moved s x MuteOff = subst (λ (q : Rule). Moved s x q) (w.rule_is ∙ own) w in
        inl (record { command = d; muted = m; held = o.answer; octets = o.line })

pub mute_bound : MuteBound
mute_bound s xs h m =
    by_more (calls_left (word_due s)) 2 MuteGone (log s xs) (calls_few s).1
    (count_down MuteGone (λ u. sounding u ≡ true) (λ u. calls_left (word_due u)) (λ u w. (calls_few u).0) mute_moves xs s h m)
