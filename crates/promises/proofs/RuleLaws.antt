-- By which rule a word goes: what the rule says of the answer, the word, the offered code and the chosen audio.
use mathlib.Core.Path.{◌≡◌, refl}
use mathlib.Core.Bool.{Bool, true, false, not, cond, ◌&&◌, ◌||◌}
use lib.Dec.{eqb}
use Rattle.std.specs.Prelude.{Ok}
use Rattle.codes.specs.Commands.{command_of, offered}
use Rattle.codes.specs.declared.Command.{Command}
use Rattle.codes.specs.declared.Command.TheVariants.{Neutral, SetAudio, SetLsd, NoEffect}
use Rattle.slots.specs.Slots.{is_item}
use Rattle.slots.specs.declared.Due.{Due}
use Rattle.slots.specs.declared.Due.TheVariants.{Plain, AnItem}
use Rattle.sender.specs.State.{word_due, sounding, choosing, chosen_mode}
use Rattle.control.specs.Rules.{rule_of}
use Rattle.control.specs.Plans.{plan_by}
use Rattle.control.specs.Refusals.{goes_plain, goes_as_item}
use Rattle.sender.specs.declared.Sender.{Sender}
use Rattle.control.specs.declared.Call.{Call}
use Rattle.control.specs.declared.Rule.{Rule}
use Rattle.control.specs.declared.Rule.TheVariants.{AsItem, MuteOff, Release, Offered}
use Rattle.control.specs.declared.Went.TheVariants.{Sent, Held}
use Rattle.promises.specs.Demand1.{held, plain}
use Rattle.promises.specs.Demand2.{word_told, chosen_by}

-- what holds where an item is due and where a plain word is holds of what is due
pub due_cases : (P : Due → Type 0) → P AnItem → P Plain → (s : Sender) → P (word_due s)
due_cases P item none s = go (not (eqb s.due 0))
  where
    go : (i : Bool) → P (cond i AnItem Plain)
    go true = item
    go false = none

-- a rule looks at what is due, whether mute is set, audio is in force and audio is chosen: what holds in each of the six cases holds of the rule
each_rule : (P : Due → Bool → Bool → Bool → Rule → Type 0)
    → ((m f k : Bool) → P AnItem m f k AsItem)
    → ((k : Bool) → P Plain true true k MuteOff)
    → P Plain false false true Release
    → ((k : Bool) → P Plain true false k Offered)
    → ((k : Bool) → P Plain false true k Offered)
    → P Plain false false false Offered
    → (s : Sender) (mute : Bool) → P (word_due s) mute (sounding s) (choosing s) (rule_of s mute)
unfolding rule_of
each_rule P item off release muted opened none s mute = go (not (eqb s.due 0)) mute (sounding s) (choosing s)
  where
    go : (i m f k : Bool) → (let d = cond i AnItem Plain in
        P d m f k (cond (is_item d) AsItem (cond (m && f) MuteOff (cond (not m && not f && k) Release Offered))))
    go true m f k = item m f k
    go false true true k = off k
    go false true false k = muted k
    go false false true k = opened k
    go false false false true = release
    go false false false false = none

-- an item goes exactly where one is due
pub rule_due : (s : Sender) (mute : Bool) → goes_as_item (rule_of s mute) ≡ is_item (word_due s)
rule_due =
    each_rule (λ d m f k rule. goes_as_item rule ≡ is_item d)
    (λ m f k. refl) (λ k. refl) refl (λ k. refl) (λ k. refl) refl

pub due_by_rule : (s : Sender) (mute : Bool) → word_due s ≡ cond (goes_as_item (rule_of s mute)) AnItem Plain
due_by_rule s mute = rw (rule_due s mute) (due_cases (λ d. d ≡ cond (is_item d) AnItem Plain) refl refl s)

-- the offered code goes plain where no item is due and it is not held
pub rule_plain : (s : Sender) (c : Call) → goes_plain (rule_of s c.mute) ≡ plain s c
rule_plain s c =
    each_rule (λ d m f k rule. goes_plain rule ≡ (not (not (is_item d) && (m && f || not m && not f && k)) && not (is_item d)))
    (λ m f k. refl) (λ k. refl) refl (λ k. refl) (λ k. refl) refl s c.mute

-- the answer says whether the offered code is held
pub rule_answer : (s : Sender) (c : Call) → (plan_by (rule_of s c.mute) s c.code).went ≡ cond (held s c) Held Sent
unfolding plan_by
rule_answer s c =
    each_rule (λ d m f k rule. (plan_by rule s c.code).went ≡ cond (not (is_item d) && (m && f || not m && not f && k)) Held Sent)
    (λ m f k. refl) (λ k. refl) refl (λ k. refl) (λ k. refl) refl s c.mute

-- and which word went
pub rule_word : (s : Sender) (c : Call)
    → word_told (Ok (plan_by (rule_of s c.mute) s c.code).went) c.mute s c.code ≡ (plan_by (rule_of s c.mute) s c.code).word
unfolding plan_by
rule_word s c =
    each_rule (λ d m f k rule. word_told (Ok (plan_by rule s c.code).went) m s c.code ≡ (plan_by rule s c.code).word)
    (λ m f k. refl) (λ k. refl) refl (λ k. refl) (λ k. refl) refl s c.mute

-- only an offered command changes what is chosen
offered-chosen : (s : Sender) (command : Command) → (offered command (chosen_mode s)).audio ≡ chosen_by command s.chosen
unfolding offered
offered-chosen s Neutral = refl
offered-chosen s (SetAudio v) = refl
offered-chosen s (SetLsd v) = refl
offered-chosen s NoEffect = refl

pub rule_chosen : (s : Sender) (c : Call)
    → (plan_by (rule_of s c.mute) s c.code).chosen ≡ cond (plain s c) (chosen_by (command_of c.code) s.chosen) s.chosen
unfolding plan_by
rule_chosen s c =
    let offer = offered-chosen s (command_of c.code) in
    each_rule (λ d m f k rule. (plan_by rule s c.code).chosen
    ≡ cond (not (not (is_item d) && (m && f || not m && not f && k)) && not (is_item d)) (chosen_by (command_of c.code) s.chosen) s.chosen)
    (λ m f k. refl) (λ k. refl) refl (λ k. offer) (λ k. offer) offer s c.mute
