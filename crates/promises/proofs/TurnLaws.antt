-- What one call of a session does: it is refused and leaves all as it was, or its word goes out by one rule.
use mathlib.Core.Path.{◌≡◌, refl}
use mathlib.Core.List.{List, ◌∷◌}
use mathlib.Core.Logic.{◌⊎◌, inl, inr}
use lib.ListN.{length}
use Rattle.crc.specs.Crc.{block_crc_of}
use Rattle.control.specs.Plans.{plan_by}
use Rattle.control.specs.Rules.{rule_of}
use Rattle.control.specs.Decisions.{next_by, with_remainder, decision_of}
use Rattle.sending.specs.Step.{block_for, ruled, outcome_of, line_of}
use Rattle.sender.specs.declared.Sender.{Sender}
use Rattle.control.specs.declared.Rule.{Rule}
use Rattle.control.specs.declared.Rule.TheVariants.{AsItem, MuteOff, Release, Offered}
use Rattle.std.specs.Prelude.{Ok, Err}
use Rattle.refusals.specs.Rows.{Ruling}
use Rattle.refusals.specs.declared.Refusal.{Refusal}
use Rattle.control.proofs.GoesLaws.{Goes, goes}
use Rattle.buffers.specs.Buffers.{lengths}
use Rattle.promises.specs.Session.{Turn, turned, after, log, entry_of}

pub record Stayed (s : Sender) (x : Turn) : Type 0 where
  pub why : Refusal
  pub answer : (turned s x).outcome.answer ≡ Err why
  pub state : after s x ≡ s
  pub line : (turned s x).line ≡ x.line

-- `goes` says that the state is in range and the three lengths; the rule is that of the state and mute
pub record Moved (s : Sender) (x : Turn) (rule : Rule) : Type 0 where
  pub goes : Goes s x.call (length x.line) (lengths x.lent)
  pub rule_is : rule ≡ rule_of s x.call.mute
  pub answer : (turned s x).outcome.answer ≡ Ok (plan_by rule s x.call.code).went
  pub state : after s x ≡ with_remainder (next_by (plan_by rule s x.call.code) s) (block_crc_of (turned s x).line)
  pub line : (turned s x).line ≡ block_for s x.call (plan_by rule s x.call.code).word x.lent

pub turn_cases : (s : Sender) (x : Turn) → Stayed s x ⊎ ((rule : Rule) × Moved s x rule)
unfolding turned outcome_of line_of decision_of
turn_cases s x = go (ruled s x.call x.lent x.line) refl
  where
    go : (q : Ruling) → ruled s x.call x.lent x.line ≡ q → Stayed s x ⊎ ((rule : Rule) × Moved s x rule)
    go (Err r) e = inl (record { why = r; answer = rw e; state = rw (e, after); line = rw e })
    go (Ok tt) e =
        inr (rule_of s x.call.mute, record { goes = goes s x.call _ _ e; rule_is = refl; answer = rw e; state = rw (e, after); line = rw e })

-- ---- the log after a call that is refused, and after one whose word goes
pub log-stayed : (s : Sender) (x : Turn) (xs : List Turn) → Stayed s x → log s (x ∷ xs) ≡ log s xs
log-stayed s x xs w = rw (w.answer, w.state)

pub log_went : (s : Sender) (x : Turn) (xs : List Turn) (rule : Rule) → Moved s x rule
    → log s (x ∷ xs) ≡ entry_of s x ∷ log (after s x) xs
unfolding plan_by
log_went s x xs AsItem w = rw w.answer
log_went s x xs MuteOff w = rw w.answer
log_went s x xs Release w = rw w.answer
log_went s x xs Offered w = rw w.answer
